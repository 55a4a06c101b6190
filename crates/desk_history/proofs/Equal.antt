-- Equal parts.
use Rattle.std.proofs.Common.{ap, List}
use Rattle.desk_history.specs.Part.{Event}
use Rattle.desk_history.specs.Reply.{reply}
use Rattle.desk_history.specs.Laws.{TwoWorlds}

pub two_worlds : TwoWorlds
two_worlds here there H G c r same = ap (λ (P : List Event). reply P r) same
