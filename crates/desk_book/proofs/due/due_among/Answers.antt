use Rattle.std.proofs.Common.{rules}
use Rattle.std.proofs.lemmas.Fn.{filter_same}
use Rattle.desk_book.proofs.due.due_among.Goals as goal

pub returns : goal.returns
returns c = filter_same _ _ _ (λ one is_kept next called. (search rules, search rules)) _ _ c.retain.ensures.filtered
