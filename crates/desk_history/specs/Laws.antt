-- Equal parts: what a company is answered is a function of its part.
use Rattle.std.specs.Prelude.{◌≡◌, ℕ, List}
use Rattle.desk_history.specs.declared.identity.Identity.{Identity}
use Rattle.desk_history.specs.Request.{Request}
use Rattle.desk_history.specs.Message.{Of, Pair}
use Rattle.desk_history.specs.History.{part}
use Rattle.desk_history.specs.Operator.{answer_to}

-- Two histories with the same part of a company give it the same answers.
abbrev pub TwoWorlds : Type 0
TwoWorlds = (here there : Identity) (H G : List Pair) (c : List ℕ) (r : Request)
    → part here.odfi H c ≡ part there.odfi G c → answer_to here H (Of c r) ≡ answer_to there G (Of c r)
