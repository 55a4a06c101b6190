-- Each message has one meaning.
use Rattle.std.proofs.Common.{◌≡◌, ◌∙◌, sym, ap, refl, Option, Some, None, Ok, Err}
use Rattle.desk_history.specs.Calls.{OneMessage}
use Rattle.desk_history.specs.Message.{Message}
use Rattle.http_history.specs.Verdict.{Verdict, Means}
use Rattle.http_history.specs.Laws.{OneMeaning}

pub one_meaning : OneMessage → OneMeaning
one_meaning one = record { some = some; only = only } where
  some : (v : Verdict) → (means : Option Message) × Means v means
  some (Err fault) = (None, refl)
  some (Ok call) = let m = one.some call in (Some m.0, m.1)

  only : (v : Verdict) (means meant : Option Message) → Means v means → Means v meant → means ≡ meant
  only (Err fault) means meant a b = a ∙ sym b
  only (Ok call) None meant a b = absurd a
  only (Ok call) (Some m) None a b = absurd b
  only (Ok call) (Some m) (Some n) a b = ap Some (one.only call m n a b)
