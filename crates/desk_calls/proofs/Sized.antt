-- The parts of a submission that is not too large.
use Rattle.std.proofs.Common.{◌≡◌, Result, Ok, Err, refl}
use Rattle.desk_rules.specs.Chain.{◌>>=◌}
use Rattle.desk_rules.specs.Size.{size_of, sized_of}
use Rattle.desk_rules.specs.declared.bodies.submission.Submission.{Submission}
use Rattle.desk_rules.specs.declared.refusals.refusal.Refusal.{Refusal}

by_size : (s x : Submission) (size : Result (Unit {0}) Refusal) → size >>= (λ _. Ok s) ≡ Ok x → (size ≡ Ok tt) × (x ≡ s)
by_size s x (Ok tt) is = (refl, cc)
by_size s x (Err why) is = absurd cc

pub sized_parts : (s x : Submission) → sized_of s ≡ Ok x → (size_of s ≡ Ok tt) × (x ≡ s)
sized_parts s x is = by_size s x (size_of s) is
