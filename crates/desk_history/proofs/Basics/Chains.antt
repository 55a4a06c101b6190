-- Chains of checks that succeed.
use Rattle.std.proofs.Common.{◌≡◌, ◌⊎◌, Bool, true, false, refl, sym, ap, ◌∙◌, inl, inr, if◌then◌else◌, Option, Some, None, Result, Ok, Err}
use Rattle.desk_rules.specs.declared.refusals.refusal.Refusal.{Refusal}
use Rattle.desk_rules.specs.declared.refusals.refusal.Refusal.TheVariants.{RefReused}
use Rattle.desk_rules.specs.Chain.{◌>>=◌}
use Rattle.desk_history.specs.Words.{some_or}
use Rattle.desk_history.specs.Acceptance.{unless_known}

-- the first step gives a value, and the rest succeeds from it
pub record Steps {A B : Type 0} (x : Result A Refusal) (f : A → Result B Refusal) (b : B) : Type 0 where
  pub value : A
  pub first : x ≡ Ok value
  pub rest : f value ≡ Ok b

pub steps : {A B : Type 0} (x : Result A Refusal) (f : A → Result B Refusal) (b : B) → (x >>= f) ≡ Ok b → Steps x f b
steps (Ok a) f b h = record { value = a; first = refl; rest = h }
steps (Err e) f b h = cc

-- what is there was found
pub some_from_ok : {A E : Type 0} (e : E) (o : Option A) (a : A) → some_or e o ≡ Ok a → o ≡ Some a
some_from_ok e (Some x) a h = cc
some_from_ok e None a h = cc

-- a known reference gives what was accepted first, which is the same, and a new one the outcome of the checks
pub known_or_new : {A : Type 0} (same : A → Bool) (found : Option A) (fresh : Result A Refusal) (a : A)
    → unless_known same found fresh ≡ Ok a → ((found ≡ Some a) × (same a ≡ true)) ⊎ ((found ≡ None) × (fresh ≡ Ok a))
known_or_new same None fresh a h = inr (refl, h)
known_or_new {A = A} same (Some first) fresh a h = by (same first) refl h where
  by : (c : Bool) → same first ≡ c → (if c then Ok first else Err RefReused) ≡ Ok a → ((Some first ≡ Some a) × (same a ≡ true)) ⊎ ((Some first ≡ None) × (fresh ≡ Ok a))
  by true is e = let first_is : first ≡ a = cc in inl (ap Some first_is, ap same (sym first_is) ∙ is)
  by false is e = cc
