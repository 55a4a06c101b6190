-- Checks one after another: the first refusal is the answer.
use Rattle.std.specs.Prelude.{ℕ, Bool, if◌then◌else◌, List, [], ◌∷◌, Option, Some, None, Result, Ok, Err}
use Rattle.desk_rules.specs.declared.refusals.refusal.Refusal.{Refusal}
use Rattle.desk_rules.specs.declared.refusals.refusal.Refusal.TheVariants.{BadField}
use Rattle.desk_rules.specs.declared.refusals.refusal.Field.{Field}

infixl 10 ◌>>=◌
-- the first refusal, or the outcome of the value
abbrev pub ◌>>=◌ : {A B : Type 0} → Result A Refusal → (A → Result B Refusal) → Result B Refusal
Ok x >>= f = f x
Err r >>= f = Err r

-- a field's value, or its refusal
abbrev pub good : {A : Type 0} → Field → ℕ → Option A → Result A Refusal
good f i (Some x) = Ok x
good f i None = Err (BadField f i)

-- the refusal of the first row whose condition holds
abbrev pub first_refusal : List (Bool × Refusal) → Result (Unit {0}) Refusal
first_refusal [] = Ok tt
first_refusal (row ∷ rows) = if row.0 then Err row.1 else first_refusal rows
