-- The sums in memory, for each direction, and how a call changes them.
use Rattle.std.specs.Prelude.{◌≡◌, ℕ, ◌+◌, Bool, true, false, if◌then◌else◌}
use Rattle.remembering_store.specs.DaySums.{cents_on}
use Rattle.remembering_store.specs.declared.sums.company_sums.Sums.{Sums}

-- what is held in a direction
abbrev pub held_in : (debit : Bool) → Sums → ℕ
held_in true sums = sums.held_debits
held_in false sums = sums.held_credits

-- what settles on these days in a direction
abbrev pub settled_in : (debit : Bool) → (days : ℕ → Bool) → Sums → ℕ
settled_in true days sums = cents_on days sums.debits
settled_in false days sums = cents_on days sums.credits

pub record IsEmpty (sums : Sums) : Type 0 where
  pub held : (debit : Bool) → held_in debit sums ≡ 0
  pub settled : (debit : Bool) (days : ℕ → Bool) → settled_in debit days sums ≡ 0

-- cents in one direction, and none in the other
abbrev pub in_direction : (debit of : Bool) → ℕ → ℕ
in_direction true true cents = cents
in_direction true false cents = 0
in_direction false true cents = 0
in_direction false false cents = cents

-- cents of a day, where it passes a test
abbrev pub if_on : (days : ℕ → Bool) → (day : ℕ) → ℕ → ℕ
if_on days day cents = if days day then cents else 0

-- more are held
pub record Holds (debit : Bool) (cents : ℕ) (old new : Sums) : Type 0 where
  pub held : (of : Bool) → held_in of new ≡ held_in of old + in_direction debit of cents
  pub settled : (of : Bool) (days : ℕ → Bool) → settled_in of days new ≡ settled_in of days old

-- fewer are held
pub record Lets (debit : Bool) (cents : ℕ) (old new : Sums) : Type 0 where
  pub held : (of : Bool) → held_in of new + in_direction debit of cents ≡ held_in of old
  pub settled : (of : Bool) (days : ℕ → Bool) → settled_in of days new ≡ settled_in of days old

-- more settle on a day
pub record Settles (debit : Bool) (day cents : ℕ) (old new : Sums) : Type 0 where
  pub held : (of : Bool) → held_in of new ≡ held_in of old
  pub settled : (of : Bool) (days : ℕ → Bool) → settled_in of days new ≡ settled_in of days old + in_direction debit of (if_on days day cents)

-- debits that settled on a day are returned
pub record ComesBack (day cents : ℕ) (old new : Sums) : Type 0 where
  pub held : (of : Bool) → held_in of new ≡ held_in of old
  pub settled : (of : Bool) (days : ℕ → Bool) → settled_in of days new + in_direction true of (if_on days day cents) ≡ settled_in of days old
