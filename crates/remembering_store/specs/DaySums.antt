-- Sums of cents by settlement day.
use Rattle.std.specs.Prelude.{ℕ, Bool, if◌then◌else◌, sum_by}
use Rattle.remembering_store.specs.declared.sums.day_sums.DayCents.{DayCents}
use Rattle.remembering_store.specs.declared.sums.day_sums.DaySums.{DaySums}

abbrev pub cents_if : (ℕ → Bool) → DayCents → ℕ
cents_if days x = if days x.day then x.cents else 0

-- the cents of the days that pass a test
abbrev pub cents_on : (ℕ → Bool) → DaySums → ℕ
cents_on days sums = sum_by (cents_if days) sums.items.items
