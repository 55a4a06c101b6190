-- Batches of a cut.
use Rattle.std.specs.Prelude.{ℕ, ◌≤◌}
use Rattle.ach_fields.specs.Cents.{most_cents}
use Rattle.desk_plan.specs.declared.batch.Batch.{Batch}

-- how many entries a batch has
abbrev pub IsEntryCount : ℕ → Type 0
IsEntryCount n = (1 ≤ n) × (n ≤ 1000)

-- The batch of an accepted submission: 1 to 1,000 entries, each with at most one addenda, and no more cents than the
-- total fields of a file hold.
pub record IsBatch (b : Batch) : Type 0 where
  pub entries : IsEntryCount b.entries
  pub debits : b.debits ≤ most_cents
  pub credits : b.credits ≤ most_cents
  pub records : b.records ≤ 2000
