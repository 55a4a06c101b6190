-- An accepted submission, as it is kept until a cut.
use Rattle.std.specs.Prelude.{ℕ, false, List, length, replicate, Option, None}
use Rattle.desk_rules.specs.declared.rules.entry_fact.EntryState.TheVariants.{Held}
use Rattle.desk_rules.specs.declared.bodies.submission.Retry.{Retry}
use Rattle.desk_rules.specs.declared.bodies.submission.Submission.{Submission}
use Rattle.desk_store.specs.Rows.{CompanyRow}

-- a company's submission or retry with this number, with all its entries held
abbrev pub held_row : (company : List ℕ) → (order : ℕ) → Submission → Option Retry → CompanyRow
held_row c order s retry = record {
  company = c;
  row = record { order = order; content = s; retry = retry; settled = None; lapsed = false; states = replicate (length s.entries) Held };
}
