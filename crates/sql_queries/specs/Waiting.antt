-- Submissions that wait for a cut, and those that settle from a day on.
use Rattle.std.specs.Prelude.{ℕ, Bool, List, ◌&&◌, is_none, not}
use Rattle.std.specs.declared.cmp.Ordering.{Ordering}
use Rattle.std.specs.Ordering.{nat_cmp, on}
use Rattle.sql_tables.specs.TableReads.{is_of, is_since}
use Rattle.sql_tables.specs.declared.records.SubmissionRecord.{SubmissionRecord}
use Rattle.sql_tables.specs.declared.row.submissions.SubmissionHead.{SubmissionHead}

-- settled IS NULL AND lapsed = 0
abbrev pub waits : SubmissionHead → Bool
waits s = is_none s.settled && not s.lapsed

-- WHERE company = ? AND settled >= ?
abbrev pub is_settled_of : (company : List ℕ) → (since : ℕ) → SubmissionRecord → Bool
is_settled_of c since s = is_of c s && is_since since s.head.settled

-- by their numbers among those of their company
abbrev pub by_head_order : SubmissionHead → SubmissionHead → Ordering
by_head_order = on (λ s. s.order) nat_cmp
