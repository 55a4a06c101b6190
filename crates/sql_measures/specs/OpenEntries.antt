-- What exposures read of a company's open submissions.
use Rattle.std.specs.Prelude.{◌≡◌, ℕ, true, if◌then◌else◌, List, [], ◌∷◌, map, filter, Vec}
use Rattle.std.specs.declared.alloc.Global.{Global}
use Rattle.desk_rules.specs.Exposure.{is_open_credit}
use Rattle.desk_book.specs.OpenRows.{is_open_row}
use Rattle.desk_book.specs.OpenSubmissions.{open_submission}
use Rattle.desk_book.specs.declared.open_submission.OpenSubmission.{OpenSubmission}
use Rattle.desk_book.specs.declared.row.Row.{Row}
use Rattle.sql_tables.specs.TableReads.{is_open_of, rows_in, whole_row}
use Rattle.sql_tables.specs.Tables.{Tables}
use Rattle.sql_tables.specs.declared.row.submissions.SubmissionHead.{SubmissionHead}
use Rattle.sql_measures.specs.Counted.{state_alone}

-- a company's open submissions
abbrev pub open_entries_in : (company : List ℕ) → (since : ℕ) → Tables → List OpenSubmission
open_entries_in company since t = map open_submission (filter (is_open_row since) (rows_in (is_open_of company since) t))

-- a submission whose entries are all held, or all settle on its day
abbrev pub open_with : SubmissionHead → (total : ℕ) → (cents : List ℕ) → OpenSubmission
open_with head total cents = record {
  order = head.order;
  reference = head.reference;
  direction = head.direction;
  settled = head.settled;
  uniform = true;
  total = total;
  cents = cents;
}

-- one submission if it is open, and none otherwise
abbrev pub if_open : (since : ℕ) → Row → List OpenSubmission
if_open since row = if is_open_row since row then open_submission row ∷ [] else []

-- if an entry that is not returned would be open, this is the submission if it is open
abbrev pub IsReadOf : SubmissionHead → Vec OpenSubmission Global → Tables → Type 0
IsReadOf head found t =
    (since : ℕ) → is_open_credit (state_alone head) since ≡ true → found.items ≡ if_open since (whole_row t head)
