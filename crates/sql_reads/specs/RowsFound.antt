-- Which rows reads find, and what they may be assembled of.
use Rattle.std.specs.Prelude.{◌≡◌, ℕ, List, map, filter, Option, option_map, Vec}
use Rattle.std.specs.declared.alloc.Global.{Global}
use Rattle.desk_book.specs.OpenRows.{is_open_row}
use Rattle.desk_book.specs.declared.row.Row.{Row}
use Rattle.sql_tables.specs.RowParts.{retry_with, state_among}
use Rattle.sql_tables.specs.TableReads.{authorized_in, is_open_of, returns_in, rows_in, whole_row}
use Rattle.sql_tables.specs.Tables.{Tables}
use Rattle.sql_tables.specs.declared.row.items.EntryReturn.{EntryReturn}
use Rattle.sql_tables.specs.declared.row.submissions.SubmissionHead.{SubmissionHead}

-- the rows of submissions of which the heads are known
abbrev pub whole_rows : List SubmissionHead → Tables → List Row
whole_rows heads t = map (whole_row t) heads

-- the rows of a company of which an entry is held or settles on a day or later
abbrev pub open_rows_in : (company : List ℕ) → (since : ℕ) → Tables → List Row
open_rows_in company since t = filter (is_open_row since) (rows_in (is_open_of company since) t)

-- these returns give the entries of a submission the states that its returns in the tables give
abbrev pub GiveStatesOf : SubmissionHead → Vec EntryReturn Global → Tables → Type 0
GiveStatesOf head found t =
    (index : ℕ) → state_among head found.items index ≡ state_among head (returns_in head.company head.order t) index

-- with this authorization a submission retries what it does with the one that the tables have
abbrev pub GivesRetryOf : SubmissionHead → Option ℕ → Tables → Type 0
GivesRetryOf head found t =
    option_map (retry_with head found) head.retried
    ≡ option_map (retry_with head (authorized_in head.company head.order t)) head.retried
