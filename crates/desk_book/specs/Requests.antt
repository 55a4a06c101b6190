-- The effect of a company's request on the book: it adds one row, or none.
use Rattle.std.specs.Prelude.{ℕ, if◌then◌else◌, List, Option, Some, None, Result, Ok, Err}
use Rattle.std.specs.List.{list_any}
use Rattle.desk_rules.specs.declared.refusals.refusal.Refusal as rules
use Rattle.desk_book.specs.declared.row.Row.{Row}
use Rattle.desk_book.specs.Book.{Book}
use Rattle.desk_history.specs.Request as request
use Rattle.desk_history.specs.Request.{Request}
use Rattle.desk_book.specs.Standing.{is_row_under, submission_row, retry_row}
use Rattle.desk_book.specs.Steps.{add_submission}
use Rattle.desk_book.specs.OnBook.{standing_in}

-- the row that a request adds, if it is accepted under a new reference
abbrev pub row_if_new : List Row → Result Row rules.Refusal → Option Row
row_if_new rs (Err why) = None
row_if_new rs (Ok row) = if list_any (is_row_under row.content.reference) rs then None else Some row

abbrev pub added_row : Book → List ℕ → Request → Option Row
added_row b c (request.Submit d) = row_if_new (b.rows c) (submission_row (standing_in b c) d)
added_row b c (request.Retry d) = row_if_new (b.rows c) (retry_row (standing_in b c) d)
added_row b c _ = None

abbrev pub with_added_row : List ℕ → Option Row → Book → Book
with_added_row c None b = b
with_added_row c (Some row) b = (add_submission c row.order row.content row.retry).after b
