-- Which returns and changes are a company's.
use Rattle.std.specs.Prelude.{◌≡◌, ℕ, List, Option, Some, map, option_map}
use Rattle.desk_history.specs.declared.reports.ChangeRow.{ChangeRow}
use Rattle.desk_history.specs.declared.reports.ReturnRow.{ReturnRow}
use Rattle.sql_tables.specs.declared.row.submissions.SubmissionFacts.{SubmissionFacts}
use Rattle.sql_tables.specs.Composed.{return_row_in, change_row_in}
use Rattle.sql_tables.specs.TableReads.{facts_in, return_lines_in, change_lines_in}
use Rattle.sql_tables.specs.Tables.{Tables}

-- the row of a line, whose submission has this order number: there is none if the submission is not there
abbrev pub row_in : {Line Row : Type 0} → (order : Line → ℕ) → (row : Line → SubmissionFacts → Row) → (company : List ℕ) → Tables → Line → Option Row
row_in order row company t line = option_map (row line) (facts_in company (order line) t)

-- the rows of a company's returns, each with the reference of a submission that is there
abbrev pub AreReturnRowsOf : (company : List ℕ) → List ReturnRow → Tables → Type 0
AreReturnRowsOf company found t = map Some found ≡ map (return_row_in company t) (return_lines_in company t)

-- the same for its notifications of change
abbrev pub AreChangeRowsOf : (company : List ℕ) → List ChangeRow → Tables → Type 0
AreChangeRowsOf company found t = map Some found ≡ map (change_row_in company t) (change_lines_in company t)
