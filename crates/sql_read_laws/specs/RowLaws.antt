-- What is found of a company's rows.
use Rattle.std.specs.Prelude.{◌≡◌, ℕ, List, map, filter, Some}
use Rattle.sql_statements.specs.Books.{Agrees}
use Rattle.desk_rules.specs.declared.bodies.company.Company.{Company}
use Rattle.desk_book.specs.declared.row.Row.{Row}
use Rattle.desk_book.specs.OpenRows.{is_open_row}
use Rattle.desk_book.specs.Reads.{submission, submission_count, open_rows_of, retries_of, waiting_of, waiting}
use Rattle.desk_book.specs.Sums.{exposures_of, rates_of}
use Rattle.desk_history.specs.declared.reports.ChangeRow.{ChangeRow}
use Rattle.desk_history.specs.declared.reports.ReturnRow.{ReturnRow}
use Rattle.sql_tables.specs.Layout.{desk_layout, IsBookIn}
use Rattle.sql_tables.specs.TableReads.{rows_in, row_under_in, is_of, is_open_of, is_retry_of, last_order, return_lines_in, change_lines_in}
use Rattle.sql_tables.specs.Composed.{exposures_in, rates_in, waiting_of_in, waiting_in, return_row_in, change_row_in}
use Rattle.sql_read_laws.specs.ReadsAs.{ReadsAs}

-- A query of open rows may find some that are not open; those that are open are all.
pub record RowLaws : Type 0 where
  pub entries_of : (company : List ℕ) → ReadsAs (rows_in (is_of company)) (λ b. b.rows company)
  pub submission : (company reference : List ℕ) → ReadsAs (row_under_in company reference) (submission company reference)
  pub submission_count : (company : List ℕ) → ReadsAs (last_order company) (submission_count company)
  pub retries_of : (company of : List ℕ) (index : ℕ) → ReadsAs (rows_in (is_retry_of company of index)) (retries_of company of index)
  pub open_rows : (company : List ℕ) (since : ℕ) (rows : List Row) → Agrees desk_layout IsBookIn (λ t. rows ≡ rows_in (is_open_of company since) t) (λ b. filter (is_open_row since) rows ≡ open_rows_of company since b)
  pub exposures : (company : List ℕ) (day : ℕ) → ReadsAs (λ t. exposures_in company day t.holidays t) (exposures_of company day)
  pub rates : (company : List ℕ) (day : ℕ) → ReadsAs (rates_in company day) (rates_of company day)
  pub waiting_of : (company : Company) → ReadsAs (waiting_of_in company) (waiting_of company)
  pub waiting : ReadsAs waiting_in waiting
  pub returns_of : (company : List ℕ) (returns : List ReturnRow) → Agrees desk_layout IsBookIn
      (λ t. map Some returns ≡ map (return_row_in company t) (return_lines_in company t)) (λ b. returns ≡ b.returns company)
  pub changes_of : (company : List ℕ) (changes : List ChangeRow) → Agrees desk_layout IsBookIn
      (λ t. map Some changes ≡ map (change_row_in company t) (change_lines_in company t)) (λ b. changes ≡ b.changes company)
