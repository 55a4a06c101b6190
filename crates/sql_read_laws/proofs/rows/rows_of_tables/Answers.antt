use Rattle.desk_book.specs.Reads.{submission, submission_count, retries_of, waiting_of, waiting}
use Rattle.desk_book.specs.OpenRows.{is_open_row}
use Rattle.sql_tables.specs.ByName as named
use Rattle.sql_tables.specs.TableReads.{rows_in, row_under_in, is_of, is_retry_of, last_order}
use Rattle.std.proofs.Common.{◌≡◌, ap, sym, ◌∙◌}
use Rattle.std.specs.Prelude.{filter}
use Rattle.desk_book.specs.Reads.{open_rows_of}
use Rattle.sql_read_laws.proofs.CompanyRows.{entries_found, submission_found, retries_found, open_found, count_found}
use Rattle.sql_read_laws.proofs.ReadsAs.{reads_as}
use Rattle.desk_book.specs.Standing.{facts_in}
use Rattle.desk_book.specs.Sums.{exposures_on, exposures_of, rates_of}
use Rattle.desk_rules.specs.ReturnRates.{rates}
use Rattle.sql_tables.specs.Composed.{exposures_in, rates_in, waiting_of_in, waiting_in}
use Rattle.sql_read_laws.proofs.ItemLines.{returns_found, changes_found, all_there}
use Rattle.sql_read_laws.proofs.WaitingRows.{waiting_of_found, waiting_found}
use Rattle.desk_book.specs.Book.{Book}
use Rattle.desk_store.specs.Rows.{flat_book}
use Rattle.sql_read_laws.proofs.rows.rows_of_tables.Goals as goal

pub returns : goal.returns
returns c = record {
  entries_of = λ company. reads_as (rows_in (is_of company)) (λ b. b.rows company) (λ trees t r stored e beside. entries_found t r e (stored.stands named.submissions).rise company);
  submission = λ company reference. reads_as (row_under_in company reference) (submission company reference) (λ trees t r stored e beside. submission_found t r e (stored.stands named.submissions).rise company reference);
  submission_count = λ company. reads_as (last_order company) (submission_count company) (λ trees t r stored e beside. count_found t r e (stored.stands named.submissions).rise company beside.orders);
  retries_of = λ company of index. reads_as (rows_in (is_retry_of company of index)) (retries_of company of index) (λ trees t r stored e beside. retries_found t r e (stored.stands named.submissions).rise company of index);
  open_rows = λ company since rows trees t b stored is told.
      ap (filter (is_open_row since)) told ∙ open_found t is.rows is.encodes (stored.stands named.submissions).rise company since ∙ sym (ap (open_rows_of company since) is.book);
  exposures = λ company day. reads_as (λ t. exposures_in company day t.holidays t) (exposures_of company day)
      (λ trees t r stored e beside. let found = entries_found t r e (stored.stands named.submissions).rise company in λ i. exposures_on (found i) day (e.holidays i));
  rates = λ company day. reads_as (rates_in company day) (rates_of company day) (λ trees t r stored e beside. ap (λ rows. rates (facts_in rows) day) (entries_found t r e (stored.stands named.submissions).rise company));
  waiting_of = λ company. reads_as (waiting_of_in company) (waiting_of company) (λ trees t r stored e beside. waiting_of_found t r e (stored.stands named.submissions).rise company);
  waiting = reads_as waiting_in waiting (λ trees t r stored e beside. waiting_found t r e (stored.stands named.submissions).rise);
  returns_of = λ company returns trees t b stored is told.
      all_there returns ((flat_book is.rows).returns company) (told ∙ returns_found t is.rows is.encodes (stored.stands named.submissions).rise company)
      ∙ sym (ap (λ (c : Book). c.returns company) is.book);
  changes_of = λ company changes trees t b stored is told.
      all_there changes ((flat_book is.rows).changes company) (told ∙ changes_found t is.rows is.encodes (stored.stands named.submissions).rise company)
      ∙ sym (ap (λ (c : Book). c.changes company) is.book);
}
