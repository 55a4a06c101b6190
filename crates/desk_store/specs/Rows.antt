-- The flat lists of a store, each in the order of its key, and the book that they are.
use Rattle.std.specs.Prelude.{ℕ, Bool, ◌&&◌, ◌==◌, List, map, filter, find, count_by, reverse, Option, option_map, bytes_eq}
use Rattle.desk_accounts.specs.declared.posting.Posting.{Posting}
use Rattle.desk_rules.specs.declared.bodies.company.Company.{Company}
use Rattle.desk_history.specs.declared.identity.Identity.{Identity}
use Rattle.desk_history.specs.declared.operations.SuspenseRow.{SuspenseRow}
use Rattle.desk_history.specs.declared.operations.TakenFile.{TakenFile}
use Rattle.desk_book.specs.declared.row.Row.{Row}
use Rattle.desk_history.specs.declared.sent_entry.SentEntry.{SentEntry}
use Rattle.desk_book.specs.Book.{Book}
use Rattle.desk_history.specs.Intake.{has_key}
use Rattle.desk_book.specs.declared.flat_rows.ChangedRow.{ChangedRow}
use Rattle.desk_book.specs.declared.flat_rows.FileRow.{FileRow}
use Rattle.desk_book.specs.declared.flat_rows.ReturnedRow.{ReturnedRow}
use Rattle.desk_book.specs.declared.flat_rows.SentRow.{SentRow}
use Rattle.desk_book.specs.Steps.{is_file}

-- a company's submission or retry with its entries
pub record CompanyRow : Type 0 where
  pub company : List ℕ
  pub row : Row

-- Companies are listed in the byte order of their identifications, everything else in the order in which it was
-- written: a company's submissions by order number, and their entries by index.
pub record Rows : Type 0 where
  pub identity : Identity
  pub operator_key : List ℕ
  pub day : Option ℕ
  pub holidays : List ℕ
  pub companies : List Company
  pub submissions : List CompanyRow
  pub returned : List ReturnedRow
  pub changed : List ChangedRow
  pub postings : List Posting
  pub sent : List SentEntry
  pub printed : List SentRow
  pub suspense : List SuspenseRow
  pub files : List FileRow
  pub taken : List TakenFile

-- ---- the book

abbrev pub is_printed_of : (company : List ℕ) → (order : ℕ) → SentRow → Bool
is_printed_of c order s = bytes_eq s.company c && s.order == order

abbrev pub flat_book : Rows → Book
flat_book r = record {
  identity = r.identity;
  operator_key = r.operator_key;
  day = r.day;
  holidays = r.holidays;
  companies = r.companies;
  rows = λ c. map (λ x. x.row) (filter (λ x. bytes_eq x.company c) r.submissions);
  returns = λ c. map (λ x. x.row) (filter (λ x. bytes_eq x.company c) r.returned);
  changes = λ c. map (λ x. x.row) (filter (λ x. bytes_eq x.company c) r.changed);
  postings = r.postings;
  sent = reverse r.sent;
  suspense = r.suspense;
  file = λ d modifier. option_map (λ f. f.text) (find (is_file d modifier) r.files);
  files_on = λ d. count_by (λ f. f.day == d) r.files;
  taken = λ key. find (has_key key) r.taken;
  printed = λ c order. map (λ s. s.printed) (filter (is_printed_of c order) r.printed);
}
