-- The contents of a desk, as look-ups.
use Rattle.std.specs.Prelude.{ℕ, List, map, find, length, Option, option_map}
use Rattle.std.specs.List.{range_with_len}
use Rattle.desk_accounts.specs.declared.posting.Posting.{Posting}
use Rattle.desk_rules.specs.declared.bodies.company.Company.{Company}
use Rattle.desk_history.specs.declared.identity.Identity.{Identity}
use Rattle.desk_history.specs.declared.operations.SuspenseRow.{SuspenseRow}
use Rattle.desk_book.specs.declared.row.Row.{Row}
use Rattle.desk_history.specs.declared.reports.ChangeRow.{ChangeRow}
use Rattle.desk_history.specs.declared.reports.ReturnRow.{ReturnRow}
use Rattle.desk_history.specs.Part.{Event}
use Rattle.desk_history.specs.Accepted.{AcceptedSubmission, settlement_day, has_lapsed, state_of}
use Rattle.desk_history.specs.Acceptance.{submissions}
use Rattle.desk_history.specs.Reports.{returns, changes}
use Rattle.desk_history.specs.Message.{Pair}
use Rattle.desk_history.specs.declared.sent_entry.SentEntry.{SentEntry}
use Rattle.desk_history.specs.History as history
use Rattle.desk_history.specs.History.{part, sent_entries, companies}
use Rattle.desk_history.specs.declared.sent_entry.FilePlace.{FilePlace}
use Rattle.desk_history.specs.Files.{files, file_at, file_count, file_places, text_of}
use Rattle.desk_history.specs.declared.operations.TakenFile.{TakenFile}
use Rattle.desk_history.specs.Intake.{has_key, taken_files, suspense}
use Rattle.desk_history.specs.Postings.{postings}

-- with what cuts and returns made of it: a state for each entry
abbrev pub row_of : List Event → AcceptedSubmission → Row
row_of P a = record {
  order = a.order;
  content = a.content;
  retry = a.retry;
  settled = settlement_day P a;
  lapsed = has_lapsed P a;
  states = map (state_of P a) (range_with_len 1 (length a.content.entries));
}

-- a company's submissions with their entries: a function of its part
abbrev pub rows : List Event → List Row
rows P = map (row_of P) (submissions P)

-- A company's rows are found by its identification. Sequences, files and batches are kept apart from a company's rows.
--
-- All postings are one list, in their order: each line of a company or of suspense is followed by its opposite on the
-- operator's account. The lines of an account are those in the list that name it, and its balances are their sums.
--
-- No answer shows the day, the modifier and the batch under which a file prints a submission. They are kept so that the
-- operator's file can be traced to the submissions in it, and a submission to its file.
pub record Book : Type 0 where
  pub identity : Identity
  pub operator_key : List ℕ
  pub day : Option ℕ
  pub holidays : List ℕ
  pub companies : List Company
  pub rows : List ℕ → List Row
  pub returns : List ℕ → List ReturnRow
  pub changes : List ℕ → List ChangeRow
  pub postings : List Posting
  pub sent : List SentEntry
  pub suspense : List SuspenseRow
  pub file : ℕ → ℕ → Option (List ℕ)
  pub files_on : ℕ → ℕ
  pub taken : List ℕ → Option TakenFile
  pub printed : List ℕ → ℕ → List FilePlace

-- what a desk with this history holds
abbrev pub book_of : Identity → List ℕ → List Pair → Book
book_of identity operator_key H = record {
  identity = identity;
  operator_key = operator_key;
  day = history.day H;
  holidays = history.holidays H;
  companies = companies H;
  rows = λ c. rows (part identity.odfi H c);
  returns = λ c. returns (part identity.odfi H c);
  changes = λ c. changes (part identity.odfi H c);
  postings = postings identity.odfi H;
  sent = sent_entries identity.odfi H;
  suspense = suspense identity.odfi H;
  file = λ d modifier. option_map (text_of identity) (file_at identity.odfi H d modifier);
  files_on = λ d. file_count d (files identity.odfi H);
  taken = λ key. find (has_key key) (taken_files identity.odfi H);
  printed = file_places identity.odfi H;
}
