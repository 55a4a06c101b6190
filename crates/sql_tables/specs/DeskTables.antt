-- The fourteen tables of a desk, each described once: what a column has of a record.
use Rattle.std.specs.Prelude.{ℕ, [], ◌∷◌, option_map}
use Rattle.std.specs.Fmt.{signed_decimal}
use Rattle.desk_book.specs.declared.flat_rows.FileRow.{FileRow}
use Rattle.desk_history.specs.Resolve.{is_savings}
use Rattle.desk_history.specs.declared.operations.TakenFile.{TakenFile}
use Rattle.desk_rules.specs.Fields.{sec_text}
use Rattle.desk_rules.specs.ReturnCodes.{code_text}
use Rattle.desk_rules.specs.declared.bodies.company.Company.{Company}
use Rattle.sql_tables.specs.Columns.{direction_text, cause_text, reason_text, account_text}
use Rattle.sql_tables.specs.Description.{Description, column, texts, letters, line_references, numbers, integers, flags, blobs, texts_if_any, letters_if_any, numbers_if_any, rowids}
use Rattle.sql_tables.specs.declared.records.AuthorizationRecord.{AuthorizationRecord}
use Rattle.sql_tables.specs.declared.records.BalanceRecord.{BalanceRecord}
use Rattle.sql_tables.specs.declared.records.ChangeRecord.{ChangeRecord}
use Rattle.sql_tables.specs.declared.records.DeskRecord.{DeskRecord}
use Rattle.sql_tables.specs.declared.records.EntryRecord.{EntryRecord}
use Rattle.sql_tables.specs.declared.records.NumberRecord.{NumberRecord}
use Rattle.sql_tables.specs.declared.records.PostingRecord.{PostingRecord}
use Rattle.sql_tables.specs.declared.records.ReturnRecord.{ReturnRecord}
use Rattle.sql_tables.specs.declared.records.SubmissionRecord.{SubmissionRecord}
use Rattle.sql_tables.specs.declared.records.SuspenseRecord.{SuspenseRecord}

-- the version of the tables
abbrev pub version : ℕ
version = 2

-- the desk itself: one row, whose id is 1
abbrev pub desk : Description DeskRecord
desk = record {
  name = "desk";
  tree = 0;
  columns =
      column "id" (numbers (λ _. 1))
      ∷ column "version" (numbers (λ _. version))
      ∷ column "odfi" (texts (λ d. d.identity.odfi))
      ∷ column "odfi_name" (texts (λ d. d.identity.odfi_name))
      ∷ column "destination" (texts (λ d. d.identity.destination))
      ∷ column "destination_name" (texts (λ d. d.identity.destination_name))
      ∷ column "operator_key" (blobs (λ d. d.operator_key))
      ∷ column "day" (numbers_if_any (λ d. d.day))
      ∷ [];
  key = "id" ∷ [];
  uniques = [];
}

-- the holidays of the operator's calendar, as day numbers
abbrev pub holidays : Description ℕ
holidays = record {
  name = "holidays";
  tree = 2;
  columns =
      column "day" (numbers (λ day. day))
      ∷ [];
  key = "day" ∷ [];
  uniques = [];
}

-- the registered companies, with their present limits in cents
abbrev pub companies : Description Company
companies = record {
  name = "companies";
  tree = 4;
  columns =
      column "id" (texts (λ k. k.id))
      ∷ column "name" (texts (λ k. k.name))
      ∷ column "key_digest" (blobs (λ k. k.digest))
      ∷ column "entry_limit" (numbers (λ k. k.limits.entry))
      ∷ column "credit_limit" (numbers (λ k. k.limits.credit))
      ∷ column "debit_limit" (numbers (λ k. k.limits.debit))
      ∷ [];
  key = "id" ∷ [];
  uniques = [];
}

-- submissions and retries: of_ref and of_index name what a retry tries again; file_day, modifier and batch say where a cut printed it
abbrev pub submissions : Description SubmissionRecord
submissions = record {
  name = "submissions";
  tree = 6;
  columns =
      column "company" (texts (λ s. s.head.company))
      ∷ column "ord" (numbers (λ s. s.head.order))
      ∷ column "ref" (texts (λ s. s.head.reference))
      ∷ column "sec" (texts (λ s. sec_text s.head.sec))
      ∷ column "direction" (texts (λ s. direction_text s.head.direction))
      ∷ column "description" (texts (λ s. s.head.description))
      ∷ column "asked" (numbers (λ s. s.head.asked))
      ∷ column "of_ref" (texts_if_any (λ s. option_map (λ t. t.of) s.head.retried))
      ∷ column "of_index" (numbers_if_any (λ s. option_map (λ t. t.index) s.head.retried))
      ∷ column "lapsed" (flags (λ s. s.head.lapsed))
      ∷ column "settled" (numbers_if_any (λ s. s.head.settled))
      ∷ column "file_day" (numbers_if_any (λ s. option_map (λ p. p.day) s.printed))
      ∷ column "modifier" (letters_if_any (λ s. option_map (λ p. p.modifier) s.printed))
      ∷ column "batch" (numbers_if_any (λ s. option_map (λ p. p.batch) s.printed))
      ∷ [];
  key = "company" ∷ "ord" ∷ [];
  uniques = ("company" ∷ "ref" ∷ []) ∷ [];
}

-- their entries: seq is an entry's place among all sent entries, from 1
abbrev pub entries : Description EntryRecord
entries = record {
  name = "entries";
  tree = 9;
  columns =
      column "company" (texts (λ e. e.company))
      ∷ column "ord" (numbers (λ e. e.order))
      ∷ column "idx" (numbers (λ e. e.index))
      ∷ column "routing" (texts (λ e. e.entry.routing))
      ∷ column "account" (texts (λ e. e.entry.account))
      ∷ column "savings" (flags (λ e. is_savings e.entry.kind))
      ∷ column "prenote" (flags (λ e. e.entry.prenote))
      ∷ column "cents" (numbers (λ e. e.entry.cents))
      ∷ column "ident" (texts (λ e. e.entry.id))
      ∷ column "name" (texts (λ e. e.entry.name))
      ∷ column "info" (texts_if_any (λ e. e.entry.info))
      ∷ column "seq" (numbers_if_any (λ e. e.place))
      ∷ [];
  key = "company" ∷ "ord" ∷ "idx" ∷ [];
  uniques = [];
}

-- the returns of sent entries, in the order in which they came
abbrev pub returns : Description ReturnRecord
returns = record {
  name = "returns";
  tree = 11;
  columns =
      column "no" (rowids (λ r. r.number))
      ∷ column "company" (texts (λ r. r.company))
      ∷ column "ord" (numbers (λ r. r.order))
      ∷ column "idx" (numbers (λ r. r.index))
      ∷ column "code" (texts (λ r. code_text r.code))
      ∷ column "day" (numbers (λ r. r.day))
      ∷ column "late" (flags (λ r. r.late))
      ∷ column "info" (texts (λ r. r.info))
      ∷ [];
  key = "no" ∷ [];
  uniques = ("company" ∷ "ord" ∷ "idx" ∷ []) ∷ [];
}

-- the notifications of change, in the order in which they came
abbrev pub changes : Description ChangeRecord
changes = record {
  name = "changes";
  tree = 13;
  columns =
      column "no" (rowids (λ c. c.number))
      ∷ column "company" (texts (λ c. c.company))
      ∷ column "ord" (numbers (λ c. c.order))
      ∷ column "idx" (numbers (λ c. c.index))
      ∷ column "code" (texts (λ c. c.code))
      ∷ column "day" (numbers (λ c. c.day))
      ∷ column "text" (texts (λ c. c.text))
      ∷ [];
  key = "no" ∷ [];
  uniques = [];
}

-- the lines of all accounts, in the order in which they came
abbrev pub postings : Description PostingRecord
postings = record {
  name = "postings";
  tree = 14;
  columns =
      column "no" (rowids (λ p. p.number))
      ∷ column "account" (texts (λ p. account_text p.posting.account))
      ∷ column "value_day" (numbers (λ p. p.posting.value_day))
      ∷ column "cents" (integers (λ p. p.posting.cents))
      ∷ column "cause" (texts (λ p. cause_text p.posting.cause))
      ∷ column "ref" (line_references (λ p. p.posting.reference))
      ∷ column "idx" (numbers (λ p. p.posting.idx))
      ∷ [];
  key = "no" ∷ [];
  uniques = [];
}

-- the items of incoming files that name no sent entry, in the order in which they came
abbrev pub suspense : Description SuspenseRecord
suspense = record {
  name = "suspense";
  tree = 15;
  columns =
      column "no" (rowids (λ s. s.number))
      ∷ column "file_key" (texts (λ s. s.row.file))
      ∷ column "item" (numbers (λ s. s.row.item))
      ∷ column "why" (texts (λ s. reason_text s.row.why))
      ∷ column "code" (texts (λ s. s.row.code))
      ∷ column "trace" (texts (λ s. s.row.trace))
      ∷ column "cents" (numbers (λ s. s.row.cents))
      ∷ column "day" (numbers (λ s. s.row.day))
      ∷ [];
  key = "no" ∷ [];
  uniques = [];
}

-- the texts of the files that were cut
abbrev pub files : Description FileRow
files = record {
  name = "files";
  tree = 16;
  columns =
      column "day" (numbers (λ f. f.day))
      ∷ column "modifier" (letters (λ f. f.modifier))
      ∷ column "text" (blobs (λ f. f.text))
      ∷ [];
  key = "day" ∷ "modifier" ∷ [];
  uniques = [];
}

-- the incoming files that were taken, with their answers
abbrev pub taken : Description TakenFile
taken = record {
  name = "taken";
  tree = 18;
  columns =
      column "file_key" (texts (λ t. t.key))
      ∷ column "digest" (blobs (λ t. t.digest))
      ∷ column "day" (numbers (λ t. t.answer.day))
      ∷ column "returns" (numbers (λ t. t.answer.returns))
      ∷ column "changes" (numbers (λ t. t.answer.changes))
      ∷ column "late" (numbers (λ t. t.answer.late))
      ∷ column "suspense" (numbers (λ t. t.answer.suspense))
      ∷ [];
  key = "file_key" ∷ [];
  uniques = [];
}

-- the sums of the lines of an account and a value day, as decimal text
abbrev pub balances : Description BalanceRecord
balances = record {
  name = "balances";
  tree = 20;
  columns =
      column "account" (texts (λ b. account_text b.account))
      ∷ column "value_day" (numbers (λ b. b.value_day))
      ∷ column "cents" (texts (λ b. signed_decimal b.cents))
      ∷ [];
  key = "account" ∷ "value_day" ∷ [];
  uniques = [];
}

-- for each sequence the place of the youngest sent entry that has it
abbrev pub sequences : Description NumberRecord
sequences = record {
  name = "numbers";
  tree = 28;
  columns =
      column "sequence" (rowids (λ n. n.sequence))
      ∷ column "nth" (numbers (λ n. n.place))
      ∷ [];
  key = "sequence" ∷ [];
  uniques = ("nth" ∷ []) ∷ [];
}

-- for each retry the day on which the receiver authorized it
abbrev pub authorizations : Description AuthorizationRecord
authorizations = record {
  name = "authorizations";
  tree = 30;
  columns =
      column "company" (texts (λ a. a.company))
      ∷ column "ord" (numbers (λ a. a.order))
      ∷ column "day" (numbers (λ a. a.day))
      ∷ [];
  key = "company" ∷ "ord" ∷ [];
  uniques = [];
}
