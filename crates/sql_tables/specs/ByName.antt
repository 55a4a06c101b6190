-- The tables of a desk by their names: what each has, and that the trees store them all.
use Rattle.std.specs.Prelude.{ℕ, List, [], ◌∷◌}
use Rattle.sqlite_trees.specs.Tree.{Trees}
use Rattle.desk_book.specs.declared.flat_rows.FileRow.{FileRow}
use Rattle.desk_history.specs.declared.operations.TakenFile.{TakenFile}
use Rattle.desk_rules.specs.declared.bodies.company.Company.{Company}
use Rattle.sql_tables.specs.Description.{Description, form, table, key_cmp}
use Rattle.sql_tables.specs.DeskTables as the
use Rattle.sql_tables.specs.Tables.{Tables, IsTableOf}
use Rattle.sql_tables.specs.declared.records.AuthorizationRecord.{AuthorizationRecord}
use Rattle.sql_tables.specs.declared.records.BalanceRecord.{BalanceRecord}
use Rattle.sql_tables.specs.declared.records.ChangeRecord.{ChangeRecord}
use Rattle.sql_tables.specs.declared.records.DeskRecord.{DeskRecord}
use Rattle.sql_tables.specs.declared.records.EntryRecord.{EntryRecord}
use Rattle.sql_tables.specs.declared.records.NumberRecord.{NumberRecord}
use Rattle.sql_tables.specs.declared.records.PostingRecord.{PostingRecord}
use Rattle.sql_tables.specs.declared.records.ReturnRecord.{ReturnRecord}
use Rattle.sql_tables.specs.declared.records.SubmissionRecord.{SubmissionRecord}
use Rattle.sql_tables.specs.declared.records.SuspenseRecord.{SuspenseRecord}

pub data Name : Type 0 where
  desk : Name
  holidays : Name
  companies : Name
  submissions : Name
  entries : Name
  returns : Name
  changes : Name
  postings : Name
  suspense : Name
  files : Name
  taken : Name
  balances : Name
  numbers : Name
  authorizations : Name

-- a row of the table is one of these
abbrev pub Of : Name → Type 0
Of desk = DeskRecord
Of holidays = ℕ
Of companies = Company
Of submissions = SubmissionRecord
Of entries = EntryRecord
Of returns = ReturnRecord
Of changes = ChangeRecord
Of postings = PostingRecord
Of suspense = SuspenseRecord
Of files = FileRow
Of taken = TakenFile
Of balances = BalanceRecord
Of numbers = NumberRecord
Of authorizations = AuthorizationRecord

abbrev pub described : (n : Name) → Description (Of n)
described desk = the.desk
described holidays = the.holidays
described companies = the.companies
described submissions = the.submissions
described entries = the.entries
described returns = the.returns
described changes = the.changes
described postings = the.postings
described suspense = the.suspense
described files = the.files
described taken = the.taken
described balances = the.balances
described numbers = the.sequences
described authorizations = the.authorizations

-- the records of the table, in the order of its key; `desk` has one
abbrev pub records : (n : Name) → Tables → List (Of n)
records desk t = t.desk ∷ []
records holidays t = t.holidays
records companies t = t.companies
records submissions t = t.submissions
records entries t = t.entries
records returns t = t.returns
records changes t = t.changes
records postings t = t.postings
records suspense t = t.suspense
records files t = t.files
records taken t = t.taken
records balances t = t.balances
records numbers t = t.numbers
records authorizations t = t.authorizations

-- the table's tree stores these records
abbrev pub StandsAt : Trees → (n : Name) → List (Of n) → Type 0
StandsAt trees n xs = IsTableOf trees (table (described n)) (form (described n)) (key_cmp (described n)) xs

pub record IsStored (trees : Trees) (t : Tables) : Type 0 where
  pub stands : (n : Name) → StandsAt trees n (records n t)
