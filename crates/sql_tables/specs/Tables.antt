-- The fourteen tables of a desk, and what it is that a tree stores one.
use Rattle.std.specs.Prelude.{ℕ, List}
use Rattle.std.specs.declared.cmp.Ordering.{Ordering}
use Rattle.sqlite.specs.Table.{Table}
use Rattle.sqlite_trees.specs.Tree.{Trees}
use Rattle.sql_statements.specs.StoredRows.{Form, Stores}
use Rattle.desk_book.specs.declared.flat_rows.FileRow.{FileRow}
use Rattle.desk_history.specs.declared.operations.TakenFile.{TakenFile}
use Rattle.desk_rules.specs.declared.bodies.company.Company.{Company}
use Rattle.sql_tables.specs.KeyOrders.{IsInOrder}
use Rattle.sql_tables.specs.declared.records.AuthorizationRecord.{AuthorizationRecord}
use Rattle.sql_tables.specs.declared.records.BalanceRecord.{BalanceRecord}
use Rattle.sql_tables.specs.declared.records.ChangeRecord.{ChangeRecord}
use Rattle.sql_tables.specs.declared.records.DeskRecord.{DeskRecord}
use Rattle.sql_tables.specs.declared.records.EntryRecord.{EntryRecord}
use Rattle.sql_tables.specs.declared.records.NumberRecord.{NumberRecord}
use Rattle.sql_tables.specs.declared.records.PostingRecord.{PostingRecord}
use Rattle.sql_tables.specs.declared.records.ReturnRecord.{ReturnRecord}
use Rattle.sql_tables.specs.declared.records.SubmissionRecord.{SubmissionRecord}
use Rattle.sql_tables.specs.declared.records.SuspenseRecord.{SuspenseRecord}

-- each table as the list of its records, in the order of its key; `desk` has one
pub record Tables : Type 0 where
  pub desk : DeskRecord
  pub holidays : List ℕ
  pub companies : List Company
  pub submissions : List SubmissionRecord
  pub entries : List EntryRecord
  pub returns : List ReturnRecord
  pub changes : List ChangeRecord
  pub postings : List PostingRecord
  pub suspense : List SuspenseRecord
  pub files : List FileRow
  pub taken : List TakenFile
  pub balances : List BalanceRecord
  pub numbers : List NumberRecord
  pub authorizations : List AuthorizationRecord

-- the table's tree stores these records, which stand in the order of its key
pub record IsTableOf {X : Type 0} (trees : Trees) (table : Table) (form : Form X) (cmp : X → X → Ordering) (records : List X) : Type 0 where
  pub stored : Stores form (trees table.tree) records
  pub rise : IsInOrder cmp records
