-- The tables that no other is read with: each may change for itself, and all others stay those of their rows.
use Rattle.std.specs.Prelude.{◌≡◌, ℕ, List, map, Option, Some, IsPermutation}
use Rattle.std.specs.List.{enumerate_from}
use Rattle.desk_accounts.specs.declared.posting.Posting.{Posting}
use Rattle.desk_book.specs.declared.flat_rows.ChangedRow.{ChangedRow}
use Rattle.desk_book.specs.declared.flat_rows.FileRow.{FileRow}
use Rattle.desk_history.specs.declared.operations.SuspenseRow.{SuspenseRow}
use Rattle.desk_history.specs.declared.operations.TakenFile.{TakenFile}
use Rattle.desk_rules.specs.declared.bodies.company.Company.{Company}
use Rattle.desk_store.specs.Rows.{Rows}
use Rattle.sql_tables.specs.Beside.{AreSums}
use Rattle.sql_tables.specs.Encodes.{change_record, desk_record, posting_record, suspense_record}
use Rattle.sql_tables.specs.Tables.{Tables}
use Rattle.sql_tables.specs.declared.records.BalanceRecord.{BalanceRecord}
use Rattle.sql_tables.specs.declared.records.ChangeRecord.{ChangeRecord}
use Rattle.sql_tables.specs.declared.records.DeskRecord.{DeskRecord}
use Rattle.sql_tables.specs.declared.records.PostingRecord.{PostingRecord}
use Rattle.sql_tables.specs.declared.records.SuspenseRecord.{SuspenseRecord}
use Rattle.sql_write_laws.proofs.Each.{AreOf}

-- a table, the rows of a store, and that the table has them
pub record Has {T R : Type 0} (IsOf : T → R → Type 0) : Type 0 where
  pub table : T
  pub rows : R
  pub is_of : IsOf table rows

-- all of these beside the rows of the other tables; lines have their balances with them
pub record Independent (r : Rows) : Type 0 where
  pub desk : Has (λ (d : DeskRecord) (day : Option ℕ). d ≡ desk_record (record r { day = day }))
  pub holidays : Has (λ (days rows : List ℕ). days ≡ rows)
  pub companies : Has (λ (companies rows : List Company). companies ≡ rows)
  pub changes : Has (λ (changes : List ChangeRecord) (rows : List ChangedRow). map Some changes ≡ map (change_record r.submissions) (enumerate_from 1 rows))
  pub lines : Has (λ (lines : List PostingRecord × List BalanceRecord) (rows : List Posting). (lines.0 ≡ map posting_record (enumerate_from 1 rows)) × AreSums lines.1 rows)
  pub suspense : Has (λ (items : List SuspenseRecord) (rows : List SuspenseRow). items ≡ map suspense_record (enumerate_from 1 rows))
  pub files : Has (λ (files rows : List FileRow). IsPermutation rows files)
  pub taken : Has (λ (files rows : List TakenFile). IsPermutation rows files)

module _ (t : Tables) (r : Rows) (are : AreOf t r) where
  abbrev pub independent : Independent r
  independent = record {
    desk = record { table = t.desk; rows = r.day; is_of = are.0.desk };
    holidays = record { table = t.holidays; rows = r.holidays; is_of = are.0.holidays };
    companies = record { table = t.companies; rows = r.companies; is_of = are.0.companies };
    changes = record { table = t.changes; rows = r.changed; is_of = are.0.changes };
    lines = record { table = (t.postings, t.balances); rows = r.postings; is_of = (are.0.postings, are.1.sums) };
    suspense = record { table = t.suspense; rows = r.suspense; is_of = are.0.suspense };
    files = record { table = t.files; rows = r.files; is_of = are.0.files };
    taken = record { table = t.taken; rows = r.taken; is_of = are.0.taken };
  }

  -- with these in the place of theirs, the tables are still those of the rows
  pub stand_with : (s : Independent r) → AreOf
      (record t { desk = s.desk.table; holidays = s.holidays.table; companies = s.companies.table; changes = s.changes.table; postings = s.lines.table.0; balances = s.lines.table.1; suspense = s.suspense.table; files = s.files.table; taken = s.taken.table })
      (record r { day = s.desk.rows; holidays = s.holidays.rows; companies = s.companies.rows; changed = s.changes.rows; postings = s.lines.rows; suspense = s.suspense.rows; files = s.files.rows; taken = s.taken.rows })
  stand_with s = (
    record {
      desk = s.desk.is_of;
      holidays = s.holidays.is_of;
      companies = s.companies.is_of;
      submissions = are.0.submissions;
      entries = are.0.entries;
      returns = are.0.returns;
      changes = s.changes.is_of;
      postings = s.lines.is_of.0;
      suspense = s.suspense.is_of;
      files = s.files.is_of;
      taken = s.taken.is_of;
      numbers = are.0.numbers;
      authorizations = are.0.authorizations;
      states = are.0.states;
      retries = are.0.retries;
    },
    record {
      orders = are.1.orders;
      references = are.1.references;
      printed = are.1.printed;
      lapsed = are.1.lapsed;
      back = are.1.back;
      sent = are.1.sent;
      apart = are.1.apart;
      sequences = are.1.sequences;
      sums = s.lines.is_of.1;
    },
  )
