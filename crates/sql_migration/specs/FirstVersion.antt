-- The tables of version 1, which has no table of numbers and none of authorizations, and which book they hold.
use Rattle.std.specs.Prelude.{◌≡◌, ℕ, List, [], ◌∷◌, All}
use Rattle.std.specs.List.{enumerate_from}
use Rattle.std.specs.Ordering.{nat_cmp, on}
use Rattle.sqlite_trees.specs.Tree.{Trees}
use Rattle.sqlite_trees.specs.declared.store.Store.{Ghosts}
use Rattle.sqlite.specs.Held.{Held, state}
use Rattle.sqlite.specs.State.{State}
use Rattle.sql_statements.specs.StoredRows.{whole, Stores}
use Rattle.sql_statements.specs.Books.{keeps}
use Rattle.sql_statements.specs.Layouts.{Layout}
use Rattle.desk_book.specs.Book.{Book}
use Rattle.desk_book.specs.Unauthorized.{AuthorizesNothing}
use Rattle.desk_store.specs.Rows.{Rows, flat_book}
use Rattle.sql_tables.specs.Beside.{Beside}
use Rattle.sql_tables.specs.Description.{form, key_cmp, table}
use Rattle.sql_tables.specs.DeskTables as the
use Rattle.sql_tables.specs.Encodes.{Encodes}
use Rattle.sql_tables.specs.Layout.{Keeps}
use Rattle.sql_tables.specs.Tables.{Tables, IsTableOf}
use Rattle.sql_tables.specs.declared.records.AuthorizationRecord.{AuthorizationRecord}
use Rattle.sql_tables.specs.declared.records.NumberRecord.{NumberRecord}
use Rattle.sql_setup.specs.Versions.{IsOfVersion}
pub use Rattle.sql_setup.specs.Versions.{first_schema, versioned_row}

abbrev pub first_version : ℕ
first_version = 1

-- where the row of the desk said a version, it was the first
abbrev pub WasFirst : (old new : State) → Type 0
WasFirst old new = (n : ℕ) → IsOfVersion old.now n → n ≡ first_version

-- The trees store these records, but for the tables that version 1 has not.
pub record IsFirstStored (trees : Trees) (t : Tables) : Type 0 where
  pub desk : Stores (whole (versioned_row first_version)) (trees (table the.desk).tree) (t.desk ∷ [])
  pub holidays : IsTableOf trees (table the.holidays) (form the.holidays) nat_cmp t.holidays
  pub companies : IsTableOf trees (table the.companies) (form the.companies) (key_cmp the.companies) t.companies
  pub submissions : IsTableOf trees (table the.submissions) (form the.submissions) (key_cmp the.submissions) t.submissions
  pub entries : IsTableOf trees (table the.entries) (form the.entries) (key_cmp the.entries) t.entries
  pub returns : IsTableOf trees (table the.returns) (form the.returns) (on (λ r. r.number) nat_cmp) t.returns
  pub changes : IsTableOf trees (table the.changes) (form the.changes) (on (λ c. c.number) nat_cmp) t.changes
  pub postings : IsTableOf trees (table the.postings) (form the.postings) (on (λ p. p.number) nat_cmp) t.postings
  pub suspense : IsTableOf trees (table the.suspense) (form the.suspense) (on (λ s. s.number) nat_cmp) t.suspense
  pub files : IsTableOf trees (table the.files) (form the.files) (key_cmp the.files) t.files
  pub taken : IsTableOf trees (table the.taken) (form the.taken) (key_cmp the.taken) t.taken
  pub balances : IsTableOf trees (table the.balances) (form the.balances) (key_cmp the.balances) t.balances
  pub numbers : t.numbers ≡ []
  pub authorizations : t.authorizations ≡ []

abbrev pub first_layout : Layout
first_layout = record { Tables = Tables; schema = λ _. first_schema; IsStored = IsFirstStored }

-- The tables are those of the flat rows that the book is, all but the two that version 2 adds. No sequence was used again,
-- so each sent entry's sequence is its place from 1 among all of them. Which retries were authorized again they don't tell.
pub record AreFirstTablesOf (t : Tables) (b : Book) : Type 0 where
  pub rows : Rows
  pub numbers : List NumberRecord
  pub authorizations : List AuthorizationRecord
  pub encodes : Encodes (record t { numbers = numbers; authorizations = authorizations }) rows
  pub beside : Beside t rows
  pub unused : All (λ p. p.1.sequence ≡ p.0) (enumerate_from 1 rows.sent)
  pub book : b ≡ flat_book rows

-- Where no retry was authorized again, they tell the book whole.
pub record IsFirstBookIn (t : Tables) (b : Book) : Type 0 where
  pub tables : AreFirstTablesOf t b
  pub unauthorized : AuthorizesNothing b

-- these trees are version 1's tables of the book
abbrev pub HasFirstTables : Trees → Book → Type 0
HasFirstTables = keeps first_layout AreFirstTablesOf

-- and they tell it whole
abbrev pub KeepsFirst : Trees → Book → Type 0
KeepsFirst = keeps first_layout IsFirstBookIn

-- each book that version 1's tables kept where it was committed, these trees keep
abbrev pub KeepsBooksOf : {X : Type 0} → Ghosts X → Held X → Trees → Type 0
KeepsBooksOf g c trees = (b : Book) → KeepsFirst (state g c).committed.trees b → Keeps trees b
