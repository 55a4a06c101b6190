-- The tables of a desk, each in the order of its key.
use Rattle.std.proofs.Common.{◌≡◌, ℤ, List, [], ◌∷◌, map, refl, Ordering}
use Rattle.sqlite.specs.Table.{Table}
use Rattle.sqlite_sql.specs.Query.{key_cmp as by_keys}
use Rattle.sqlite_sql.specs.Term.{Term, eval_all}
use Rattle.sqlite_trees.specs.Tree.{Trees}
use Rattle.sqlite_value.specs.declared.keys.Key.{Key}
use Rattle.sqlite_value.specs.declared.value.Value.TheVariants.{Text}
use Rattle.sqlite_value.specs.Order.{Row}
use Rattle.sql_statements.specs.Statements.{by}
use Rattle.sql_statements.specs.StoredRows.{Form, row_of}
use Rattle.sql_tables.specs.Columns.{number, letter, account_text}
use Rattle.sql_tables.specs.ByName.{Name, Of, described, records, IsStored}
use Rattle.sql_tables.specs.ByName as named
use Rattle.sql_tables.specs.Description.{form, table, key_cmp}
use Rattle.sql_tables.specs.Tables.{Tables, IsTableOf}
use Rattle.sql_query_laws.proofs.Keys.{by_text, by_number, by_number_then_letter, by_text_then_number, by_text_then_numbers}

-- a table whose records stand in the order of these columns
pub record Listing (X : Type 0) : Type 0 where
  pub table : Table
  pub stored_as : Form X
  pub cmp : X → X → Ordering
  pub records : Tables → List X
  pub stored : (trees : Trees) (t : Tables) → IsStored trees t → IsTableOf trees table stored_as cmp (records t)
  pub order : List (Term × Key)
  pub sort : X → Row
  pub sorts : (params : Row) (i : ℤ) (x : X) → eval_all (map (λ k. k.0) order) (params ∷ row_of stored_as (i, x) ∷ []) ≡ sort x
  pub compares : (x y : X) → by_keys 0 (map (λ k. k.1) order) (sort x) (sort y) ≡ cmp x y

-- the table of a name
abbrev listing : (n : Name) (order : List (Term × Key)) (sort : Of n → Row)
    → ((params : Row) (i : ℤ) (x : Of n) → eval_all (map (λ k. k.0) order) (params ∷ row_of (form (described n)) (i, x) ∷ []) ≡ sort x)
    → ((x y : Of n) → by_keys 0 (map (λ k. k.1) order) (sort x) (sort y) ≡ key_cmp (described n) x y) → Listing (Of n)
listing n order sort sorts compares = record {
  table = table (described n);
  stored_as = form (described n);
  cmp = key_cmp (described n);
  records = records n;
  stored = λ trees t h. h.stands n;
  order = order;
  sort = sort;
  sorts = sorts;
  compares = compares;
}

-- it has one row
abbrev pub desk : Listing (Of named.desk)
desk = listing named.desk (by 1 ∷ []) (λ d. number 1 ∷ []) (λ params i x. refl) (λ x y. by_number 1 1)

abbrev pub holidays : Listing (Of named.holidays)
holidays = listing named.holidays (by 1 ∷ []) (λ day. number day ∷ []) (λ params i x. refl) (by_number)

abbrev pub companies : Listing (Of named.companies)
companies = listing named.companies (by 1 ∷ []) (λ k. Text k.id ∷ []) (λ params i x. refl) (λ x y. by_text x.id y.id)

abbrev pub submissions : Listing (Of named.submissions)
submissions = listing named.submissions (by 1 ∷ by 2 ∷ []) (λ s. Text s.head.company ∷ number s.head.order ∷ []) (λ params i x. refl) (λ x y. by_text_then_number x.head.company y.head.company x.head.order y.head.order)

abbrev pub entries : Listing (Of named.entries)
entries = listing named.entries (by 1 ∷ by 2 ∷ by 3 ∷ []) (λ e. Text e.company ∷ number e.order ∷ number e.index ∷ []) (λ params i x. refl) (λ x y. by_text_then_numbers x.company y.company x.order y.order x.index y.index)

abbrev pub returns : Listing (Of named.returns)
returns = listing named.returns (by 0 ∷ []) (λ r. number r.number ∷ []) (λ params i x. refl) (λ x y. by_number x.number y.number)

abbrev pub changes : Listing (Of named.changes)
changes = listing named.changes (by 0 ∷ []) (λ c. number c.number ∷ []) (λ params i x. refl) (λ x y. by_number x.number y.number)

abbrev pub postings : Listing (Of named.postings)
postings = listing named.postings (by 0 ∷ []) (λ p. number p.number ∷ []) (λ params i x. refl) (λ x y. by_number x.number y.number)

abbrev pub suspense : Listing (Of named.suspense)
suspense = listing named.suspense (by 0 ∷ []) (λ s. number s.number ∷ []) (λ params i x. refl) (λ x y. by_number x.number y.number)

abbrev pub files : Listing (Of named.files)
files = listing named.files (by 1 ∷ by 2 ∷ []) (λ f. number f.day ∷ letter f.modifier ∷ []) (λ params i x. refl) (λ x y. by_number_then_letter x.day y.day x.modifier y.modifier)

abbrev pub taken : Listing (Of named.taken)
taken = listing named.taken (by 1 ∷ []) (λ f. Text f.key ∷ []) (λ params i x. refl) (λ x y. by_text x.key y.key)

abbrev pub balances : Listing (Of named.balances)
balances = listing named.balances (by 1 ∷ by 2 ∷ []) (λ b. Text (account_text b.account) ∷ number b.value_day ∷ []) (λ params i x. refl) (λ x y. by_text_then_number (account_text x.account) (account_text y.account) x.value_day y.value_day)

abbrev pub numbers : Listing (Of named.numbers)
numbers = listing named.numbers (by 0 ∷ []) (λ n. number n.sequence ∷ []) (λ params i x. refl) (λ x y. by_number x.sequence y.sequence)

abbrev pub authorizations : Listing (Of named.authorizations)
authorizations = listing named.authorizations (by 1 ∷ by 2 ∷ []) (λ a. Text a.company ∷ number a.order ∷ []) (λ params i x. refl) (λ x y. by_text_then_number x.company y.company x.order y.order)
