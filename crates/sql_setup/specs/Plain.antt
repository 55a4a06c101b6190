-- Tables that have nothing but columns and keys.
use Rattle.std.specs.Prelude.{◌≡◌, []}
use Rattle.std.specs.List.{AllByRecursion}
use Rattle.sqlite_schema.specs.declared.schema.Column.{Column}
use Rattle.sqlite_schema.specs.declared.schema.Schema.{Schema}
use Rattle.sqlite_schema.specs.declared.schema.Stamps.{Stamps}
use Rattle.sqlite_schema.specs.declared.schema.Table.{Table}
use Rattle.sqlite_value.specs.declared.value.Value.TheVariants.{Null}

-- its default is NULL
abbrev pub IsPlainColumn : Column → Type 0
IsPlainColumn c = c.default ≡ Null

-- no default reads the time
abbrev pub no_stamps : Stamps
no_stamps = record { places = []; terms = []; formats = [] }

-- there is no CHECK, no reference, and no default that is computed
abbrev pub HasColumnsAlone : Table → Type 0
HasColumnsAlone t = (t.checks ≡ []) × (t.references ≡ []) × (t.computed ≡ []) × (t.stamps ≡ no_stamps)

-- two tables have the same primary key and UNIQUE keys, in the same orders
abbrev pub HaveSameKeys : (this other : Table) → Type 0
HaveSameKeys this other =
    (this.key ≡ other.key) × (this.primary ≡ other.primary)
    × (this.uniques ≡ other.uniques) × (this.orders ≡ other.orders)

-- where they have the same, this holds
abbrev pub IfSameKeys : (this other : Table) → (Holds : Type 0) → Type 0
IfSameKeys this other Holds =
    this.key ≡ other.key → this.primary ≡ other.primary
    → this.uniques ≡ other.uniques → this.orders ≡ other.orders → Holds

-- there is no CHECK, no reference, and no default
pub record IsPlainTable (t : Table) : Type 0 where
  pub columns : AllByRecursion IsPlainColumn t.columns
  pub checks : t.checks ≡ []
  pub references : t.references ≡ []
  pub computed : t.computed ≡ []
  pub stamps : t.stamps ≡ no_stamps

-- there is no view, and each table is such a one
pub record IsPlainSchema (s : Schema) : Type 0 where
  pub tables : AllByRecursion IsPlainTable s.tables
  pub views : s.views ≡ []
