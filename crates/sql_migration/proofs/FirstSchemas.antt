-- The schema of version 1 is that of version 2 without its last two tables.
use Rattle.std.proofs.Common.{◌≡◌, ℕ, zero, suc, ◌-◌, List, [], ◌∷◌, take, length, slice_get, refl, sym, ap, subst}
use Rattle.std.specs.List.{AllByRecursion}
use Rattle.sqlite.specs.Schema.{Schema}
use Rattle.sql_tables.specs.Schema.{desk_schema}
use Rattle.sql_setup.specs.Plain.{IsPlainTable}
use Rattle.sql_setup.proofs.DeskPlain.{desk_is_plain}
use Rattle.sql_migration.specs.FirstVersion.{first_schema}

-- all but the last two
abbrev pub but_two : {X : Type 0} → List X → List X
but_two xs = take (length xs - 2) xs

pub first_tables : (pattern : Schema) → pattern ≡ desk_schema → but_two pattern.tables ≡ first_schema.tables
first_tables pattern is = ap (λ (s : Schema). but_two s.tables) is

-- each of them has one index, of its key or of what else is unique
pub first_indexes : (pattern : Schema) → pattern ≡ desk_schema → but_two pattern.indexes ≡ first_schema.indexes
first_indexes pattern is = ap (λ (s : Schema). but_two s.indexes) is

pub is_first : (schema : Schema) → schema.tables ≡ first_schema.tables → schema.indexes ≡ first_schema.indexes → schema.views ≡ [] → schema ≡ first_schema
is_first schema tables indexes views = λ i. record { tables = tables i; indexes = indexes i; views = views i }

all_taken : {X : Type 0} (P : X → Type 0) (n : ℕ) (xs : List X) → AllByRecursion P xs → AllByRecursion P (take n xs)
all_taken P zero xs all = tt
all_taken P (suc n) [] all = tt
all_taken P (suc n) (x ∷ xs) all = (all.0, all_taken P n xs all.1)

pub first_plain : (pattern : Schema) → pattern ≡ desk_schema → AllByRecursion IsPlainTable (but_two pattern.tables)
first_plain pattern is = subst (λ (s : Schema). AllByRecursion IsPlainTable (but_two s.tables)) (sym is) (all_taken IsPlainTable (length desk_schema.tables - 2) desk_schema.tables desk_is_plain.tables)

-- both have the same first table
pub same_first : slice_get desk_schema.tables 0 ≡ slice_get first_schema.tables 0
same_first = refl
