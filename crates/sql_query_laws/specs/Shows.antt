-- What the rows of a query are of the tables of a desk.
use Rattle.std.specs.Prelude.{◌≡◌, ◌⊎◌, ℕ, Bool, true, false, List, [], ◌∷◌, ◌++◌, map, slice_get, Option, option_map, IsTrue}
use Rattle.std.specs.List.{AllByRecursion}
use Rattle.sqlite.specs.State.{State, Shown, Begins, IsUnchanged}
use Rattle.sqlite_value.specs.Order.{Row}
use Rattle.sql_statements.specs.Layouts.{Holds}
use Rattle.sql_tables.specs.Layout.{desk_layout}
use Rattle.sql_tables.specs.Tables.{Tables}

-- no two values have one row
abbrev pub IsInjective : {X : Type 0} → (X → Row) → Type 0
IsInjective {X} show = (x y : X) → show x ≡ show y → x ≡ y

module _ {X : Type 0} (sql : List ℕ) (params : Row) (show : X → Row) where
  -- the text with these parameters shows these values of the tables, a row for each
  pub record ShowsAll (values : Tables → List X) : Type 1 where
    pub rows : (t : Tables) (old new : State) → Holds desk_layout old.now t → (rows : List Row) → Shown sql params old new rows → rows ≡ map show (values t)

  -- its first row is that of this value of the tables, and where there is none it shows no row
  pub record ShowsFirst (value : Tables → Option X) : Type 1 where
    pub row : (t : Tables) (old new : State) → Holds desk_layout old.now t → (rows : List Row) → Shown sql params old new rows → slice_get rows 0 ≡ option_map show (value t)

  -- the values of all rows that it showed
  pub record ReadsAll (old new : State) (xs : List X) : Type 0 where
    pub was_open : IsTrue old.is_open
    pub rows : List Row
    pub shown : Shown sql params old new rows
    pub are : map show xs ≡ rows

  -- the value of the first row that it showed
  pub record ReadsFirst (old new : State) (x : Option X) : Type 0 where
    pub was_open : IsTrue old.is_open
    pub rows : List Row
    pub shown : Shown sql params old new rows
    pub is : option_map show x ≡ slice_get rows 0

  -- the values of its first rows, up to the last, or up to a row whose value does not pass
  pub record ReadsWhile (passes : X → Bool) (old new : State) (xs : List X) : Type 0 where
    pub same : IsUnchanged old new
    pub pass : AllByRecursion (λ x. passes x ≡ true) xs
    pub ends : Shown sql params old new (map show xs) ⊎ ((x : X) × (passes x ≡ false) × Begins sql params old (map show xs ++ show x ∷ []))
