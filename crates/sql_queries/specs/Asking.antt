-- What a query promises: what it found is so of the desk's tables that its connection saw, which sees them still. `g` says
-- what a database over this storage holds.
use Rattle.std.specs.Prelude.{◌≡◌, ℕ, List, Option, Result, Vec}
use Rattle.std.specs.declared.alloc.Global.{Global}
use Rattle.sqlite_trees.specs.declared.store.Store.{Ghosts}
use Rattle.sqlite.specs.Held.{Held}
use Rattle.sql_statements.specs.Findings.{Finds}
use Rattle.sql_statements.specs.Promises.{AskedOn}
use Rattle.sql_tables.specs.Layout.{desk_layout}
use Rattle.sql_tables.specs.TableReads.{text_in}
use Rattle.sql_tables.specs.Tables.{Tables}
use Rattle.sql_queries.specs.RowsRead.{bytes_of}

abbrev pub Asks : {S A E : Type 0} → (g : Ghosts S) → (old new : Held S) → Result A E → (Tells : A → Tables → Type 0) → Type 0
Asks g old new result Tells = AskedOn g old new result (λ found before after. Finds desk_layout (Tells found) before)

-- ---- what is told of what was found

-- it is this of the tables
abbrev pub IsThe : {A : Type 0} → (value : Tables → A) → A → Tables → Type 0
IsThe value found t = found ≡ value t

-- they are these of the tables, in their order
abbrev pub AreThe : {X : Type 0} → (values : Tables → List X) → Vec X Global → Tables → Type 0
AreThe values found t = found.items ≡ values t

-- it is the text of the file of a day with a modifier, if there is one
abbrev pub IsTextOf : (day : ℕ) → (modifier : ℕ) → Option (Vec ℕ Global) → Tables → Type 0
IsTextOf day modifier found t = bytes_of found ≡ text_in day modifier t
