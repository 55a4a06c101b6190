-- What a read answers of the tables of a desk, and what it leaves.
use Rattle.std.specs.Prelude.{◌≡◌, IsTrue, List, map, Result, Vec}
use Rattle.std.specs.declared.alloc.Global.{Global}
use Rattle.sqlite_trees.specs.declared.store.Store.{Ghosts}
use Rattle.sqlite.specs.Held.{Held, state}
use Rattle.sqlite.specs.State.{State}
use Rattle.sql_statements.specs.Findings.{Finds}
use Rattle.sql_statements.specs.Layouts.{Holds}
use Rattle.sql_statements.specs.Promises.{Asked}
use Rattle.sql_tables.specs.Layout.{desk_layout}
use Rattle.sql_tables.specs.Tables.{Tables}

-- these tables are those that a connection sees, unless it is shut
abbrev pub IsSeen : State → Tables → Type 0
IsSeen s t = IsTrue s.is_open → Holds desk_layout s.now t

module _ {A E : Type 0} (Tells : A → Tables → Type 0) (result : Result A E) (old new : State) where
  -- The connection was open, and what was found is so of the tables that it saw.
  abbrev pub Answers : Type 0
  Answers = Asked old new result (λ found before after. Finds desk_layout (Tells found) before)

  -- the same of a read that may ask nothing, and so cannot say that the connection was open
  abbrev pub Learns : Type 0
  Learns = Asked old new result (λ found before after. (t : Tables) → IsSeen before t → Tells found t)

-- the same of a connection, as contracts have it; `g` says what a database over this storage holds
abbrev pub LearnsOn : {S A E : Type 0} → (g : Ghosts S) → (old new : Held S) → Result A E → (Tells : A → Tables → Type 0) → Type 0
LearnsOn g old new result Tells = Learns Tells result (state g old) (state g new)

-- what was found of an item shows what the tables have for it
abbrev pub ShowsItem : {Item Found Shown : Type 0} → (shown : Found → Shown) → (value : Tables → Item → Shown) → Item
    → Found → Tables → Type 0
ShowsItem shown value item found t = shown found ≡ value t item

-- what was found of each item of a list, one after another, shows what the tables have for it
abbrev pub LearnsEach : {S Item Found Shown E : Type 0} → (g : Ghosts S) → (old new : Held S)
    → Result (Vec Found Global) E → (shown : Found → Shown) → (value : Tables → Item → Shown) → List Item → Type 0
LearnsEach g old new result shown value items =
    LearnsOn g old new result (λ found t. map shown found.items ≡ map (value t) items)
