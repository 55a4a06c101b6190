-- What is promised of a connection, or of a transaction on it, by whatever runs there: `old` is the connection before,
-- `new` after, and `g` says what a database over this storage holds.
use Rattle.std.specs.Prelude.{◌≡◌, ℕ, IsTrue, true, List, slice_get, Option, Result, Ok, IfOk, IfErr, OnOk, OnErr, Vec}
use Rattle.std.specs.declared.alloc.Global.{Global}
use Rattle.std.specs.Borrow.{MutBor}
use Rattle.sqlite_trees.specs.declared.store.Store.{Ghosts}
use Rattle.sqlite.specs.Held.{Held, state}
use Rattle.sqlite.specs.State.{State, Executes, HasCleanDisk, IsUnchanged, KeepsCommit, Shown, Shows, Survives}
use Rattle.sqlite_value.specs.Order.{Row}
use Rattle.sql_statements.specs.Queries.{Stays}
use Rattle.sql_statements.specs.SelectTexts.{IsSelectText}

-- The transaction goes on with what is there now, and nothing is committed.
abbrev pub GoesOn : State → State → Type 0
GoesOn before after = Shows before after after.now before.committed true

-- The transaction goes on with what was there before.
abbrev pub SeesInside : State → State → Type 0
SeesInside before after = Shows before after before.now before.committed true

-- A statement ran inside a transaction and wrote so many rows; the transaction goes on with what is there now.
pub record Ran (sql : List ℕ) (params : Row) (count : ℕ) (before after : State) : Type 0 where
  pub inside : IsTrue before.in_transaction
  pub ran : Executes sql params before after (Ok count)
  pub shown : GoesOn before after

-- The transaction goes on, and nothing changed.
abbrev pub IsLive : State → State → Type 0
IsLive before after = IsTrue before.in_transaction × IsUnchanged before after

-- The store was open, and the query shows these rows of it.
abbrev pub ShowsRows : (sql : List ℕ) (params : Row) → Vec Row Global → State → State → Type 0
ShowsRows sql params rows before after = IsTrue before.is_open × Shown sql params before after rows.items

-- The query shows these rows of what the transaction sees, which goes on; its text is a SELECT.
abbrev pub ShowsInside : (sql : List ℕ) (params : Row) → Vec Row Global → State → State → Type 0
ShowsInside sql params rows before after =
    IsSelectText sql → Shown sql params before after rows.items × SeesInside before after

-- the same, of the first row that it shows, if it shows any
abbrev pub ShowsFirst : (sql : List ℕ) (params : Row) → Option Row → State → State → Type 0
ShowsFirst sql params row before after =
    IsSelectText sql → (rows : List Row) × Shown sql params before after rows
    × (row ≡ slice_get rows 0) × SeesInside before after

-- What a query promises. Where the disk is clean as it ends, this holds of what it gave, the same database is seen
-- still, and a crash leaves nothing that it could not leave before.
pub record Asked {A E : Type 0} (old new : State) (result : Result A E) (Holds : A → State → State → Type 0) : Type 0 where
  pub answer : HasCleanDisk new → IfOk result (λ given. Holds given old new)
  pub stays : HasCleanDisk new → Stays old new
  pub survives : Survives old new (λ _. ⊥)

module _ {S : Type 0} (g : Ghosts S) where
  -- the same of a query on a connection
  abbrev pub AskedOn : {A E : Type 0} → (old new : Held S) → Result A E → (Holds : A → State → State → Type 0) → Type 0
  AskedOn old new = Asked (state g old) (state g new)

  -- Where the disk is clean as it ends, this holds of the database before and after.
  abbrev pub EndsIn : (old new : Held S) → (Holds : State → State → Type 0) → Type 0
  EndsIn old new Holds = HasCleanDisk (state g new) → Holds (state g old) (state g new)

  -- Where it went well, and the disk is clean as it ends, this holds of the database before and after.
  abbrev pub SucceedsIn : {A E : Type 0} → (old new : Held S) → Result A E → (Holds : State → State → Type 0) → Type 0
  SucceedsIn old new result Holds = HasCleanDisk (state g new) → OnOk result (Holds (state g old) (state g new))

  -- the same, of what it gives too
  abbrev pub SucceedsWith : {A E : Type 0} → (old new : Held S) → Result A E → (Holds : A → State → State → Type 0) → Type 0
  SucceedsWith old new result Holds = HasCleanDisk (state g new) → IfOk result (λ given. Holds given (state g old) (state g new))

  -- Where it failed, and the disk is clean as it ends, this holds of its error and of the database before and after.
  abbrev pub FailsWith : {A E : Type 0} → (old new : Held S) → Result A E → (Holds : E → State → State → Type 0) → Type 0
  FailsWith old new result Holds = HasCleanDisk (state g new) → IfErr result (λ error. Holds error (state g old) (state g new))

  -- Where it failed, and the disk is clean as it ends, the database is seen as it was.
  abbrev pub FailsUnchanged : {A E : Type 0} → (old new : Held S) → Result A E → Type 0
  FailsUnchanged old new result = HasCleanDisk (state g new) → OnErr result (Stays (state g old) (state g new))

  -- What was committed is committed still, and nothing else.
  abbrev pub KeepsCommitted : (old new : Held S) → Type 0
  KeepsCommitted old new = HasCleanDisk (state g new) → KeepsCommit (state g old) (state g new)

  -- The same database is seen still.
  abbrev pub SeesStill : (old new : Held S) → Type 0
  SeesStill old new = HasCleanDisk (state g new) → Stays (state g old) (state g new)

  -- A crash leaves nothing that it could not leave before.
  abbrev pub LeavesNothingNew : (old new : Held S) → Type 0
  LeavesNothingNew old new = Survives (state g old) (state g new) (λ _. ⊥)

  -- What runs inside a transaction promises: it is that of the same connection, this is made of it, nothing is committed,
  -- and a crash leaves nothing that it could not leave before.
  pub record Inside (old new : MutBor (Held S)) (Made : Type 0) : Type 0 where
    pub same_reference : new.ghost_name ≡ old.ghost_name
    pub makes : Made
    pub keeps : KeepsCommitted old.now new.now
    pub survives : LeavesNothingNew old.now new.now

  -- Where it went well, this holds of the database before and after.
  abbrev pub Runs : {A E : Type 0} → (old new : MutBor (Held S)) → Result A E → (Holds : State → State → Type 0) → Type 0
  Runs old new result Holds = Inside old new (SucceedsIn old.now new.now result Holds)

  -- the same, of what it gives too
  abbrev pub RunsWith : {A E : Type 0} → (old new : MutBor (Held S)) → Result A E → (Holds : A → State → State → Type 0) → Type 0
  RunsWith old new result Holds = Inside old new (SucceedsWith old.now new.now result Holds)
