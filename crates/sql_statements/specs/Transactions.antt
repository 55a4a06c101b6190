-- What a transaction makes of tables, what its commit does, and what a crash leaves of it.
use Rattle.std.specs.Prelude.{◌≡◌, ℕ, IsTrue, List, Result}
use Rattle.sqlite_trees.specs.Tree.{Trees}
use Rattle.sqlite_trees.specs.declared.store.Store.{Ghosts}
use Rattle.sqlite.specs.declared.transaction.Transaction.{Transaction}
use Rattle.sqlite.specs.Held.{Held, state}
use Rattle.sqlite.specs.State.{State, Survives}
use Rattle.sql_statements.specs.Edits.{Edit, each_edit_from}
use Rattle.sql_statements.specs.Layouts.{Layout, Holds}
use Rattle.sql_statements.specs.Promises.{GoesOn, Runs, SucceedsIn}

module _ (layout : Layout) (edit : Edit layout.Tables) where
  -- The transaction goes on, nothing is committed, and the tables are those after the edit.
  pub record IsMade (old new : State) : Type 0 where
    pub shown : GoesOn old new
    pub holds : (t : layout.Tables) → Holds layout old.now t → Holds layout new.now (edit.after t) × edit.Tells t

  -- the same, of whatever runs inside a transaction of an open store; what runs no statement does not know that it is there
  abbrev pub Makes : State → State → Type 0
  Makes old new = IsTrue old.in_transaction → IsTrue old.is_open → IsMade old new

  -- The tables after the edit are seen, are committed, and are all that a crash may leave.
  pub record Commits (old new : State) : Type 0 where
    pub was_open : IsTrue old.is_open
    pub is_open : IsTrue new.is_open
    pub holds : (t : layout.Tables) → Holds layout old.now t → Holds layout new.now (edit.after t) × edit.Tells t
    pub committed : new.committed ≡ new.now
    pub left : (trees : Trees) → new.may_leave trees → trees ≡ new.now.trees

  -- the tables after the edit, which a crash may leave once the commit has begun
  abbrev pub Leaves : State → Trees → Type 0
  Leaves old trees = IsTrue old.is_open × ((t : layout.Tables) → Holds layout old.now t → layout.IsStored trees (edit.after t) × edit.Tells t)

module _ {S : Type 0} (g : Ghosts S) where
  -- Where it went well, the transaction makes the edit of each of these rows, with numbers from the first on.
  abbrev pub RunsEach : {A E X : Type 0} → (old new : Transaction S) → Result A E → (layout : Layout)
      → (edit : ℕ → X → Edit layout.Tables) → (first : ℕ) → List X → Type 0
  RunsEach old new result layout edit first rows =
      Runs g old.conn new.conn result (Makes layout (each_edit_from edit first rows))

  -- Where it went well, and the disk is clean as it ends, the tables after the edit are seen and committed.
  abbrev pub Saves : {A E : Type 0} → (old new : Held S) → Result A E → (layout : Layout) → Edit layout.Tables → Type 0
  Saves old new result layout edit = SucceedsIn g old new result (Commits layout edit)

  -- A crash leaves the tables after the edit, or what it could leave before.
  abbrev pub LeavesEdit : (old new : Held S) → (layout : Layout) → Edit layout.Tables → Type 0
  LeavesEdit old new layout edit = Survives (state g old) (state g new) (Leaves layout edit (state g old))
