-- What a statement promises, or several, that makes an edit inside a transaction.
use Rattle.std.specs.Prelude.{ℕ, List, Result}
use Rattle.sqlite_trees.specs.declared.store.Store.{Ghosts}
use Rattle.sqlite.specs.declared.transaction.Transaction.{Transaction}
use Rattle.sql_statements.specs.Edits.{Edit, each_edit_from}
use Rattle.sql_statements.specs.Layouts.{Layout}
use Rattle.sql_statements.specs.Promises.{Runs, RunsWith}
use Rattle.sql_statements.specs.Transactions.{Makes}
use Rattle.sql_tables.specs.Layout.{desk_layout}
use Rattle.sql_tables.specs.Tables.{Tables}

module _ {S : Type 0} (g : Ghosts S) where
  -- Where it went well, this edit is made of the desk's tables.
  abbrev pub Edits : {A E : Type 0} → (old new : Transaction S) → Result A E → Edit Tables → Type 0
  Edits old new result edit = Runs g old.conn new.conn result (Makes desk_layout edit)

  -- the same, of what it gives too
  abbrev pub EditsWith : {A E : Type 0} → (old new : Transaction S) → Result A E → (A → Edit Tables) → Type 0
  EditsWith old new result edit = RunsWith g old.conn new.conn result (λ given. Makes desk_layout (edit given))

  -- Where it went well, the edits of these rows are made, one after another, with numbers from a first one on.
  abbrev pub EditsEach : {A E X : Type 0} → (layout : Layout) → (old new : Transaction S) → Result A E
      → (ℕ → X → Edit layout.Tables) → (first : ℕ) → (rows : List X) → Type 0
  EditsEach layout old new result edit first rows =
      Runs g old.conn new.conn result (Makes layout (each_edit_from edit first rows))
