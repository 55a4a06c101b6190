-- What one statement made inside a transaction is told as something else.
use Rattle.std.specs.Borrow.{MutBor}
use Rattle.sqlite_trees.specs.declared.store.Store.{Ghosts}
use Rattle.sqlite.specs.Held.{Held}
use Rattle.sql_statements.specs.Promises.{Inside}

pub inside_as : {S : Type 0} (g : Ghosts S) {old new : MutBor (Held S)} {Made Told : Type 0} → (Made → Told) → Inside g old new Made → Inside g old new Told
inside_as g so it = record { same_reference = it.same_reference; makes = so it.makes; keeps = it.keeps; survives = it.survives }
