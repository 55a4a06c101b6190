-- One value is read inside a transaction.
use Rattle.std.specs.Prelude.{ℕ, List, [], ◌∷◌, Option, Result}
use Rattle.sqlite_trees.specs.declared.store.Store.{Ghosts}
use Rattle.sqlite_value.specs.declared.value.Value.{Value}
use Rattle.sqlite_value.specs.declared.value.ValueRef.{ValueRef}
use Rattle.sqlite.specs.Values.{bound}
use Rattle.sqlite.specs.declared.transaction.Transaction.{Transaction}
use Rattle.sql_statements.specs.Promises.{RunsWith, SeesInside}
use Rattle.sql_query_laws.specs.Shows.{ReadsFirst}

module _ {S : Type 0} (g : Ghosts S) where
  -- Where it went well, it gives the value in the one column of the query's first row, if there is a row, and the
  -- transaction goes on with what was there before.
  abbrev pub ReadsCell : {X E : Type 0} → (old new : Transaction S) → Result (Option X) E
      → (sql : List ℕ) → (params : List ValueRef) → (stored : X → Value) → Type 0
  ReadsCell old new result sql params stored =
      RunsWith g old.conn new.conn result
      (λ x before after.
      ReadsFirst sql (bound params) (λ value. stored value ∷ []) before after x × SeesInside before after)
