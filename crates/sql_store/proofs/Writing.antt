-- What a write of the store promises, by what its transaction did.
use Rattle.std.proofs.Common.{Result, Ok, Err, OnOk, OnErr}
use Rattle.sqlite_trees.specs.declared.store.Store.{Ghosts}
use Rattle.sqlite.specs.Held.{state}
use Rattle.sqlite.specs.State.{State, HasCleanDisk, Survives}
use Rattle.sql_statements.specs.Queries.{Stays}
use Rattle.sql_statements.specs.Edits.{Edit}
use Rattle.sql_statements.specs.Transactions.{Commits, Leaves}
use Rattle.sql_statements.proofs.Books.{clean_before, write_done, write_undone, left_done, left_undone}
use Rattle.desk_book.specs.Steps.{Step}
use Rattle.sql_tables.specs.Layout.{desk_layout, IsBookIn, Keeps, Sees}
use Rattle.sql_tables.specs.Tables.{Tables}
use Rattle.desk_store.specs.Promises.{CallTakes}
use Rattle.desk_store.specs.Words.{Writes, LeavesWrite}
use Rattle.desk_store.specs.declared.store.StoreFault.{StoreFault}
use Rattle.sql_store.specs.declared.store.SqlStore.{SqlStore}
use Rattle.sql_write_laws.specs.Making.{Makes}

module _ {S : Type 0} (g : Ghosts S) (edit : Edit Tables) (step : Step) (makes : Makes edit step) (old new : SqlStore S) where
  abbrev before : State
  before = state g old.conn

  abbrev after : State
  after = state g new.conn

  writes : (r : Result (Unit {0}) StoreFault) → OnOk r (Commits desk_layout edit before after) → OnErr r (Stays before after) → Writes (Sees before) r step (Sees after)
  writes (Ok done) made stays = λ b h admits. write_done desk_layout IsBookIn edit step.Admits step.after makes before after made b h admits
  writes (Err fault) made stays = λ b h. write_undone desk_layout IsBookIn before after stays b h

  leaves : HasCleanDisk after → Survives before after (Leaves desk_layout edit before) → (r : Result (Unit {0}) StoreFault) → OnOk r (Commits desk_layout edit before after)
      → LeavesWrite Keeps (Sees before) (λ k. before.may_leave k) r step (λ k. after.may_leave k)
  leaves clean survives (Ok done) made = λ b k h admits left. left_done desk_layout IsBookIn edit step.Admits step.after makes before after made b k h admits left
  leaves clean survives (Err fault) made = λ b k h admits left. left_undone desk_layout IsBookIn edit step.Admits step.after makes before after clean survives b k h admits left

  -- the store takes the step
  pub takes : (r : Result (Unit {0}) StoreFault) → (HasCleanDisk after → OnOk r (Commits desk_layout edit before after)) → (HasCleanDisk after → OnErr r (Stays before after))
      → Survives before after (Leaves desk_layout edit before) → CallTakes (λ s. HasCleanDisk (state g s.conn)) (λ s. Sees (state g s.conn)) (λ s k. (state g s.conn).may_leave k) Keeps old new r step
  takes r done undone survives = record {
    before = λ clean. clean_before before after _ survives clean;
    write = λ clean. writes r (done clean) (undone clean);
    left = λ clean. leaves clean survives r (done clean);
  }
