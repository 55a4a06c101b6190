-- What a read of the store promises, by what its queries found.
use Rattle.std.proofs.Common.{◌≡◌, List, Result, Ok, Err, Vec, IfOk, subst}
use Rattle.std.specs.declared.alloc.Global.{Global}
use Rattle.sqlite_trees.specs.declared.store.Store.{Ghosts}
use Rattle.sqlite.specs.Held.{state}
use Rattle.sqlite.specs.State.{State, HasCleanDisk}
use Rattle.sqlite.specs.declared.error.Error.{Error}
use Rattle.sql_statements.specs.Books.{Agrees}
use Rattle.sql_statements.specs.Findings.{Finds}
use Rattle.sql_statements.proofs.Books.{clean_before, left_read, read_agreed, write_undone}
use Rattle.desk_book.specs.Book.{Book}
use Rattle.sql_read_steps.specs.Answers.{Answers}
use Rattle.sql_tables.specs.Layout.{desk_layout, IsBookIn, Sees}
use Rattle.sql_tables.specs.Tables.{Tables}
use Rattle.desk_store.specs.Promises.{CallTells, CallGives, CallGivesList}
use Rattle.desk_store.specs.Words.{Reads, ReadsList}
use Rattle.desk_store.specs.declared.store.StoreFault.{StoreFault}
use Rattle.sql_store.specs.declared.store.SqlStore.{SqlStore}

-- what was found is so of the book
abbrev pub Says : {A : Type 0} → (Tells : A → Tables → Type 0) → (read : Book → A) → Type 0
Says {A} Tells read = (x : A) → Agrees desk_layout IsBookIn (Tells x) (λ b. x ≡ read b)

-- one query answers, and every error is Unavailable
pub answers : {A : Type 0} (Tells : A → Tables → Type 0) (r : Result A Error) (s : Result A StoreFault) (old new : State) → IfOk s (λ x. r ≡ Ok x) → Answers Tells r old new → Answers Tells s old new
answers {A} Tells r s old new told asked = record { answer = λ clean. go s told (asked.answer clean); stays = asked.stays; survives = asked.survives }
  where
    go : (s : Result A StoreFault) → IfOk s (λ x. r ≡ Ok x) → IfOk r (λ found. Finds desk_layout (Tells found) old) → IfOk s (λ found. Finds desk_layout (Tells found) old)
    go (Ok x) is found = subst (λ r. IfOk r (λ found. Finds desk_layout (Tells found) old)) is found
    go (Err fault) is found = tt

-- what is made of what one query found
pub made_of : {A C : Type 0} (First : A → Tables → Type 0) (Tells : C → Tables → Type 0) (r : Result A Error) (x : A) (s : Result C StoreFault) (old new : State) → r ≡ Ok x
    → IfOk s (λ y. (t : Tables) → First x t → Tells y t) → Answers First r old new → Answers Tells s old new
made_of {A} {C} First Tells r x s old new is so asked =
    record { answer = λ clean. go s so (subst (λ r. IfOk r (λ found. Finds desk_layout (First found) old)) is (asked.answer clean)); stays = asked.stays; survives = asked.survives }
  where
    go : (s : Result C StoreFault) → IfOk s (λ y. (t : Tables) → First x t → Tells y t) → Finds desk_layout (First x) old → IfOk s (λ y. Finds desk_layout (Tells y) old)
    go (Ok y) so found = record { was_open = found.was_open; told = λ t h. so t (found.told t h) }
    go (Err fault) so found = tt

-- ---- the store, whose connection is over a storage of which `g` says what a database holds

module _ {S : Type 0} (g : Ghosts S) (old new : SqlStore S) where
  abbrev before : State
  before = state g old.conn

  abbrev after : State
  after = state g new.conn

  -- a read, of what it tells of the book
  tells : {A : Type 0} {Tells : A → Tables → Type 0} {r : Result A StoreFault} {Told : Type 0} → Answers Tells r before after → (HasCleanDisk after → Told)
      → CallTells (λ s. HasCleanDisk (state g s.conn)) (λ s k. (state g s.conn).may_leave k) old new Told
  tells asked told = record {
    before = λ clean. clean_before before after _ asked.survives clean;
    read = told;
    left = λ clean. left_read before after clean asked.survives;
  }

  pub reads : {A : Type 0} (Tells : A → Tables → Type 0) (read : Book → A) → Says Tells read → (r : Result A StoreFault) → Answers Tells r before after
      → CallGives (λ s. HasCleanDisk (state g s.conn)) (λ s. Sees (state g s.conn)) (λ s k. (state g s.conn).may_leave k) old new r read
  reads {A} Tells read says r asked = tells asked (λ clean. go r asked clean)
    where
      go : (r : Result A StoreFault) → Answers Tells r before after → HasCleanDisk after → Reads (Sees before) r read (Sees after)
      go (Ok x) a clean = λ b h. read_agreed desk_layout IsBookIn (Tells x) (λ b. x ≡ read b) (says x) before after (a.answer clean) (a.stays clean) b h
      go (Err fault) a clean = λ b h. write_undone desk_layout IsBookIn before after (a.stays clean) b h

  pub reads_list : {A : Type 0} (Tells : List A → Tables → Type 0) (read : Book → List A) → Says Tells read → (r : Result (Vec A Global) StoreFault) → Answers (λ xs. Tells xs.items) r before after
      → CallGivesList (λ s. HasCleanDisk (state g s.conn)) (λ s. Sees (state g s.conn)) (λ s k. (state g s.conn).may_leave k) old new r read
  reads_list {A} Tells read says r asked = tells asked (λ clean. go r asked clean)
    where
      go : (r : Result (Vec A Global) StoreFault) → Answers (λ xs. Tells xs.items) r before after → HasCleanDisk after → ReadsList (Sees before) r read (Sees after)
      go (Ok xs) a clean = λ b h. read_agreed desk_layout IsBookIn (Tells xs.items) (λ b. xs.items ≡ read b) (says xs.items) before after (a.answer clean) (a.stays clean) b h
      go (Err fault) a clean = λ b h. write_undone desk_layout IsBookIn before after (a.stays clean) b h
