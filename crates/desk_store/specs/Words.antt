-- The results of a store's calls, by the books that it may hold before and after.
use Rattle.std.specs.Prelude.{◌≡◌, ◌⊎◌, Result, Ok, Err, List, Vec}
use Rattle.std.specs.declared.alloc.Global.{Global}
use Rattle.desk_book.specs.Book.{Book}
use Rattle.desk_store.specs.declared.store.StoreFault.{StoreFault}
use Rattle.desk_book.specs.Steps.{Step}

-- A read gives this value of the book, or the store could not act; it holds the same book.
abbrev pub Reads : {A : Type 0} → (Book → Type 0) → Result A StoreFault → (Book → A) → (Book → Type 0) → Type 0
Reads old (Ok x) value new = (b : Book) → old b → (x ≡ value b) × new b
Reads old (Err fault) value new = (b : Book) → old b → new b

-- the same for a list
abbrev pub ReadsList : {A : Type 0} → (Book → Type 0) → Result (Vec A Global) StoreFault → (Book → List A) → (Book → Type 0) → Type 0
ReadsList old (Ok xs) value new = (b : Book) → old b → (xs.items ≡ value b) × new b
ReadsList old (Err fault) value new = (b : Book) → old b → new b

-- A write makes its step whole, or the store could not act and holds the same book.
abbrev pub Writes : (Book → Type 0) → Result (Unit {0}) StoreFault → Step → (Book → Type 0) → Type 0
Writes old (Ok done) step new = (b : Book) → old b → step.Admits b → new (step.after b)
Writes old (Err fault) step new = (b : Book) → old b → new b

-- A crash after a read leaves nothing that it could not leave before.
abbrev pub LeavesRead : {Kept : Type 0} → (old : Kept → Type 0) → (new : Kept → Type 0) → Type 0
LeavesRead {Kept} old new = (k : Kept) → new k → old k

-- A crash after a write leaves what keeps the book that the step made; after a fault, that or what it could
-- leave before.
abbrev pub LeavesWrite : {Kept : Type 0} → (keeps : Kept → Book → Type 0) → (holds : Book → Type 0) → (old : Kept → Type 0) → Result (Unit {0}) StoreFault → Step → (new : Kept → Type 0) → Type 0
LeavesWrite {Kept} keeps holds old (Ok done) step new = (b : Book) (k : Kept) → holds b → step.Admits b → new k → keeps k (step.after b)
LeavesWrite {Kept} keeps holds old (Err fault) step new = (b : Book) (k : Kept) → holds b → step.Admits b → new k → old k ⊎ keeps k (step.after b)
