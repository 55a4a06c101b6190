-- The promises of a call that answers from a store.
use Rattle.std.specs.Prelude.{◌≡◌, ◌⊎◌, ◌↔◌, ℕ, Bool, IsTrue, IsFalse, List, Some, Result, Ok, Err}
use Rattle.desk_history.specs.declared.answer.Answer.{Answer}
use Rattle.desk_book.specs.Book.{Book}
use Rattle.desk_book.specs.declared.caller.Caller.{Caller}
use Rattle.desk_store.specs.declared.store.StoreFault.{StoreFault}
use Rattle.desk_book.specs.Reads.{key_of}
use Rattle.desk_book.specs.Steps.{Step}

-- it holds the book, and the step may be made
abbrev pub HoldsFor : (holds : Book → Type 0) → Step → Book → Type 0
HoldsFor holds step b = holds b × step.Admits b

-- The answer is this one of the book, and the store then holds that book; or the store could not act,
-- and holds the same one.
abbrev pub Answers : (Book → Type 0) → Result Answer StoreFault → (Book → Answer) → (Book → Book) → (Book → Type 0) → Type 0
Answers old (Ok a) answer after new = (b : Book) → old b → (a ≡ answer b) × new (after b)
Answers old (Err fault) answer after new = (b : Book) → old b → new b

-- What a crash leaves, by whether the call wrote: a form of the book that it made, or what could be left before.
abbrev pub IsLeft : (wrote : Bool) → (made : Type 0) → (before : Type 0) → Type 0
IsLeft wrote made before = (IsTrue wrote × made) ⊎ (IsFalse wrote × before)

-- What a crash may leave after a call: if it wrote, a form of the book that it made; if it wrote nothing, nothing new;
-- and if the store failed, either.
abbrev pub LeavesCall : {Kept : Type 0} → (keeps : Kept → Book → Type 0) → (holds : Book → Type 0) → (old : Kept → Type 0) → Result Answer StoreFault → (writes : Book → Bool) → (after : Book → Book) → (new : Kept → Type 0) → Type 0
LeavesCall {Kept} keeps holds old (Ok a) writes after new = (b : Book) (k : Kept) → holds b → new k → IsLeft (writes b) (keeps k (after b)) (old k)
LeavesCall {Kept} keeps holds old (Err fault) writes after new = (b : Book) (k : Kept) → holds b → new k → old k ⊎ keeps k (after b)

-- ---- who may call

-- Yes exactly where the caller is the operator or a registered company, and has a key of that digest; or
-- the store could not act. It holds the same book.
abbrev pub Allows : (Book → Type 0) → Result Bool StoreFault → Caller → List ℕ → (Book → Type 0) → Type 0
Allows old (Ok allowed) caller digest new = (b : Book) → old b → (IsTrue allowed ↔ (key_of caller b ≡ Some digest)) × new b
Allows old (Err fault) caller digest new = (b : Book) → old b → new b
