-- The outcome of a call of the desk.
use Rattle.std.specs.Prelude.{◌≡◌, ◌⊎◌, ⊤, ℕ, List, ◌∷◌, Result, Ok, Err}
use Rattle.desk_history.specs.declared.answer.Answer.{Answer}
use Rattle.desk_history.specs.declared.call.Call.{Call}
use Rattle.desk_history.specs.declared.call.Call.TheVariants as calls
use Rattle.desk_history.specs.declared.identity.Identity.{Identity}
use Rattle.desk_book.specs.Book.{Book, book_of}
use Rattle.desk_history.specs.Calls.{IsMessageOf}
use Rattle.desk_history.specs.Message.{Message, Of, Pair}
use Rattle.desk_history.specs.Operator.{answer_to, next_pair, IsHistory}
use Rattle.desk_history.specs.Reply.{reply}
use Rattle.desk_history.specs.History.{part}
use Rattle.desk_history.specs.Request.{Request}
use Rattle.desk_store.specs.declared.store.StoreFault.{StoreFault}
use Rattle.desk_book.specs.OnMessages.{answer_on, after_on}
use Rattle.desk_book.specs.Writes.{writes_on}
use Rattle.desk_admission.specs.Answering.{Answers, IsLeft, LeavesCall}

-- ---- by the book

-- the answer is that of the book to the call's message, and the store then holds the book after it
abbrev pub AnswersCall : (Book → Type 0) → Call → Result Answer StoreFault → (Book → Type 0) → Type 0
AnswersCall old call result new = (m : Message) → IsMessageOf call m → Answers old result (λ b. answer_on b m) (λ b. after_on b m) new

abbrev pub LeavesMessage : {Kept : Type 0} → (keeps : Kept → Book → Type 0) → (holds : Book → Type 0) → (old : Kept → Type 0) → Call → Result Answer StoreFault → (new : Kept → Type 0) → Type 0
LeavesMessage keeps holds old call result new = (m : Message) → IsMessageOf call m → LeavesCall keeps holds old result (λ b. writes_on b m) (λ b. after_on b m) new

-- a call that asks for what is known, and no more
abbrev pub IsReadCall : Call → Type 0
IsReadCall (calls.FileText day modifier) = ⊤
IsReadCall calls.Settlement = ⊤
IsReadCall calls.SuspenseItems = ⊤
IsReadCall calls.Status = ⊤
IsReadCall calls.Companies = ⊤
IsReadCall (calls.LookUp c reference) = ⊤
IsReadCall (calls.ReturnsOf c) = ⊤
IsReadCall (calls.ChangesOf c) = ⊤
IsReadCall (calls.StatementOf c) = ⊤
IsReadCall (calls.RatesOf c) = ⊤
IsReadCall (calls.ExposureOf c) = ⊤
IsReadCall call = ⊥

-- the store holds a book
abbrev pub HasBook : (holds : Book → Type 0) → Type 0
HasBook holds = (b : Book) × holds b

-- ---- by the history

-- a history whose book the store holds, and the message of a call
pub record IsAsked (holds : Book → Type 0) (call : Call) (identity : Identity) (key : List ℕ) (H : List Pair) (m : Message) : Type 0 where
  pub history : IsHistory identity H
  pub book : holds (book_of identity key H)
  pub message : IsMessageOf call m

-- the book of the history with the message and its answer
abbrev pub book_after : Identity → List ℕ → List Pair → Message → Book
book_after identity key H m = book_of identity key (next_pair identity H m ∷ H)

abbrev pub GoesOn : Identity → List ℕ → List Pair → Message → Result Answer StoreFault → (Book → Type 0) → Type 0
GoesOn identity key H m (Ok a) new = (a ≡ answer_to identity H m) × new (book_after identity key H m)
GoesOn identity key H m (Err fault) new = new (book_of identity key H)

-- For every history that the store's book stands for: the answer is that of the definitions, and the book then stands
-- for the history with this pair; or the store failed, and its book is unchanged.
abbrev pub Goes : (Book → Type 0) → Call → Result Answer StoreFault → (Book → Type 0) → Type 0
Goes old call result new = (identity : Identity) (key : List ℕ) (H : List Pair) (m : Message) → IsAsked old call identity key H m → GoesOn identity key H m result new

-- A company is answered from its own part of the history alone.
abbrev pub IsOwnReply : Identity → List Pair → List ℕ → Request → Result Answer StoreFault → Type 0
IsOwnReply identity H c r (Ok a) = a ≡ reply (part identity.odfi H c) r
IsOwnReply identity H c r (Err fault) = Unit {0}

abbrev pub Replies : (Book → Type 0) → Call → Result Answer StoreFault → Type 0
Replies old call result = (identity : Identity) (key : List ℕ) (H : List Pair) (c : List ℕ) (r : Request) → IsAsked old call identity key H (Of c r) → IsOwnReply identity H c r result

abbrev pub LeavesOn : {Kept : Type 0} → (keeps : Kept → Book → Type 0) → (old : Kept → Type 0) → Identity → (key : List ℕ) → (H : List Pair) → Message → Result Answer StoreFault → Kept → Type 0
LeavesOn keeps old identity key H m (Ok a) k = IsLeft (writes_on (book_of identity key H) m) (keeps k (book_after identity key H m)) (old k)
LeavesOn keeps old identity key H m (Err fault) k = old k ⊎ keeps k (book_after identity key H m)

-- If the call wrote, a crash after it leaves a form of the book of the history with this pair; if it wrote nothing,
-- what a crash could leave before; and if the store failed, either.
abbrev pub LeavesBook : {Kept : Type 0} → (keeps : Kept → Book → Type 0) → (holds : Book → Type 0) → (old : Kept → Type 0) → Call → Result Answer StoreFault → (new : Kept → Type 0) → Type 0
LeavesBook {Kept} keeps holds old call result new =
    (identity : Identity) (key : List ℕ) (H : List Pair) (m : Message) (k : Kept) → IsAsked holds call identity key H m → new k → LeavesOn keeps old identity key H m result k
