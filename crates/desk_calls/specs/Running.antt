-- Calls that are made of a desk one after another: what it holds then, and what a crash may leave.
use Rattle.std.specs.Prelude.{◌≡◌, ◌⊎◌, ℕ, Bool, true, false, if◌then◌else◌, List, [], ◌∷◌, Any, Result, Ok, Err}
use Rattle.desk_history.specs.declared.answer.Answer.{Answer}
use Rattle.desk_history.specs.declared.call.Call.{Call}
use Rattle.desk_history.specs.declared.identity.Identity.{Identity}
use Rattle.desk_history.specs.Calls.{IsMessageOf}
use Rattle.desk_history.specs.Message.{Message, Pair}
use Rattle.desk_history.specs.Operator.{next_pair, IsHistory}
use Rattle.desk_book.specs.Book.{Book, book_of}
use Rattle.desk_book.specs.Writes.{is_read, writes_on}
use Rattle.desk_store.specs.declared.store.StoreFault.{StoreFault}
use Rattle.desk_store.specs.Words.{LeavesRead}
use Rattle.desk_calls.specs.Applying.{Goes, IsReadCall, LeavesBook, book_after}

-- a call with its message, and what it came to
pub record MadeCall : Type 0 where
  pub call : Call
  pub message : Message
  pub result : Result Answer StoreFault

-- the call takes the desk from a store to the next, as `Desk::apply` does
pub record Takes {S Kept : Type 0} (holds : S → Book → Type 0) (keeps : Kept → Book → Type 0) (may_leave : S → Kept → Type 0) (before : S) (x : MadeCall) (after : S) : Type 0 where
  pub message : IsMessageOf x.call x.message
  pub goes : Goes (holds before) x.call x.result (holds after)
  pub left : LeavesBook keeps (holds before) (may_leave before) x.call x.result (may_leave after)
  pub read : IsReadCall x.call → LeavesRead (may_leave before) (may_leave after)

-- and so on for calls one after another; the newest comes first
abbrev pub TakeOn : {S Kept : Type 0} → (holds : S → Book → Type 0) → (keeps : Kept → Book → Type 0) → (may_leave : S → Kept → Type 0) → (start : S) → List MadeCall → (end : S) → Type 0
TakeOn holds keeps may_leave start [] end = start ≡ end
TakeOn {S} holds keeps may_leave start (x ∷ xs) end = (before : S) × TakeOn holds keeps may_leave start xs before × Takes holds keeps may_leave before x end

-- ---- what was answered, and what was not

abbrev pub with_result : Identity → List Pair → Message → Result Answer StoreFault → List Pair
with_result identity H m (Ok a) = next_pair identity H m ∷ H
with_result identity H m (Err fault) = H

-- the history with the calls that were answered
abbrev pub history_with : Identity → List Pair → List MadeCall → List Pair
history_with identity H [] = H
history_with identity H (x ∷ xs) = with_result identity (history_with identity H xs) x.message x.result

abbrev pub pending_with : Message → Result Answer StoreFault → (wrote : Bool) → List Message → List Message
pending_with m (Ok a) true before = []
pending_with m (Ok a) false before = before
pending_with m (Err fault) wrote before = if is_read m then before else m ∷ before

-- the messages of the calls, reads apart, that were not answered since the last answer to one that wrote
abbrev pub pending : Identity → (key : List ℕ) → List Pair → List MadeCall → List Message
pending identity key H [] = []
pending identity key H (x ∷ xs) =
    pending_with x.message x.result (writes_on (book_of identity key (history_with identity H xs)) x.message) (pending identity key H xs)

-- it keeps the book of this history, or of the history with one of these messages more
abbrev pub KeepsOneMore : {Kept : Type 0} → (keeps : Kept → Book → Type 0) → Identity → (key : List ℕ) → List Pair → List Message → Kept → Type 0
KeepsOneMore keeps identity key H messages k = keeps k (book_of identity key H) ⊎ Any (λ m. keeps k (book_after identity key H m)) messages

-- ---- the law

-- the store holds the book of the history, and a crash leaves what keeps it
pub record IsOpened {S Kept : Type 0} (holds : S → Book → Type 0) (keeps : Kept → Book → Type 0) (may_leave : S → Kept → Type 0) (identity : Identity) (key : List ℕ) (H : List Pair) (start : S) : Type 0 where
  pub history : IsHistory identity H
  pub book : holds start (book_of identity key H)
  pub left : (k : Kept) → may_leave start k → keeps k (book_of identity key H)

-- after calls the store holds the book of the history with those that were answered; a crash leaves that, or
-- the book with one more, of those that were not answered since the last write
pub record IsRun {S Kept : Type 0} (holds : S → Book → Type 0) (keeps : Kept → Book → Type 0) (may_leave : S → Kept → Type 0) (identity : Identity) (key : List ℕ) (H : List Pair) (xs : List MadeCall) (end : S) : Type 0 where
  pub history : IsHistory identity (history_with identity H xs)
  pub book : holds end (book_of identity key (history_with identity H xs))
  pub left : (k : Kept) → may_leave end k → KeepsOneMore keeps identity key (history_with identity H xs) (pending identity key H xs) k

abbrev pub CrashesLeave : {S Kept : Type 0} → (S → Book → Type 0) → (Kept → Book → Type 0) → (S → Kept → Type 0) → Type 0
CrashesLeave {S} holds keeps may_leave =
    (identity : Identity) (key : List ℕ) (H : List Pair) (start end : S) (xs : List MadeCall)
    → IsOpened holds keeps may_leave identity key H start → TakeOn holds keeps may_leave start xs end → IsRun holds keeps may_leave identity key H xs end
