-- The outcome of a call by the book is its outcome by the history.
use Rattle.std.proofs.Common.{◌∙◌, sym, subst, ℕ, List, inl, inr}
use Rattle.std.specs.Prelude.{Result, Ok, Err}
use Rattle.desk_history.specs.declared.answer.Answer.{Answer}
use Rattle.desk_history.specs.declared.call.Call.{Call}
use Rattle.desk_history.specs.declared.identity.Identity.{Identity}
use Rattle.desk_book.specs.Book.{Book, book_of}
use Rattle.desk_history.specs.Calls.{OneMessage}
use Rattle.desk_history.specs.Message.{Message, Of, Pair}
use Rattle.desk_history.specs.Request.{Request}
use Rattle.desk_store.specs.declared.store.StoreFault.{StoreFault}
use Rattle.desk_book.specs.OnMessages.{after_on, BookTells}
use Rattle.desk_calls.specs.Applying.{AnswersCall, LeavesMessage, HasBook, IsAsked, IsOwnReply, LeavesOn}

pub own_reply : BookTells → (old new : Book → Type 0) (call : Call) (identity : Identity) (key : List ℕ) (H : List Pair) (c : List ℕ) (r : Request) (result : Result Answer StoreFault)
    → AnswersCall old call result new → IsAsked old call identity key H (Of c r) → IsOwnReply identity H c r result
own_reply tells old new call identity key H c r (Ok a) answers asked =
    (answers (Of c r) asked.message (book_of identity key H) asked.book).0 ∙ sym (tells.answers identity key H (Of c r) asked.history)
own_reply tells old new call identity key H c r (Err fault) answers asked = tt

pub leaves_on : BookTells → {Kept : Type 0} (keeps : Kept → Book → Type 0) (holds : Book → Type 0) (old new : Kept → Type 0) (call : Call) (identity : Identity) (key : List ℕ) (H : List Pair) (m : Message) (k : Kept) (result : Result Answer StoreFault)
    → LeavesMessage keeps holds old call result new → IsAsked holds call identity key H m → new k → LeavesOn keeps old identity key H m result k
leaves_on tells keeps holds old new call identity key H m k (Ok a) leaves asked more =
    let step = tells.steps identity key H m asked.history in
    elim (leaves m asked.message (book_of identity key H) k asked.book more) [
      | inl wrote ↦ inl (wrote.0, subst (keeps k) (sym step) wrote.1)
      | inr none ↦ inr none
    ]
leaves_on tells keeps holds old new call identity key H m k (Err fault) leaves asked more =
    elim (leaves m asked.message (book_of identity key H) k asked.book more) [
      | inl before ↦ inl before
      | inr made ↦ inr (subst (keeps k) (sym (tells.steps identity key H m asked.history)) made)
    ]

pub has_book : OneMessage → (old new : Book → Type 0) (call : Call) (result : Result Answer StoreFault) → AnswersCall old call result new → HasBook old → HasBook new
has_book one old new call (Ok a) answers has = let m = one.some call in (after_on has.0 m.0, (answers m.0 m.1 has.0 has.1).1)
has_book one old new call (Err fault) answers has = let m = one.some call in (has.0, answers m.0 m.1 has.0 has.1)
