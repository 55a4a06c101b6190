-- A call that was made, and its bytes.
use Rattle.std.proofs.Common.{◌≡◌, ◌⊎◌, inl, inr, ℕ, List, Bool, true, false, refl, sym, ap, ◌∙◌, subst}
use Rattle.std.specs.Prelude.{IsFalse, Ok, Err, Vec}
use Rattle.std.specs.declared.alloc.Global.{Global}
use Rattle.desk_history.specs.declared.answer.Answer.{Answer}
use Rattle.desk_history.specs.declared.answer.Answer.TheVariants as answers
use Rattle.desk_history.specs.declared.answer.Outcome.TheVariants as outcomes
use Rattle.desk_history.specs.declared.call.Call.{Call}
use Rattle.desk_history.specs.Message.{Message}
use Rattle.desk_history.specs.Operator.{answer_to}
use Rattle.desk_book.specs.Book.{Book, book_of}
use Rattle.desk_book.specs.OnMessages.{answer_on, BookTells}
use Rattle.desk_book.specs.Writes.{is_quiet, is_read, writes_on, ReadsLeave}
use Rattle.desk_store.specs.declared.store.StoreFault.{StoreFault}
use Rattle.desk_store.specs.Words.{LeavesRead}
use Rattle.http_response.specs.Response.{response_text}
use Rattle.http_answers.specs.declared.statuses.CallKind.{CallKind}
use Rattle.http_answers.specs.Answers.{answer_body, is_command, FitsRoom}
use Rattle.http_answers.specs.Statuses.{kind_of, kind_of_call, status_of, content_of, OneKind}
use Rattle.desk_admission.specs.Answering.{IsLeft}
use Rattle.desk_calls.specs.Applying.{Goes, IsReadCall, LeavesBook, book_after}
use Rattle.http_session.specs.declared.answers.Unavailable.{Unavailable}
use Rattle.http_history.specs.Texts.{call_text}
use Rattle.desk_http.specs.MadeCalls.{GoesCall, LeavesCall}
use Rattle.desk_calls.proofs.ReadCalls.{read_call}
use Rattle.desk_http.proofs.Short.{short_on}

-- the bytes of an answer to a call of this kind
abbrev text_as : CallKind → (closes : Bool) → Answer → List ℕ
text_as kind closes a = response_text (status_of kind a) (content_of a) closes (answer_body a)

call_text_is : (closes : Bool) (m : Message) (a : Answer) → text_as (kind_of m) closes a ≡ call_text closes m a
unfolding call_text
call_text_is closes m a = refl

-- an answer that is not a command's means that nothing was written
quiet_is : (a : Answer) → is_command a ≡ false → is_quiet a ≡ true
quiet_is (answers.Done (outcomes.Submitted receipt)) is = cc
quiet_is (answers.Done (outcomes.Day d)) is = cc
quiet_is (answers.Done (outcomes.Holidays n)) is = cc
quiet_is (answers.Done (outcomes.Company c)) is = cc
quiet_is (answers.Done (outcomes.Cut summary)) is = cc
quiet_is (answers.Done (outcomes.Taken counts)) is = cc
quiet_is a is = refl

pub printed : BookTells → OneKind → (old new : Book → Type 0) (call : Call) (closes : Bool) (kind : CallKind) (a : Answer) (bytes : Vec ℕ Global)
    → kind ≡ kind_of_call call → Goes old call (Ok a) new → (FitsRoom a → bytes.items ≡ text_as kind closes a)
    → GoesCall old call closes (Ok bytes) new
printed tells one old new call closes kind a bytes same goes text identity key G m asked =
    let on = goes identity key G m asked in
    let is : a ≡ answer_on (book_of identity key G) m = on.0 ∙ tells.answers identity key G m asked.history in (
      text (subst FitsRoom (sym is) (short_on (book_of identity key G) m))
          ∙ (λ i. text_as ((same ∙ one call m asked.message) i) closes (on.0 i))
          ∙ call_text_is closes m (answer_to identity G m),
      on.1,
    )

-- an answer that could not be printed was that to a read or a refusal, so that the book is as it was
pub unprinted : BookTells → ReadsLeave → (old new : Book → Type 0) (call : Call) (closes : Bool) (a : Answer) (fault : Unavailable)
    → Goes old call (Ok a) new → is_command a ≡ false → GoesCall old call closes (Err fault) new
unprinted tells leave old new call closes a fault goes read identity key G m asked =
    let b = book_of identity key G in
    let on = goes identity key G m asked in
    let is : a ≡ answer_on b m = on.0 ∙ tells.answers identity key G m asked.history in
    subst new (tells.steps identity key G m asked.history ∙ leave.book b m (leave.quiet b m (ap is_quiet (sym is) ∙ quiet_is a read))) on.1

pub printed_left : {Kept : Type 0} (keeps : Kept → Book → Type 0) (holds : Book → Type 0) (old new : Kept → Type 0) (call : Call) (a : Answer) (bytes : Vec ℕ Global)
    → LeavesBook keeps holds old call (Ok a) new → LeavesCall keeps holds old call (Ok bytes) new
printed_left keeps holds old new call a bytes left identity key G m k asked more = left identity key G m k asked more

-- a call that wrote is not a read
either : (wrote asks : Bool) (made before : Type 0) → (asks ≡ true → wrote ≡ false) → IsLeft wrote made before → before ⊎ (IsFalse asks × made)
either wrote true made before reads left = elim left [ inl after ↦ (let no : true ≡ false = sym after.0 ∙ reads refl in cc) | inr same ↦ inl same.1 ]
either wrote false made before reads left = elim left [ inl after ↦ inr (refl, after.1) | inr same ↦ inl same.1 ]

pub unprinted_left : ReadsLeave → {Kept : Type 0} (keeps : Kept → Book → Type 0) (holds : Book → Type 0) (old new : Kept → Type 0) (call : Call) (a : Answer) (fault : Unavailable)
    → LeavesBook keeps holds old call (Ok a) new → LeavesCall keeps holds old call (Err fault) new
unprinted_left leave keeps holds old new call a fault left identity key G m k asked more =
    either (writes_on (book_of identity key G) m) (is_read m) (keeps k (book_after identity key G m)) (old k) (leave.reads (book_of identity key G) m) (left identity key G m k asked more)

-- ---- a call that could not be made

pub unmade_left : {Kept : Type 0} (keeps : Kept → Book → Type 0) (holds : Book → Type 0) (old new : Kept → Type 0) (call : Call) (why : StoreFault) (fault : Unavailable)
    → LeavesBook keeps holds old call (Err why) new → (IsReadCall call → LeavesRead old new) → LeavesCall keeps holds old call (Err fault) new
unmade_left keeps holds old new call why fault left reads identity key G m k asked more = by (is_read m) refl where
  by : (asks : Bool) → is_read m ≡ asks → old k ⊎ (IsFalse (is_read m) × keeps k (book_after identity key G m))
  by true is = inl (reads (read_call call m asked.message is) k more)
  by false is = elim (left identity key G m k asked more) [ inl same ↦ inl same | inr made ↦ inr (is, made) ]
