-- The bytes that answer a call of the desk.
use Rattle.std.specs.Prelude.{◌≡◌, ◌⊎◌, ℕ, Bool, IsFalse, List, Result, Ok, Err, Vec}
use Rattle.std.specs.declared.alloc.Global.{Global}
use Rattle.desk_history.specs.declared.answer.Answer.{Answer}
use Rattle.desk_history.specs.declared.call.Call.{Call}
use Rattle.desk_history.specs.declared.identity.Identity.{Identity}
use Rattle.desk_history.specs.Message.{Message, Pair}
use Rattle.desk_history.specs.Operator.{answer_to}
use Rattle.desk_book.specs.Book.{Book, book_of}
use Rattle.desk_book.specs.Writes.{is_read, writes_on}
use Rattle.desk_admission.specs.Answering.{IsLeft}
use Rattle.desk_calls.specs.Applying.{IsAsked, book_after}
use Rattle.http_response.specs.declared.response.Content.{Content}
use Rattle.http_response.specs.Response.{response_text}
use Rattle.http_session.specs.declared.answers.Unavailable.{Unavailable}
use Rattle.http_answers.specs.Answers.{answer_body, FitsRoom}
use Rattle.http_history.specs.Texts.{call_text}

-- The bytes are the text of the definitions' answer, and the store holds the book after the call; or the
-- desk could not act, and the book is as it was.
abbrev pub GoesCallOn : Identity → (key : List ℕ) → List Pair → Message → (closes : Bool) → Result (Vec ℕ Global) Unavailable → (new : Book → Type 0) → Type 0
GoesCallOn identity key G m closes (Ok bytes) new = (bytes.items ≡ call_text closes m (answer_to identity G m)) × new (book_after identity key G m)
GoesCallOn identity key G m closes (Err fault) new = new (book_of identity key G)

abbrev pub GoesCall : (old : Book → Type 0) → Call → (closes : Bool) → Result (Vec ℕ Global) Unavailable → (new : Book → Type 0) → Type 0
GoesCall old call closes result new =
    (identity : Identity) (key : List ℕ) (G : List Pair) (m : Message) → IsAsked old call identity key G m → GoesCallOn identity key G m closes result new

-- what a crash leaves of it, as of a call of the desk
abbrev pub LeavesCallOn : {Kept : Type 0} → (keeps : Kept → Book → Type 0) → (old : Kept → Type 0) → Identity → (key : List ℕ) → List Pair → Message → Result (Vec ℕ Global) Unavailable → Kept → Type 0
LeavesCallOn keeps old identity key G m (Ok bytes) k = IsLeft (writes_on (book_of identity key G) m) (keeps k (book_after identity key G m)) (old k)
LeavesCallOn keeps old identity key G m (Err fault) k = old k ⊎ (IsFalse (is_read m) × keeps k (book_after identity key G m))

abbrev pub LeavesCall : {Kept : Type 0} → (keeps : Kept → Book → Type 0) → (holds : Book → Type 0) → (old : Kept → Type 0) → Call → Result (Vec ℕ Global) Unavailable → (new : Kept → Type 0) → Type 0
LeavesCall {Kept} keeps holds old call result new =
    (identity : Identity) (key : List ℕ) (G : List Pair) (m : Message) (k : Kept) → IsAsked holds call identity key G m → new k → LeavesCallOn keeps old identity key G m result k

-- the bytes are a response with this status and this content, and with the body of an answer that fits the room
abbrev pub IsResponse : (status : ℕ) → Content → (closes : Bool) → Answer → Vec ℕ Global → Type 0
IsResponse status content closes answer bytes =
    FitsRoom answer → bytes.items ≡ response_text status content closes (answer_body answer)
