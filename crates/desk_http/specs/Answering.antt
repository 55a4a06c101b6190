-- The answer to a message in bytes: which bytes, the history that the desk then represents, and what a crash leaves.
use Rattle.std.specs.Prelude.{◌≡◌, ⊤, ℕ, List, Option, Some, None, Result, Ok, Err, Vec}
use Rattle.std.specs.declared.alloc.Global.{Global}
use Rattle.desk_history.specs.Message.{Message}
use Rattle.desk_book.specs.Book.{Book}
use Rattle.http_message.specs.Message.{MessageValue}
use Rattle.http_session.specs.declared.answers.Unavailable.{Unavailable}
use Rattle.http_history.specs.Verdict.{verdict_on}
use Rattle.http_history.specs.Versions.{Version, MeansAt}
use Rattle.http_history.specs.Part.{part}
use Rattle.http_history.specs.Reply.{reply, IsToCompany}
use Rattle.desk_http.specs.Keeping.{DeskHistory, StandsBehind, book_after, GoesBy, LeavesBy}

-- the bytes of an answer, if there is one
abbrev pub answer_in : Result (Vec ℕ Global) Unavailable → Option (List ℕ)
answer_in (Ok bytes) = Some bytes.items
answer_in (Err fault) = None

-- a history that a desk of this version represents, and what a message means after it
pub record IsAsked (version : Version) (holds : Book → Type 0) (h : DeskHistory) (v : MessageValue) (means : Option Message) : Type 0 where
  pub stands : StandsBehind holds h
  pub read : MeansAt version (verdict_on (book_after h) v) means

-- Whichever history the desk represents, the bytes are the text of the message after it, and the desk then represents the
-- history with this pair; or the desk could not act, and represents the same history.
abbrev pub GoesBytes : Version → (old : Book → Type 0) → MessageValue → (answer : Option (List ℕ)) → (new : Book → Type 0) → Type 0
GoesBytes version old v answer new = (h : DeskHistory) (means : Option Message) → IsAsked version old h v means → GoesBy version h v means answer new

-- A crash after the message leaves what keeps the book of the history with it if it wrote, and what it could leave before if
-- it wrote nothing. If the desk could not act, it leaves either; a read changes nothing that a crash may leave.
abbrev pub LeavesBytes : Version → {Kept : Type 0} → (keeps : Kept → Book → Type 0) → (holds : Book → Type 0) → (old : Kept → Type 0) → MessageValue → (answer : Option (List ℕ)) → (new : Kept → Type 0) → Type 0
LeavesBytes version {Kept} keeps holds old v answer new =
    (h : DeskHistory) (means : Option Message) (k : Kept) → IsAsked version holds h v means → new k → LeavesBy keeps old version h v means answer k

-- A message to a route of a company is answered from the company's part of the history alone.
abbrev pub IsOwnReply : DeskHistory → MessageValue → (answer : Option (List ℕ)) → Type 0
IsOwnReply h v (Some bytes) = (c : List ℕ) → IsToCompany c v → bytes ≡ reply v (part h.identity h.pairs c)
IsOwnReply h v None = ⊤

abbrev pub RepliesBytes : (old : Book → Type 0) → MessageValue → (answer : Option (List ℕ)) → Type 0
RepliesBytes old v answer = (h : DeskHistory) → StandsBehind old h → IsOwnReply h v answer
