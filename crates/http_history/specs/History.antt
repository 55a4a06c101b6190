-- The history of a desk over bytes, the newest pair first, and the history of calls that it is.
use Rattle.std.specs.Prelude.{◌≡◌, ⊤, ℕ, Bool, true, false, not, ◌&&◌, if◌then◌else◌, List, [], ◌∷◌, Option, Some, None, Ok}
use Rattle.desk_history.specs.declared.identity.Identity.{Identity}
use Rattle.desk_history.specs.Message as core
use Rattle.desk_history.specs.Message.{Message, Of, TakeFile}
use Rattle.desk_history.specs.Operator.{answer_to, next_pair}
use Rattle.desk_book.specs.Book.{Book, book_of}
use Rattle.http_message.specs.Message as messages
use Rattle.http_message.specs.Message.{MessageValue}
use Rattle.http_history.specs.Verdict.{verdict_on}
use Rattle.http_history.specs.Versions.{Version, First, Present, MeansAt}
use Rattle.http_history.specs.Texts.{call_text, fault_text, is_success, is_unavailable}

-- the origin of a pair: a message, with the version of the desk that took it, or the facts of a file without its bytes
pub data Origin : Type 0 where
  taken_by : Version → MessageValue → Origin
  from_facts : Origin

-- a message that a desk of the present version took
abbrev pub from_message : MessageValue → Origin
from_message v = taken_by Present v

-- a message that a desk of version 1 took
abbrev pub from_first : MessageValue → Origin
from_first v = taken_by First v

-- a message or a file, its answer, and the message of the history of calls that it was read as
pub record Pair : Type 0 where
  pub origin : Origin
  pub answer : List ℕ
  pub means : Option Message

-- whether the connection ends after the answer
abbrev pub closes : Origin → Bool
closes (taken_by version v) = messages.closes v
closes from_facts = false

-- ---- the history of calls

-- The definitions accept the command, but it was not answered 200 or 201: nothing was done.
abbrev pub is_lost : Identity → List core.Pair → Pair → Message → Bool
is_lost identity G x (Of c r) = false
is_lost identity G x m = is_success (call_text (closes x.origin) m (answer_to identity G m)) && not (is_success x.answer)

-- the call of a pair, if it has one that was not lost
abbrev pub call_at : Identity → List core.Pair → Pair → Option Message → Option Message
call_at identity G x None = None
call_at identity G x (Some m) = if is_lost identity G x m then None else Some m

abbrev pub with_call : Identity → Option Message → List core.Pair → List core.Pair
with_call identity None G = G
with_call identity (Some m) G = next_pair identity G m ∷ G

-- the calls of a history, each with the answer that the definitions have for it
unfoldable pub calls_of : Identity → List Pair → List core.Pair
calls_of identity [] = []
calls_of identity (x ∷ H) = with_call identity (call_at identity (calls_of identity H) x x.means) (calls_of identity H)

-- the book of a history over bytes
abbrev pub book_behind : Identity → (key : List ℕ) → List Pair → Book
book_behind identity key H = book_of identity key (calls_of identity H)

-- ---- which lists are histories

-- the answer to a message after a history of calls
abbrev pub text_in : Identity → (key : List ℕ) → List core.Pair → Origin → Option Message → List ℕ
text_in identity key G origin (Some m) = call_text (closes origin) m (answer_to identity G m)
text_in identity key G (taken_by version v) None = fault_text (messages.closes v) (verdict_on (book_of identity key G) v)
text_in identity key G from_facts None = []

-- and after a history over bytes
unfoldable pub text : Identity → (key : List ℕ) → List Pair → Origin → Option Message → List ℕ
text identity key H origin means = text_in identity key (calls_of identity H) origin means

abbrev pub IsFile : Message → Type 0
IsFile (TakeFile (Ok f)) = ⊤
IsFile m = ⊥

-- it was read as this
abbrev pub IsReadAs : Identity → (key : List ℕ) → List core.Pair → Origin → Option Message → Type 0
IsReadAs identity key G (taken_by version v) means = MeansAt version (verdict_on (book_of identity key G) v) means
IsReadAs identity key G from_facts None = ⊥
IsReadAs identity key G from_facts (Some m) = IsFile m

-- No answer has the status 503: a message that is answered 503 is in no history. An answer with the status 200 or 201 is the
-- text. Other answers change nothing and may be any bytes.
pub record IsAnswer (text answer : List ℕ) : Type 0 where
  pub answered : is_unavailable answer ≡ false
  pub said : is_success answer ≡ true → answer ≡ text

-- Each answer is one after the pairs before it. The history also has a command that a crash kept, with its text.
abbrev pub IsHistory : Identity → (key : List ℕ) → List Pair → Type 0
IsHistory identity key [] = ⊤
IsHistory identity key (x ∷ H) =
    IsReadAs identity key (calls_of identity H) x.origin x.means
    × IsAnswer (text identity key H x.origin x.means) x.answer
    × IsHistory identity key H

-- A history, and the book that a store holds is its book.
pub record StandsFor (holds : Book → Type 0) (identity : Identity) (key : List ℕ) (H : List Pair) : Type 0 where
  pub history : IsHistory identity key H
  pub book : holds (book_behind identity key H)
