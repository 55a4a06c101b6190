-- The history that a desk represents while it answers messages, and the histories that a crash may leave of it.
use Rattle.std.specs.Prelude.{◌≡◌, ◌⊎◌, ℕ, Bool, true, false, IsFalse, List, [], ◌∷◌, Any, Option, Some, None}
use Rattle.desk_history.specs.declared.identity.Identity.{Identity}
use Rattle.desk_history.specs.Message.{Message}
use Rattle.desk_book.specs.Book.{Book}
use Rattle.desk_book.specs.Writes.{is_read, writes_on}
use Rattle.desk_store.specs.declared.store.Store as store
use Rattle.desk_admission.specs.Answering.{IsLeft}
use Rattle.http_message.specs.Message.{MessageValue}
use Rattle.http_history.specs.History.{book_behind, Pair, StandsFor, taken_by, text}
use Rattle.http_history.specs.Verdict.{verdict_on}
use Rattle.http_history.specs.Versions.{MeansAt, Present, Version}

-- the history of a desk: its identity, the digest of the operator's key, and the messages with their answers
pub record DeskHistory : Type 0 where
  pub identity : Identity
  pub key : List ℕ
  pub pairs : List Pair

-- before the first message
abbrev pub new_history : Identity → (key : List ℕ) → DeskHistory
new_history identity key = record { identity = identity; key = key; pairs = [] }

abbrev pub StandsBehind : (holds : Book → Type 0) → DeskHistory → Type 0
StandsBehind holds h = StandsFor holds h.identity h.key h.pairs

abbrev pub book_after : DeskHistory → Book
book_after h = book_behind h.identity h.key h.pairs

-- ---- answered messages

-- the history with a message more, which a desk of this version took
abbrev pub with_taken : Version → DeskHistory → MessageValue → (answer : List ℕ) → Option Message → DeskHistory
with_taken version h v answer means =
    record { identity = h.identity; key = h.key; pairs = record { origin = taken_by version v; answer = answer; means = means } ∷ h.pairs }

-- the same, with the text that the definitions have for it
abbrev pub with_answered : Version → DeskHistory → MessageValue → Option Message → DeskHistory
with_answered version h v means = with_taken version h v (text h.identity h.key h.pairs (taken_by version v) means) means

-- The bytes are the text of the message after the history, as a desk of this version reads it, and the history has this pair
-- more.
pub record IsAnsweredBy (version : Version) (h : DeskHistory) (v : MessageValue) (bytes : List ℕ) (after : DeskHistory) : Type 0 where
  pub means : Option Message
  pub read : MeansAt version (verdict_on (book_after h) v) means
  pub said : bytes ≡ text h.identity h.key h.pairs (taken_by version v) means
  pub more : after ≡ with_taken version h v bytes means

-- ---- messages without an answer

-- whether a message writes: without a call it does not
abbrev pub writes : Book → Option Message → Bool
writes b None = false
writes b (Some m) = writes_on b m

-- whether it asks for what is known, and no more
abbrev pub reads : Option Message → Bool
reads None = true
reads (Some m) = is_read m

-- A history, and the messages since the last one that was answered and wrote that were not answered: they are pending. A crash
-- may have kept one of them.
pub record KeptHistory : Type 0 where
  pub history : DeskHistory
  pub pending : List MessageValue

-- a history without pending messages, as that of a desk that was just made or opened
abbrev pub settled : DeskHistory → KeptHistory
settled h = record { history = h; pending = [] }

-- the history with one of these messages more, as if that had been answered; it is not a read
pub record IsOneMore (version : Version) (h : DeskHistory) (pending : List MessageValue) (more : DeskHistory) : Type 0 where
  pub message : MessageValue
  pub answer : List ℕ
  pub is_pending : Any (λ p. p ≡ message) pending
  pub answered : IsAnsweredBy version h message answer more
  pub asks : IsFalse (reads answered.means)

-- the history of the answered messages, or that history with one pending message more
abbrev pub MayBeFound : Version → KeptHistory → (found : DeskHistory) → Type 0
MayBeFound version b found = (found ≡ b.history) ⊎ IsOneMore version b.history b.pending found

-- ---- a message more

-- after an answered message that wrote, none is pending
abbrev pub pending_after : (wrote : Bool) → List MessageValue → List MessageValue
pending_after true pending = []
pending_after false pending = pending

-- a message was answered with these bytes
pub record IsTaken (version : Version) (before : KeptHistory) (v : MessageValue) (bytes : List ℕ) (after : KeptHistory) : Type 0 where
  pub answered : IsAnsweredBy version before.history v bytes after.history
  pub pending : after.pending ≡ pending_after (writes (book_after before.history) answered.means) before.pending

-- a message was answered so; or it was not, and is pending
abbrev pub TakesBy : Version → (before : KeptHistory) → MessageValue → (answer : Option (List ℕ)) → (after : KeptHistory) → Type 0
TakesBy version before v (Some bytes) after = IsTaken version before v bytes after
TakesBy version before v None after = after ≡ record { history = before.history; pending = v ∷ before.pending }

-- the same by a desk of the present version
abbrev pub Takes : (before : KeptHistory) → MessageValue → (answer : Option (List ℕ)) → (after : KeptHistory) → Type 0
Takes = TakesBy Present

-- After the history a desk of this version answers so: by the text, or not at all.
abbrev pub GoesBy : Version → DeskHistory → MessageValue → Option Message → (answer : Option (List ℕ)) → (new : Book → Type 0) → Type 0
GoesBy version h v means (Some bytes) new =
    (bytes ≡ text h.identity h.key h.pairs (taken_by version v) means) × StandsBehind new (with_taken version h v bytes means)
GoesBy version h v means None new = StandsBehind new h

-- And a crash then leaves this.
abbrev pub LeavesBy : {Kept : Type 0} → (keeps : Kept → Book → Type 0) → (old : Kept → Type 0)
    → Version → DeskHistory → MessageValue → Option Message → (answer : Option (List ℕ)) → Kept → Type 0
LeavesBy keeps old version h v means (Some bytes) k = IsLeft (writes (book_after h) means) (keeps k (book_after (with_answered version h v means))) (old k)
LeavesBy keeps old version h v means None k = old k ⊎ (IsFalse (reads means) × keeps k (book_after (with_answered version h v means)))

-- ---- what a store has of it

module _ {Kept : Type 0} (holds : Book → Type 0) (keeps : Kept → Book → Type 0) (may_leave : Kept → Type 0) where
  -- The store holds the book of the history. Whatever a crash leaves keeps that book, or the book of the history with one
  -- pending message more.
  pub record StandsKeptBy (version : Version) (b : KeptHistory) : Type 0 where
    pub stands : StandsBehind holds b.history
    pub left : (k : Kept) → may_leave k → (found : DeskHistory) × MayBeFound version b found × keeps k (book_after found)

  -- the same of a desk of the present version
  abbrev pub StandsKept : KeptHistory → Type 0
  StandsKept = StandsKeptBy Present

-- the desk of a store
abbrev pub StandsIn : {S : Type 0} → store.Ghosts S → S → KeptHistory → Type 0
StandsIn g s = StandsKept (g.holds s) g.keeps (g.may_leave s)
