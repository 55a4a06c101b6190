-- Whatever a crash leaves has the answered messages.
use Rattle.std.specs.Prelude.{◌≡◌, ℕ, List, Any, Some}
use Rattle.std.specs.List.{AllByRecursion}
use Rattle.desk_store.specs.declared.store.Store.{Ghosts}
use Rattle.http_message.specs.Message.{MessageValue}
use Rattle.http_session.specs.Exchanges.{Exchange, StandsAfter}
use Rattle.http_history.specs.History.{taken_by}
use Rattle.http_history.specs.Versions.{Present, Version}
use Rattle.desk_http.specs.Keeping.{DeskHistory, StandsBehind, KeptHistory, StandsIn, Takes}

-- the history has this message, which a desk of this version took, with these bytes as its answer
abbrev pub IsReceived : Version → DeskHistory → MessageValue → (bytes : List ℕ) → Type 0
IsReceived version h v bytes = Any (λ p. (p.origin ≡ taken_by version v) × (p.answer ≡ bytes)) h.pairs

-- if the message was answered, the history has it with its answer
abbrev pub HasReceipt : Version → DeskHistory → Exchange → Type 0
HasReceipt version h x = (bytes : List ℕ) → x.answer ≡ Some bytes → IsReceived version h x.message bytes

-- The history has each of these messages that was answered, and each answered message that another history had.
pub record HasReceipts (before : DeskHistory) (exchanges : List Exchange) (found : DeskHistory) : Type 0 where
  pub new : AllByRecursion (HasReceipt Present found) exchanges
  pub old : (version : Version) (v : MessageValue) (bytes : List ℕ) → IsReceived version before v bytes → IsReceived version found v bytes

module _ {S : Type 0} (g : Ghosts S) where
  -- what a session or a server says of the desk of a store
  abbrev pub StandsOnStore : (old new : S) → List Exchange → Type 0
  StandsOnStore old new exchanges = StandsAfter Takes (g.is_clean new) (StandsIn g old) (StandsIn g new) exchanges

  -- Whatever a crash leaves after a session keeps the book of a history that has each message that was answered, and all that
  -- the desk had before.
  abbrev pub ReceiptsAreKept : Type 0
  ReceiptsAreKept =
      (old new : S) (b : KeptHistory) (exchanges : List Exchange) (k : g.Kept) → StandsOnStore old new exchanges
      → g.is_clean new → StandsIn g old b → g.may_leave new k
      → (found : DeskHistory) × HasReceipts b.history exchanges found × StandsBehind (g.keeps k) found
