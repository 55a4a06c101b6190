-- Lives of a desk that a crash ended each: which history the files may then have.
use Rattle.std.specs.Prelude.{◌≡◌, ℕ, List, [], ◌∷◌}
use Rattle.std.specs.List.{AllByRecursion}
use Rattle.http_message.specs.Message.{MessageValue}
use Rattle.http_session.specs.Exchanges.{Exchange, Follows}
use Rattle.http_history.specs.Versions.{Version}
use Rattle.desk_http.specs.Keeping.{DeskHistory, settled, KeptHistory, MayBeFound, TakesBy}
use Rattle.desk_http.specs.Receipts.{HasReceipt, IsReceived}

-- After these messages, the oldest first, the history of those that were answered, or that history with one pending message
-- more. 503 does not count as an answer.
abbrev pub MayBeFoundAfter : Version → DeskHistory → List Exchange → (found : DeskHistory) → Type 0
MayBeFoundAfter version h xs found = (b : KeptHistory) × Follows (TakesBy version) (settled h) xs b × MayBeFound version b found

-- over lives one after another, the oldest first
abbrev pub MayBeFoundLater : Version → DeskHistory → List (List Exchange) → (found : DeskHistory) → Type 0
MayBeFoundLater version h [] found = found ≡ h
MayBeFoundLater version h (xs ∷ lives) found = (begun : DeskHistory) × MayBeFoundAfter version h xs begun × MayBeFoundLater version begun lives found

-- The history that is found has each answered message of each life, with its answer, and all that there was before these lives.
pub record NothingIsLost : Type 0 where
  pub stands : (version : Version) (h found : DeskHistory) (lives : List (List Exchange)) → MayBeFoundLater version h lives found
      → AllByRecursion (AllByRecursion (HasReceipt version found)) lives
  pub stays : (version later : Version) (h found : DeskHistory) (lives : List (List Exchange)) (v : MessageValue) (bytes : List ℕ) → IsReceived version h v bytes
      → MayBeFoundLater later h lives found → IsReceived version found v bytes
