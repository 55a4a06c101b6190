-- Each history that may be found has the answered messages.
use Rattle.std.proofs.Common.{◌≡◌, sym, subst, ℕ, List, [], ◌∷◌}
use Rattle.std.specs.List.{AllByRecursion}
use Rattle.http_message.specs.Message.{MessageValue}
use Rattle.http_session.specs.Exchanges.{Exchange}
use Rattle.http_history.specs.Versions.{Version}
use Rattle.desk_http.specs.Keeping.{DeskHistory, settled}
use Rattle.desk_http.specs.Receipts.{HasReceipt, IsReceived}
use Rattle.desk_http.proofs.Receipts.{are_received, received_found, received_later, Says}
use Rattle.crash_law.specs.Runs.{MayBeFoundAfter, MayBeFoundLater, NothingIsLost}

module _ (version later : Version) (v : MessageValue) (bytes : List ℕ) where
  stays_after : (h : DeskHistory) (xs : List Exchange) (found : DeskHistory) → MayBeFoundAfter later h xs found → IsReceived version h v bytes → IsReceived version found v bytes
  stays_after h xs found (b, follows, may) is =
      received_found (Says version v bytes) later b found may (received_later (Says version v bytes) later (settled h) xs b follows is)

  stays : (h found : DeskHistory) (lives : List (List Exchange)) → IsReceived version h v bytes → MayBeFoundLater later h lives found → IsReceived version found v bytes
  stays h found [] is same = subst (λ (g : DeskHistory). IsReceived version g v bytes) (sym same) is
  stays h found (xs ∷ lives) is (begun, may, rest) = stays begun found lives (stays_after h xs begun may is) rest

all_weaker : {X : Type 0} (P Q : X → Type 0) → ((x : X) → P x → Q x) → (xs : List X) → AllByRecursion P xs → AllByRecursion Q xs
all_weaker P Q weaker [] all = tt
all_weaker P Q weaker (x ∷ xs) all = (weaker x all.0, all_weaker P Q weaker xs all.1)

stands : (version : Version) (h found : DeskHistory) (lives : List (List Exchange)) → MayBeFoundLater version h lives found → AllByRecursion (AllByRecursion (HasReceipt version found)) lives
stands version h found [] same = tt
stands version h found (xs ∷ lives) (begun, (b, follows, may), rest) =
    let here = are_received version (settled h) xs b begun follows (λ v bytes is. received_found (Says version v bytes) version b begun may is) in (
      all_weaker (HasReceipt version begun) (HasReceipt version found) (λ x has bytes is. stays version version x.message bytes begun found lives (has bytes is) rest) xs here,
      stands version begun found lives rest,
    )

pub nothing_is_lost : NothingIsLost
nothing_is_lost = record { stands = stands; stays = λ version later h found lives v bytes is may. stays version later v bytes h found lives is may }
