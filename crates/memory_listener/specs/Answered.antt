-- What clients were answered.
use Rattle.std.specs.Prelude.{◌≡◌, ◌⊎◌, ⊤, ℕ, List, [], ◌∷◌, ◌++◌, length, true, Some, Result, Ok, Err}
use Rattle.std.specs.Borrow.{Bor}
use Rattle.http_session.specs.Exchanges.{Exchange}
use Rattle.http_session.specs.Session.{SessionSpoke}
use Rattle.http_session.specs.declared.serving.ServeFault.{ServeFault}
use Rattle.http_session.specs.declared.serving.ServeFault.TheVariants.{Accept}
use Rattle.http_session.specs.declared.sessions.Ended.{Ended}
use Rattle.memory_listener.specs.declared.client.Client.{Client}
use Rattle.memory_listener.specs.declared.clients.Clients.{Clients}

-- What a client sent spells these messages, up to what its session left, and what it got is their answers, in order. No fault
-- ended its session.
abbrev pub GotAnswers : (sent got : List ℕ) → List Exchange → Type 0
GotAnswers sent got exchanges =
    (ended : Ended) × (left : List ℕ) × SessionSpoke (Some sent) (Some left) (Some []) (Some got) (Ok ended) exchanges

-- it was answered so, or memory for its answer was refused
abbrev pub IsAnswered : (sent : Bor (List ℕ)) → Client → List Exchange → Type 0
IsAnswered sent client exchanges = GotAnswers sent.now client.got.items exchanges ⊎ (client.is_short ≡ true)

-- each client was
abbrev pub AreAnswered : (sent : List (Bor (List ℕ))) → List Client → List (List Exchange) → Type 0
AreAnswered [] [] [] = ⊤
AreAnswered (s ∷ sent) (client ∷ clients) (exchanges ∷ sessions) = IsAnswered s client exchanges × AreAnswered sent clients sessions
AreAnswered sent clients sessions = ⊥

-- as many were served as were to be; or fewer, as many as are told, and then none waited
abbrev pub EndsServed : {A : Type 0} → Result A ServeFault → (count connections : ℕ) → Clients → Type 0
EndsServed (Ok a) count connections clients = count ≡ connections
EndsServed (Err (Accept served)) count connections clients = (served ≡ count) × (clients.waiting.now ≡ [])

-- The clients that waited were served, the first of the list first, and each was answered.
pub record WereServed {A : Type 0} (connections : ℕ) (old new : Clients) (result : Result A ServeFault) (sessions : List (List Exchange)) : Type 0 where
  pub sent : List (Bor (List ℕ))
  pub clients : List Client
  pub waited : old.waiting.now ≡ sent ++ new.waiting.now
  pub closed : new.closed.items ≡ old.closed.items ++ clients
  pub answered : AreAnswered sent clients sessions
  pub ends : EndsServed result (length sessions) connections new
