-- What a listener in memory did.
use Rattle.std.specs.Prelude.{◌≡◌, [], ◌∷◌, ◌++◌, false}
use Rattle.memory_listener.specs.declared.client.Client.{Client}
use Rattle.memory_listener.specs.declared.clients.Clients.{Clients}

-- the first of those that wait was accepted
pub record TakesOne (old : Clients) (client : Client) (new : Clients) : Type 0 where
  pub taken : old.waiting.now ≡ client.left ∷ new.waiting.now
  pub closed : new.closed.items ≡ old.closed.items
  pub is_short : new.is_short ≡ old.is_short

-- none waits
abbrev pub HasNone : (old new : Clients) → Type 0
HasNone old new = (old.waiting.now ≡ []) × (new ≡ old)

-- the client was closed and is kept, unless one was lost
pub record KeepsOne (old : Clients) (client : Client) (new : Clients) : Type 0 where
  pub waiting : new.waiting.now ≡ old.waiting.now
  pub kept : new.is_short ≡ false → (old.is_short ≡ false) × (new.closed.items ≡ old.closed.items ++ client ∷ [])
