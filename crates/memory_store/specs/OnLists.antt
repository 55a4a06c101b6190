-- The promises of calls of a store of lists: it is always clean, and a crash leaves the book that it holds.
use Rattle.std.specs.Prelude.{◌≡◌, ⊤, List, Result, Vec}
use Rattle.std.specs.declared.alloc.Global.{Global}
use Rattle.desk_book.specs.Book.{Book}
use Rattle.desk_book.specs.Steps.{Step}
use Rattle.desk_store.specs.Promises.{CallGives, CallGivesList, CallTakes}
use Rattle.desk_store.specs.declared.store.StoreFault.{StoreFault}
use Rattle.memory_store.specs.Kept.{IsBookOf, IsHeld}
use Rattle.memory_store.specs.declared.list_store.ListStore.{ListStore}

module _ (old new : ListStore) where
  -- the call gives this value of the book
  abbrev pub GivesHeld : {A : Type 0} → Result A StoreFault → (Book → A) → Type 0
  GivesHeld = CallGives (λ _. ⊤) IsHeld IsBookOf old new

  -- the same of a list
  abbrev pub GivesHeldList : {A : Type 0} → Result (Vec A Global) StoreFault → (Book → List A) → Type 0
  GivesHeldList = CallGivesList (λ _. ⊤) IsHeld IsBookOf old new

  -- it takes this step
  abbrev pub TakesHeld : Result (Unit {0}) StoreFault → Step → Type 0
  TakesHeld = CallTakes (λ _. ⊤) IsHeld IsBookOf (λ k b. k ≡ b) old new
