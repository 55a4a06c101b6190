-- The calls of a store of lists that refuses one of them: each gives what the lists give or makes their step, and counts.
use Rattle.std.specs.Prelude.{◌≡◌, ◌≢◌, ◌-◌, ⊤, ℕ, List, Option, Result, Err, OnErr, Vec}
use Rattle.std.specs.declared.alloc.Global.{Global}
use Rattle.desk_book.specs.Book.{Book}
use Rattle.desk_book.specs.Steps.{Step}
use Rattle.desk_rules.specs.declared.bodies.submission.Retry.{Retry}
use Rattle.desk_rules.specs.declared.bodies.submission.Submission.{Submission}
use Rattle.desk_store.specs.Promises.{CallAdds, CallGives, CallGivesList, CallTakes}
use Rattle.desk_store.specs.declared.store.StoreFault.{StoreFault}
use Rattle.desk_store.specs.declared.store.StoreFault.TheVariants.{Unavailable}
use Rattle.memory_store.specs.Kept.{IsBookOf, IsHeld}
use Rattle.faulty_store.specs.declared.store.FaultyStore.{FaultyStore}

-- the book is that of the lists
abbrev pub Holds : FaultyStore → Book → Type 0
Holds f = IsHeld f.store

abbrev pub MayLeave : FaultyStore → Book → Type 0
MayLeave f = IsBookOf f.store

module _ (old new : FaultyStore) where
  -- the call gives this value of the book
  abbrev pub GivesHeld : {A : Type 0} → Result A StoreFault → (Book → A) → Type 0
  GivesHeld = CallGives (λ _. ⊤) Holds MayLeave old new

  -- the same of a list
  abbrev pub GivesHeldList : {A : Type 0} → Result (Vec A Global) StoreFault → (Book → List A) → Type 0
  GivesHeldList = CallGivesList (λ _. ⊤) Holds MayLeave old new

  -- it takes this step
  abbrev pub TakesHeld : Result (Unit {0}) StoreFault → Step → Type 0
  TakesHeld = CallTakes (λ _. ⊤) Holds MayLeave (λ k b. k ≡ b) old new

  -- it adds a company's submission or retry
  abbrev pub AddsHeld : Result (Unit {0}) StoreFault → (company : List ℕ) → (order : ℕ) → Submission → Option Retry → Type 0
  AddsHeld = CallAdds (λ _. ⊤) Holds MayLeave (λ k b. k ≡ b) old new

  -- The call counts. If the count has come to it, it is refused and leaves the lists unchanged. Any other call fails only if
  -- the same call of the lists may fail: `MayFail` says when, which is never for a call that takes no memory.
  pub record Counts {A : Type 0} (result : Result A StoreFault) (MayFail : Type 0) : Type 0 where
    pub counted : new.until ≡ old.until - 1
    pub refused : old.until ≡ 1 → (result ≡ Err Unavailable) × (new.store ≡ old.store)
    pub answered : old.until ≢ 1 → OnErr result MayFail
