-- What a writer took where a write failed.
use Rattle.std.specs.Prelude.{◌≡◌, ℕ, Option, List, ◌++◌, Result, MatchResult}
use Rattle.std.specs.Io.KnownBytes.{Appends}

-- the writer took a prefix of the bytes, perhaps all of them or none
abbrev pub AppendsPrefix : (old new : Option (List ℕ)) → (bytes : List ℕ) → Type 0
AppendsPrefix old new bytes = (sent : List ℕ) × (unsent : List ℕ) × (bytes ≡ sent ++ unsent) × Appends old new sent

-- the writer took all the bytes; where a write failed, a prefix of them
abbrev pub WriteAllAppends : {A E : Type 0} → (old new : Option (List ℕ)) → Result A E → (bytes : List ℕ) → Type 0
WriteAllAppends old new result bytes =
    MatchResult result (λ _. Appends old new bytes) (λ _. AppendsPrefix old new bytes)
