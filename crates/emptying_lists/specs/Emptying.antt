-- Items that are taken from the front of a list.
use Rattle.std.specs.Prelude.{◌≡◌, List, [], ◌∷◌, Option, MatchOption}

-- the first item is taken, or nothing if there is none
abbrev pub TakesFirst : {T : Type 0} → (old new : List T) → Option T → Type 0
TakesFirst old new result = MatchOption result ((old ≡ []) × (new ≡ [])) (λ first. old ≡ first ∷ new)
