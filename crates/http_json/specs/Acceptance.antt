-- The body of an accepted submission or retry.
use Rattle.std.specs.Prelude.{ℕ, List, [], ◌∷◌, codes}
use Rattle.serde_json.specs.Data.{Data, number, unsigned, string}
use Rattle.http_json.specs.Members.{object_of}

-- its cents, how many entries it has, its order number and its reference
abbrev pub acceptance_members : (reference : List ℕ) → (cents entries order : ℕ) → List (List ℕ × Data)
acceptance_members reference cents entries order =
    (codes "cents", number (unsigned cents))
    ∷ (codes "entries", number (unsigned entries))
    ∷ (codes "order", number (unsigned order))
    ∷ (codes "ref", string reference) ∷ []

unfoldable pub acceptance_body : (reference : List ℕ) → (cents entries order : ℕ) → Data
acceptance_body reference cents entries order = object_of (acceptance_members reference cents entries order)
