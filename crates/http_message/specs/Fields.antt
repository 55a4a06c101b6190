-- The fields of a head, each its name and its value.
use Rattle.std.specs.Prelude.{ℕ, Bool, List, [], ◌∷◌, map, filter, bytes_eq, Option, Some, None}
use Rattle.std.specs.Char.{to_ascii_lowercase}

abbrev pub FieldValue : Type 0
FieldValue = List ℕ × List ℕ

-- the same text in any ASCII case
abbrev pub same_in_any_case : List ℕ → List ℕ → Bool
same_in_any_case a b = bytes_eq (map to_ascii_lowercase a) (map to_ascii_lowercase b)

-- the field has this name, in any case
abbrev pub is_named : List ℕ → FieldValue → Bool
is_named name field = same_in_any_case field.0 name

-- the values of the fields of this name, in their order
abbrev pub values_of : List ℕ → List FieldValue → List (List ℕ)
values_of name fields = map (λ field. field.1) (filter (is_named name) fields)

-- the first of some values
abbrev pub first_of : List (List ℕ) → Option (List ℕ)
first_of [] = None
first_of (value ∷ values) = Some value

-- the value of the first field of this name, if there is one
abbrev pub first_value : (name : List ℕ) → List FieldValue → Option (List ℕ)
first_value name fields = first_of (values_of name fields)
