-- The lists of bodies, each row by what it is in JSON.
use Rattle.std.specs.Prelude.{ℕ, Bool, false, List, [], ◌∷◌, ◌++◌, map, Vec}
use Rattle.std.specs.declared.alloc.Global.{Global}
use Rattle.serde_json.specs.Data.{Data, array}
use Rattle.serde_json.specs.View.{items_of}
use Rattle.serde_json.specs.Written.{comma_if, compact_text, items_text}
use Rattle.http_json.specs.Gains.{Gains}
use Rattle.http_json.specs.Members.{object_of}

-- the list of these rows
abbrev pub list_of : {A : Type 0} → (body : A → Data) → (rows : List A) → Data
list_of body rows = array (items_of (map body rows))

-- the object that has a list as its only member
abbrev pub list_alone : {A : Type 0} → (key : List ℕ) → (body : A → Data) → (rows : List A) → Data
list_alone key body rows = object_of ((key, list_of body rows) ∷ [])

-- a text gains the rows of a list, with its closing bracket
abbrev pub GainsRows : {A : Type 0} → (old new : Vec ℕ Global) → (body : A → Data) → (rows : List A) → Type 0
GainsRows old new body rows = Gains old new (items_text false (items_of (map body rows)))

-- a text gains a row, after a comma where it is not the first
abbrev pub GainsRow : (old new : Vec ℕ Global) → (later : Bool) → (row : Data) → Type 0
GainsRow old new later row = Gains old new (comma_if later ++ compact_text row)
