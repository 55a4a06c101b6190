-- What a write appends to a text.
use Rattle.std.specs.Prelude.{◌≡◌, ℕ, Bool, List, ◌++◌, Vec}
use Rattle.std.specs.declared.alloc.Global.{Global}
use Rattle.serde_json.specs.Data.{Data}
use Rattle.serde_json.specs.Written.{compact_text}
use Rattle.http_json.specs.Members.{member_text}

-- the text gains these bytes
abbrev pub Gains : (old new : Vec ℕ Global) → (bytes : List ℕ) → Type 0
Gains old new bytes = new.items ≡ old.items ++ bytes

-- the text gains a value, as compact JSON
abbrev pub GainsValue : (old new : Vec ℕ Global) → Data → Type 0
GainsValue old new value = Gains old new (compact_text value)

-- the text gains a member of an object, after a comma where it is not the first
abbrev pub GainsMember : (old new : Vec ℕ Global) → (later : Bool) → (key : List ℕ) → Data → Type 0
GainsMember old new later key value = Gains old new (member_text later key value)
