-- How much of an input is read, and what it has.
use Rattle.std.specs.Prelude.{◌≡◌, ◌≤◌, ℕ, List, Option, option_map, take, length, IfSome}
use Rattle.std.specs.Io.KnownBytes.{Consumes}

-- how many bytes a body, a list or a file has at most
abbrev pub most_input : ℕ
most_input = 4_194_304

-- how many bytes are read at most: one more decides as all would
abbrev pub most_read : ℕ
most_read = 4_194_305

-- how many of them at once, if a file is read
abbrev pub most_piece : ℕ
most_piece = 65_536

-- what is read of an input
abbrev pub bounded : (input : Option (List ℕ)) → Option (List ℕ)
bounded input = option_map (take most_read) input

-- an input has these bytes, if its bytes are known
abbrev pub MayHave : (input : Option (List ℕ)) → (bytes : List ℕ) → Type 0
MayHave input bytes = IfSome input (λ known. known ≡ bytes)

-- an input lost at most so many bytes, if its bytes are known
abbrev pub TakesAtMost : (most : ℕ) → (old new : Option (List ℕ)) → Type 0
TakesAtMost most old new = (taken : List ℕ) × Consumes old new taken × (length taken ≤ most)
