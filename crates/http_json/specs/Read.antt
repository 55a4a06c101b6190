-- The JSON of a body.
use Rattle.std.specs.Prelude.{ℕ, List, Option, None, option_map, option_and_then, if◌then◌else◌}
use Rattle.std.specs.Str.{is_utf8}
use Rattle.json.specs.Json.{Json, if_last, value}
use Rattle.json.specs.Lex.{tokens}
use Rattle.serde_json.specs.Data.{Data}
use Rattle.serde_json.specs.Find.{as_object}
use Rattle.serde_json.specs.Read.{max_depth, read}

-- what a body is in JSON, if it is that
abbrev pub json_of : List ℕ → Option Data
json_of body = if is_utf8 body then read body else None

-- a value that is an object
abbrev pub object_in : Data → Option Data
object_in d = option_map (λ _. d) (as_object d)

-- the object that a body is
abbrev pub object_of : List ℕ → Option Data
object_of body = option_and_then object_in (json_of body)

-- the value that a text is by the grammar, whatever its numbers are
abbrev pub parsed : (text : List ℕ) → Option Json
parsed text = option_and_then (λ p. if_last p.0 p.1) (value max_depth (tokens text))
