-- How the tables and indexes of a desk's file come, one after another, in a blank file.
use Rattle.std.specs.Prelude.{List, ⊤, [], ◌∷◌}
use Rattle.sqlite.specs.Schema.{Schema}
use Rattle.sqlite.specs.State.{State}
use Rattle.sql_statements.specs.Definitions.{IsBlank, IsCreate, IsCreateIndex}
use Rattle.sql_tables.specs.Schema.{Definition, NewTable, NewIndex, schema_of, with_definition}

-- Where these stood, and no row, those stand after it, and no row.
abbrev pub MakesUpTo : (stood stand : List Definition) → State → State → Type 0
MakesUpTo stood stand before after = IsBlank (schema_of stood) before.now → IsBlank (schema_of stand) after.now

-- in this schema the text makes what it says; a text names no tree
abbrev pub IsMadeIn : Schema → Definition → Type 0
IsMadeIn schema (NewTable text table) = IsCreate schema text (record table { tree = 0 })
IsMadeIn schema (NewIndex text at table index) = IsCreateIndex schema text at table index

-- each does so in the schema that those before it make
abbrev pub AreMadeIn : Schema → List Definition → Type 0
AreMadeIn schema [] = ⊤
AreMadeIn schema (d ∷ ds) = IsMadeIn schema d × AreMadeIn (with_definition schema d) ds
