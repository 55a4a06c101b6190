-- A text that is a SELECT, whatever the schema is in which it is read.
use Rattle.std.specs.Prelude.{◌≡◌, ⊤, ℕ, Bool, true, false, List, None, Result, Ok, Err}
use Rattle.sqlite_ast.specs.declared.Statement.{Statement}
use Rattle.sqlite_ast.specs.declared.Statement.TheVariants as written
use Rattle.sqlite_syntax.specs.declared.statement.Parsed.{Parsed}
use Rattle.sqlite_schema.specs.declared.schema.Schema.{Schema}
use Rattle.sqlite_resolve.specs.declared.compiled.Compiled.{Compiled}
use Rattle.sqlite_resolve.specs.declared.error.CompileError.{CompileError}
use Rattle.sqlite_resolve.specs.Compile.{first}
use Rattle.sqlite.specs.Listing.{understood}

abbrev pub is_select_statement : Statement → Bool
is_select_statement (written.Select s) = true
is_select_statement _ = false

abbrev pub parses_as_select : Result Parsed CompileError → Bool
parses_as_select (Ok p) = is_select_statement p.statement
parses_as_select (Err e) = false

abbrev pub IsSelectText : List ℕ → Type 0
IsSelectText sql = parses_as_select (first sql) ≡ true

abbrev pub DoesNotReturn : Result Compiled CompileError → Type 0
DoesNotReturn (Ok c) = c.returning ≡ None
DoesNotReturn (Err e) = ⊤

-- under no schema it is a write that shows rows
abbrev pub HasNoReturning : List ℕ → Type 0
HasNoReturning sql = (schema : Schema) → DoesNotReturn (understood schema sql)
