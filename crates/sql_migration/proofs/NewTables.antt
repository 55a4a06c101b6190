-- The two tables that version 2 adds are made in version 1's schema, and in no other of both versions.
use Rattle.std.proofs.Common.{◌≡◌, ℕ, [], Ok, Err, refl, sym, ap, ◌∙◌}
use Rattle.sqlite_tied.specs.Compute.{everything}
use Rattle.sqlite_resolve.specs.declared.error.CompileError.TheVariants.{Exists}
use Rattle.sqlite.specs.Change.{created}
use Rattle.sqlite.specs.Listing.{understood}
use Rattle.sqlite.specs.Schema.{Schema}
use Rattle.sqlite.specs.Table.{Table}
use Rattle.sqlite.specs.State.{State, Executes, ExecutesIn}
use Rattle.sql_statements.specs.Definitions.{IsCreate}
use Rattle.sql_tables.specs.Schema.{desk_schema}
use Rattle.sql_tables.specs.DeskTables as the
use Rattle.sql_tables.specs.Description.{create_text, table}
use Rattle.sql_migration.specs.FirstVersion.{first_schema}

-- a text names no tree
abbrev pub written_numbers : Table
written_numbers = record (table the.sequences) { tree = 0 }

abbrev pub written_authorizations : Table
written_authorizations = record (table the.authorizations) { tree = 0 }

abbrev pub numbered_schema : Schema
numbered_schema = created first_schema written_numbers

pub creates_numbers : IsCreate first_schema (create_text the.sequences) written_numbers
unfolding understood everything
creates_numbers = record { is = refl; whole = refl; plain = (refl, refl); defines = refl; uncounted = refl }

pub creates_authorizations : IsCreate numbered_schema (create_text the.authorizations) written_authorizations
unfolding understood everything
creates_authorizations = record { is = refl; whole = refl; plain = (refl, refl); defines = refl; uncounted = refl }

numbers_are_there : understood desk_schema (create_text the.sequences) ≡ Err Exists
unfolding understood everything
numbers_are_there = refl

-- numbers are not made twice
pub not_second : (old new : State) (count : ℕ) → Executes (create_text the.sequences) [] old new (Ok count) → old.now.schema ≡ desk_schema → ⊥
unfolding ExecutesIn
not_second old new count ran is = let e = sym ran.1.is ∙ ap (λ s. understood s (create_text the.sequences)) is ∙ numbers_are_there in cc
