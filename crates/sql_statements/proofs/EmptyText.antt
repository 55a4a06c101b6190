-- A text with no statement changes nothing.
use Rattle.std.proofs.Common.{◌≡◌, ℕ, [], Ok, refl}
use Rattle.sqlite_schema.specs.declared.schema.Schema.{Schema}
use Rattle.sqlite_schema.specs.declared.command.Command.TheVariants.{Nothing}
use Rattle.sqlite_value.specs.Order.{Row}
use Rattle.sqlite.specs.Given.{IsPlain}
use Rattle.sqlite.specs.Listing.{understood}
use Rattle.sqlite.specs.State.{State, Executes, IsUnchanged}
use Rattle.sqlite.proofs.Callers.{command_of, runs_as}
use Rattle.sqlite_tied.specs.Compute.{everything}

asks_nothing : (schema : Schema) → command_of (understood schema []) ≡ Nothing
unfolding understood everything
asks_nothing schema = refl

is_plain : (schema : Schema) → IsPlain (understood schema [])
unfolding understood everything
is_plain schema = (refl, refl)

pub nothing_changes : (params : Row) (old new : State) (count : ℕ) → Executes [] params old new (Ok count) → IsUnchanged old new
nothing_changes params old new count h = (runs_as [] params old new old.now.schema refl Nothing (asks_nothing old.now.schema) (is_plain old.now.schema) count h).0
