-- How tables stand in a database.
use Rattle.std.specs.Prelude.{◌≡◌}
use Rattle.sqlite_schema.specs.declared.schema.Schema.{Schema}
use Rattle.sqlite_trees.specs.Tree.{Trees}
use Rattle.sqlite.specs.Effect.{Database}

pub record Layout : Type 1 where
  -- what stands in the tables
  pub Tables : Type 0
  -- another one where a statement of the transaction makes a table
  pub schema : Tables → Schema
  pub IsStored : Trees → Tables → Type 0

abbrev pub Holds : (layout : Layout) → Database → layout.Tables → Type 0
Holds layout db t = (db.schema ≡ layout.schema t) × layout.IsStored db.trees t
