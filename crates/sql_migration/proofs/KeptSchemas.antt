-- What changes rows alone leaves the schema.
use Rattle.std.proofs.Common.{◌≡◌, None, Ok, ap}
use Rattle.sqlite.specs.Command.{Command}
use Rattle.sqlite.specs.Does.{Tally, OnRows}
use Rattle.sqlite.specs.State.{State, mode_of}
use Rattle.sqlite.specs.Effect.{Database}
use Rattle.sqlite.specs.Rows.{Task}
use Rattle.sqlite.specs.Tree.{Trees}
use Rattle.sql_statements.proofs.Inserts.{went, same_value}

pub rows_schema : (task : Task) (s : State) (command : Command) (db : Trees) (tally : Tally) (new : Database) → OnRows task (mode_of s) None command db (Ok (tally, new)) → new.schema ≡ task.schema
rows_schema task s command db tally new rows = ap (λ (t : Tally × Database). t.1.schema) (same_value (went (went (went rows).2).2).2)
