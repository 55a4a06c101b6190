use Rattle.std.proofs.Common.{◌≡◌, []}
use Rattle.sqlite.specs.Held.{state}
use Rattle.sqlite.specs.State.{HasCleanDisk}
use Rattle.sql_statements.specs.Definitions.{IsBlank}
use Rattle.sql_statements.specs.Promises.{KeepsCommitted, LeavesNothingNew}
use Rattle.sql_tables.specs.Schema.{desk_definitions, schema_of}
use Rattle.sql_setup.proofs.MadeInTurn.{schema_after}
use Rattle.sql_setup.proofs.create.create_tables.Given as goal

abbrev pub invariant-loop-sql : goal.invariant-loop-sql
invariant-loop-sql g l =
    let start = state g.S.Store l.fn.tx.conn.now in
    let now = state g.S.Store l.tx.conn.now in
    record {
      same : l.tx.conn.ghost_name ≡ l.fn.tx.conn.ghost_name;
      made : HasCleanDisk now → IsBlank (schema_of []) start.now → IsBlank (schema_after (schema_of []) l.sql-index desk_definitions) now.now;
      keeps : KeepsCommitted g.S.Store l.fn.tx.conn.now l.tx.conn.now;
      survives : LeavesNothingNew g.S.Store l.fn.tx.conn.now l.tx.conn.now;
    }
