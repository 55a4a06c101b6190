use Rattle.std.proofs.Common.{rules, ◌≡◌, IsTrue, false, inl}
use Rattle.sqlite.specs.Held.{state}
use Rattle.sql_tables.specs.DeskTables.{version}
use Rattle.sql_setup.proofs.DeskChecks.{desk_checked, refused_by_schema}
use Rattle.sql_setup.proofs.Refused.{of_version, refused}
use Rattle.sql_setup.proofs.check.check_desk.Goals as goal

pub returns-then-is_none-clause-refused : goal.returns-then-is_none-clause-refused
returns-then-is_none-clause-refused g c =
    let value = c.schema.ensures.value in
    let named = c.table_named.ensures in
    let none = c.is_none.ensures in
    let is = c.if-is_none.true in
    refused g.S.Store version c.args.conn.now c.args.conn.now _ (λ clean. inl (search rules))

pub returns-in-Ok-clause-checked : goal.returns-in-Ok-clause-checked
returns-in-Ok-clause-checked g c clean =
    let is : IsTrue c.is_autocommit.result = search rules in
    let autocommit : (state g.S.Store c.args.conn.now).in_transaction ≡ false = search rules in
    desk_checked g.S.Store c.args.conn.now c.check_version.new.conn c.schema-in-Ok.result.now c.schema-in-Ok.ensures.value autocommit (c.is_autocommit.ensures.settled is) c.check_schema.result (c.in-Ok.ensures.version clean) c.check_schema.ensures

pub returns-in-Ok-clause-refused : goal.returns-in-Ok-clause-refused
returns-in-Ok-clause-refused g c =
    refused_by_schema g.S.Store c.args.conn.now c.check_version.new.conn c.schema-in-Ok.result.now c.schema-in-Ok.ensures.value version c.in-Ok.ensures.version c.check_schema.result c.check_schema.ensures

pub returns-in-Err-clause-refused : goal.returns-in-Err-clause-refused
returns-in-Err-clause-refused g c =
    refused g.S.Store version c.args.conn.now c.check_version.new.conn c.in-Err.why
    (λ clean. of_version g.S.Store version c.args.conn.now c.check_version.new.conn c.in-Err.why (c.in-Err.ensures.told clean))
