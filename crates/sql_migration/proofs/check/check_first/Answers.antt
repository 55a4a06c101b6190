use Rattle.std.proofs.Common.{rules, inl}
use Rattle.sql_setup.proofs.DeskChecks.{refused_by_schema}
use Rattle.sql_setup.proofs.Refused.{of_version, refused}
use Rattle.sql_migration.specs.FirstVersion.{first_version}
use Rattle.sql_migration.proofs.FirstChecks.{first_checked}
use Rattle.sql_migration.proofs.check.check_first.Goals as goal

pub returns-then-is_none-clause-refused : goal.returns-then-is_none-clause-refused
returns-then-is_none-clause-refused g c =
    let value = c.schema.ensures.value in
    let named = c.table_named.ensures in
    let none = c.is_none.ensures in
    let is = c.if-is_none.true in
    refused g.S.Store first_version c.args.conn.now c.args.conn.now _ (λ clean. inl (search rules))

pub returns-in-Ok-clause-checked : goal.returns-in-Ok-clause-checked
returns-in-Ok-clause-checked g c =
    first_checked g.S.Store c.check_version.new.conn c.schema-in-Ok.result.now c.schema-in-Ok.ensures.value c.check_schema.result c.check_schema.ensures

pub returns-in-Ok-clause-refused : goal.returns-in-Ok-clause-refused
returns-in-Ok-clause-refused g c =
    refused_by_schema g.S.Store c.args.conn.now c.check_version.new.conn c.schema-in-Ok.result.now c.schema-in-Ok.ensures.value first_version c.in-Ok.ensures.version c.check_schema.result c.check_schema.ensures

pub returns-in-Err-clause-refused : goal.returns-in-Err-clause-refused
returns-in-Err-clause-refused g c =
    refused g.S.Store first_version c.args.conn.now c.check_version.new.conn c.in-Err.why
    (λ clean. of_version g.S.Store first_version c.args.conn.now c.check_version.new.conn c.in-Err.why (c.in-Err.ensures.told clean))
