use Rattle.std.proofs.Common.{rules, arith}
use Rattle.sqlite.specs.Held.{state}
use Rattle.sqlite.specs.State.{HasCleanDisk}
use Rattle.sql_migration.proofs.MigrationMade.{migration_made}
use Rattle.sql_migration.proofs.body.MigrationTransactionBody.run.Goals as goal

pub returns : goal.returns
returns g c = record {
  same_reference = search rules;
  makes = λ clean.
      let s0 = state g.S.Store c.args.tx.now.conn.now in
      let s1 = state g.S.Store c.execute.new.tx.conn.now in
      let s2 = state g.S.Store c.execute-2.new.tx.conn.now in
      let s3 = state g.S.Store c.execute-3.new.tx.conn.now in
      let s4 = state g.S.Store c.number_entries.new.tx.conn.now in
      let clean3 : HasCleanDisk s3 = omega (arith, c.number_entries.ensures.survives.clean, clean) in
      let clean2 : HasCleanDisk s2 = omega (arith, c.execute-3.ensures.survives.clean, clean3) in
      let clean1 : HasCleanDisk s1 = omega (arith, c.execute-2.ensures.survives.clean, clean2) in
      migration_made s0 s1 s2 s3 s4 c.in_ok-execute.field-0 c.in_ok-execute-2.field-0 c.in_ok-execute-3.field-0 (c.in_ok-execute.ensures.makes clean1).shown (c.in_ok-execute-2.ensures.makes clean2).shown (c.in_ok-execute-3.ensures.makes clean3).shown
      (c.in_ok-execute.ensures.makes clean1).ran (c.in_ok-execute-2.ensures.makes clean2).ran (c.in_ok-execute-3.ensures.makes clean3).ran (c.in_ok-number_entries.ensures.makes clean);
  keeps = search rules;
  survives = search rules;
}
