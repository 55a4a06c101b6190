use Rattle.std.proofs.Common.{rules, arith}
use Rattle.sqlite.specs.Held.{state}
use Rattle.sqlite.specs.State.{HasCleanDisk}
use Rattle.sql_setup.proofs.NewDesks.{desk_made}
use Rattle.sql_setup.proofs.new_desk.NewDeskTransactionBody.run.Goals as goal

pub returns : goal.returns
returns g c = record {
  same_reference = search rules;
  makes = λ clean.
      let b = c.args.self.now in
      let s0 = state g.S.Store c.args.tx.now.conn.now in
      let s1 = state g.S.Store c.check_name.new.tx.conn.now in
      let s2 = state g.S.Store c.create_tables.new.tx.conn.now in
      let s3 = state g.S.Store c.put_desk.new.tx.conn.now in
      let clean2 : HasCleanDisk s2 = omega (arith, c.put_desk.ensures.survives.clean, clean) in
      let clean1 : HasCleanDisk s1 = omega (arith, c.create_tables.ensures.survives.clean, c.put_desk.ensures.survives.clean, clean) in
      desk_made b.identity b.operator_key s0 s1 s2 s3 (c.in_ok-check_name.ensures.makes clean1).0 (c.in_ok-check_name.ensures.makes clean1).1 (c.create_tables.ensures.keeps clean2) (c.in_ok-create_tables.ensures.makes clean2) (c.in_ok-put_desk.ensures.makes clean).0 (c.in_ok-put_desk.ensures.makes clean).1;
  keeps = search rules;
  survives = search rules;
}
