use Rattle.std.proofs.Common.{rules, []}
use Rattle.sqlite.specs.Held.{state}
use Rattle.sql_setup.proofs.FreeNames.{name_text, no_desk, not_run_keeps}
use Rattle.sql_setup.proofs.blank.check_name.Goals as goal

pub returns-in_err-prepare : goal.returns-in_err-prepare
returns-in_err-prepare g c = record {
  same_reference = search rules;
  makes = search rules;
  keeps = λ clean. not_run_keeps name_text [] (state g.S.Store c.args.tx.now.conn.now) (state g.S.Store c.prepare.new.self.conn.now) c.in_err-prepare.field-0.0 (c.in_err-prepare.ensures.err clean []);
  survives = search rules;
}

pub returns : goal.returns
returns g c = record {
  same_reference = search rules;
  makes = λ clean. (λ is. no_desk c.args.tx.now.conn.now.schema c.in_ok-prepare.field-0 (c.in_ok-prepare.ensures.shape clean) is, (c.in_ok-prepare.ensures.ok clean).1);
  keeps = search rules;
  survives = search rules;
}
