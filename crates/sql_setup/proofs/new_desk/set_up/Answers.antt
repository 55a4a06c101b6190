use Rattle.std.proofs.lemmas.Result.{on_ok_weaker}
use Rattle.sqlite.specs.Held.{state}
use Rattle.sql_setup.proofs.NewDesks.{has_new_desk, left_whole}
use Rattle.sql_setup.proofs.new_desk.set_up.Goals as goal

pub returns-clause-made : goal.returns-clause-made
returns-clause-made g c clean =
    on_ok_weaker c.commit.result (has_new_desk c.args.identity c.args.operator_key (state g.S.Store c.args.conn.now) (state g.S.Store c.commit.new.conn) c.requires) (c.commit.ensures.done clean)

pub returns-clause-survives : goal.returns-clause-survives
returns-clause-survives g c = left_whole c.args.identity c.args.operator_key (state g.S.Store c.args.conn.now) (state g.S.Store c.commit.new.conn) c.requires c.commit.ensures.survives
