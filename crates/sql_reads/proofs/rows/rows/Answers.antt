use Rattle.std.proofs.Common.{◌∙◌, sym}
use Rattle.sql_query_laws.proofs.Selects.{each_itself}
use Rattle.sql_read_steps.proofs.InTurn.{learnt, learned}
use Rattle.sql_reads.proofs.rows.rows.Goals as goal

pub returns : goal.returns
returns g c = learned (learnt c.read_each.ensures c.in_ok-found.was) (λ t are. sym (each_itself c.in_ok-found.found.items) ∙ are)
