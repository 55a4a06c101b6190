use Rattle.std.proofs.lemmas.Result.{IfOk-weaker}
use Rattle.sql_queries.proofs.FirstRows.{all_read}
use Rattle.sql_queries.proofs.rows.all_of.Goals as goal

pub returns-clause-answer : goal.returns-clause-answer
returns-clause-answer g c clean = IfOk-weaker c.read_while.result _ _ (λ xs read. all_read read) (c.read_while.ensures.answer clean)
