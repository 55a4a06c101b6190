use Rattle.cli_commands.proofs.FileCheckLemmas.{checked, check_failed}
use Rattle.cli_commands.proofs.check_incoming.check_file.Goals as goal

pub returns-clause-answered : goal.returns-clause-answered
returns-clause-answered g c = λ fine. checked _ g.W.Sink _ _ _ _ c.file_answer-answer.ensures.answer (c.print_answer.ensures.printed fine)

pub returns-clause-failed : goal.returns-clause-failed
returns-clause-failed g c = λ failed. check_failed _ g.W.Sink _ _ _ c.file_answer-answer.ensures.answer (c.print_answer.ensures.failed failed)
