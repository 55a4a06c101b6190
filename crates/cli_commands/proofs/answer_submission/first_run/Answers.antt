use Rattle.cli_commands.specs.SubmissionRuns.{first_run_line}
use Rattle.cli_commands.proofs.PrintingLemmas.{has_answered, is_failed_run}
use Rattle.cli_commands.proofs.answer_submission.first_run.Goals as goal

pub returns-clause-answered : goal.returns-clause-answered
returns-clause-answered g c = λ fine.
    has_answered first_run_line _ g.W.Sink _ _ _ _ c.input_answer-answer.ensures.answer (c.print_answer.ensures.printed fine)

pub returns-clause-failed : goal.returns-clause-failed
returns-clause-failed g c = λ failed.
    is_failed_run first_run_line _ g.W.Sink _ _ _ c.input_answer-answer.ensures.answer (c.print_answer.ensures.failed failed)
