use Rattle.cli_submit.specs.Options.{texts_of}
use Rattle.cli_commands.specs.ListRuns.{list_answer}
use Rattle.cli_commands.proofs.PrintingLemmas.{has_answered, is_failed_run}
use Rattle.cli_commands.proofs.submit_entries.submit_list.Goals as goal

pub returns-clause-answered : goal.returns-clause-answered
returns-clause-answered g c = λ fine.
    has_answered (list_answer (texts_of c.args.options.now)) _ g.W.Sink _ _ _ _ c.input_answer-answer.ensures.answer (c.print_answer.ensures.printed fine)

pub returns-clause-failed : goal.returns-clause-failed
returns-clause-failed g c = λ failed.
    is_failed_run (list_answer (texts_of c.args.options.now)) _ g.W.Sink _ _ _ c.input_answer-answer.ensures.answer (c.print_answer.ensures.failed failed)
