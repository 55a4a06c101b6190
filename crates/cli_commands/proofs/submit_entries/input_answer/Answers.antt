use Rattle.cli_submit.specs.Options.{texts_of}
use Rattle.cli_commands.specs.ListRuns.{list_answer}
use Rattle.cli_commands.proofs.InputLemmas.{answers_whole, list_decided}
use Rattle.cli_commands.proofs.submit_entries.input_answer.Goals as goal

pub returns-clause-answer : goal.returns-clause-answer
returns-clause-answer g c =
    answers_whole (list_answer (texts_of c.args.options.now)) (g.R.Source.remaining c.args.reader.now) c.in-Some.list.items _ (list_decided (texts_of c.args.options.now))
    c.in-Some.ensures.bytes
    (rw c.as_slice.ensures.value at c.list_answer.ensures)
