use Rattle.cli_commands.specs.SubmissionRuns.{first_run_line}
use Rattle.cli_commands.proofs.InputLemmas.{answers_whole, first_run_decided}
use Rattle.cli_commands.proofs.answer_submission.input_answer.Goals as goal

pub returns-clause-answer : goal.returns-clause-answer
returns-clause-answer g c =
    answers_whole first_run_line (g.R.Source.remaining c.args.reader.now) c.in-Some.body.items _ first_run_decided
    c.in-Some.ensures.bytes
    (rw c.as_slice.ensures.value at c.answer_line.ensures)
