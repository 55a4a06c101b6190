use Rattle.cli_commands.proofs.FileCheckLemmas.{on_taken}
use Rattle.cli_commands.proofs.check_incoming.file_answer.Goals as goal

pub returns-in-Some-clause-answer : goal.returns-in-Some-clause-answer
returns-in-Some-clause-answer g c =
    on_taken (g.R.Source.remaining c.args.reader.now) c.in-Some.verdict _ c.file_or_fault.ensures.file c.faults_stand.ensures c.long_bytes_have_faults.ensures
    c.in-Some.ensures.verdict c.verdict_answer.ensures
