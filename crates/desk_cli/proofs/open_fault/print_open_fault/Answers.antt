use Rattle.desk_cli.proofs.OpenFaultLemmas.{fails_to_say, says_fault}
use Rattle.desk_cli.proofs.open_fault.print_open_fault.Goals as goal

pub returns : goal.returns
returns g c = record {
  answered = λ fine. says_fault _ _ _ _ _ _ c.fault_answer.ensures (c.print_answer.ensures.printed fine);
  failed = λ failed. fails_to_say _ _ _ _ _ c.fault_answer.ensures (c.print_answer.ensures.failed failed);
}
