use Rattle.io_retries.proofs.FailureLemmas.{writes_all}
use Rattle.cli_commands.proofs.output.write_line.Goals as goal

pub returns : goal.returns
returns g c =
    let wrote = c.write_all_with_retries.ensures in
    writes_all g.W.Sink _ _ _ _ c.write_all_with_retries.result wrote.bytes wrote.flushed wrote.fault
