use Rattle.cli_commands.proofs.PrintingLemmas.{written_or_cut_off}
use Rattle.cli_commands.proofs.output.print_unavailable.Goals as goal

pub returns-clause-printed : goal.returns-clause-printed
returns-clause-printed g c = written_or_cut_off _ g.W.Sink _ _ _ c.write_line.ensures
