use Rattle.std.proofs.Common.{ap, ◌∙◌}
use Rattle.cli_commands.specs.FileChecks.{change_count, return_count}
use Rattle.cli_commands.specs.declared.file_verdict.Verdict.TheVariants.{Fine}
use Rattle.cli_commands.proofs.VerdictLemmas.{counts_verdict}
use Rattle.cli_commands.proofs.file_verdict.end_verdict.Goals as goal

pub returns-in-Ok : goal.returns-in-Ok
returns-in-Ok c = λ bytes h.
    counts_verdict c.in-Ok.incoming bytes c.items_verdict.result
    (c.items_verdict.ensures ∙ ap (λ items. Fine (return_count items) (change_count items)) c.items.ensures)
    (c.in-Ok.ensures.read bytes h)
