use Rattle.std.proofs.Common.{◌∙◌}
use Rattle.std.proofs.IntoIterSteps.{All-taken}
use Rattle.desk_cli.proofs.program.collected.Goals as goal

pub returns-in-Ok-clause-words : goal.returns-in-Ok-clause-words
returns-in-Ok-clause-words c =
    let h = c.in-Ok.ensures.ran in
    let last = h.1.2 tt in
    h.2.0 ∙ All-taken c.args.words h.0 (last.0, (h.1.0, h.1.1, last.1))
