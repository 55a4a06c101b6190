use Rattle.std.proofs.Common.{[]}
use Rattle.ach_files.specs.Has.{HasRead}
use Rattle.cli_commands.specs.Feeding.{StopsBy}
use Rattle.cli_commands.proofs.VerdictLemmas.{on_input}
use Rattle.cli_commands.proofs.file_verdict.verdict_of.Goals as goal

pub returns-in-Ok-clause-verdict : goal.returns-in-Ok-clause-verdict
returns-in-Ok-clause-verdict g c =
    on_input (λ bytes. HasRead c.feed_all.new.reader bytes) _ _ (c.in-Ok.ensures.fed [] c.new-reader.ensures) c.end_verdict.ensures

pub returns-clause-verdict : goal.returns-clause-verdict
returns-clause-verdict g c = on_input (λ bytes. StopsBy bytes c.in-Err.stop) _ _ (c.in-Err.ensures.fed [] c.new-reader.ensures) c.stop_verdict.ensures.verdict
