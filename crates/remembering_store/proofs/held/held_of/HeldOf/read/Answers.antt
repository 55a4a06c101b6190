use Rattle.std.proofs.Common.{◌∙◌}
use Rattle.remembering_store.proofs.HeldSizes.{read_off}
use Rattle.remembering_store.proofs.held.held_of.HeldOf.read.Goals as goal

pub returns-clause-result : goal.returns-clause-result
returns-clause-result c = λ rs are. c.in-Ok.ensures ∙ read_off c.args.self.now rs are
