use Rattle.cli_submit.proofs.DraftsOfBodies.{bodies_are_drafts}
use Rattle.cli_submit.proofs.laws.bodies_are_drafts.Goals as goal

pub returns : goal.returns
returns c = bodies_are_drafts
