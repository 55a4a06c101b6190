use Rattle.remembering_store.proofs.HeldSizes.{none_decided}
use Rattle.remembering_store.proofs.held.held_of.HeldOf.keep.Goals as goal

pub returns : goal.returns
returns c = none_decided (record c.args.self.now { sizes = c.args.sizes; decided = c.clear.new.self }) c.clear.ensures.empty
