use Rattle.std.proofs.Common.{◌∙◌, ap}
use Rattle.desk_store.specs.Changes.{in_turn, lapse_in}
use Rattle.memory_store.proofs.cut.decide.Goals as goal

pub returns : goal.returns
returns c = λ finds.
    c.change_all-2.ensures.made (c.change_all.ensures.found finds)
    ∙ ap (in_turn lapse_in c.args.cut.now.lapsed.now) (c.change_all.ensures.made finds)
