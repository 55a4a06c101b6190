use Rattle.remembering_store.proofs.Unchanged.{count_added}
use Rattle.remembering_store.proofs.known.Known.add.Goals as goal

pub returns : goal.returns
returns c = λ b retry is next numbered right.
    let a = c.args in
    count_added a.company a.order a.content.now retry b a.self.now c.set.new.self c.add.new.self c.add-2.new.self next right
    (c.add.ensures b retry next numbered right.sums) (c.add-2.ensures b retry is next right.held) c.set.ensures
