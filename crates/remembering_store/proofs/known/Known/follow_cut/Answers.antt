use Rattle.desk_store.specs.Written.{cut_rows, cut_step}
use Rattle.remembering_store.proofs.Unchanged.{all_followed, cut_same}
use Rattle.remembering_store.proofs.known.Known.follow_cut.Goals as goal

pub returns : goal.returns
returns c = λ b right.
    let x = c.args.cut.now in
    all_followed c.args.self.now c.follow_cut.new.self c.follow_cut-2.new.self b ((cut_step x).after b) (cut_same (cut_rows x) b)
    (c.follow_cut.ensures b right.sums) (c.follow_cut-2.ensures b right.held) right
