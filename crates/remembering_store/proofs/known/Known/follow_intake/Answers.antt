use Rattle.std.specs.Prelude.{fold}
use Rattle.desk_book.specs.Steps.{put_return}
use Rattle.desk_store.specs.Written.{intake_rows, intake_step}
use Rattle.remembering_store.proofs.Companies.{changes_keep_rows}
use Rattle.remembering_store.proofs.HeldSizes.{returns_held, same_held}
use Rattle.remembering_store.proofs.Unchanged.{all_followed, intake_same}
use Rattle.remembering_store.proofs.known.Known.follow_intake.Goals as goal

pub returns : goal.returns
returns c = λ b right.
    let x = c.args.intake.now in
    let held = c.args.self.now.held in
    let back = fold put_return b x.returned.now in
    all_followed c.args.self.now c.follow_intake.new.self held b ((intake_step x).after b) (intake_same (intake_rows x) b) (c.follow_intake.ensures b right.sums)
    (same_held held back ((intake_step x).after b) (changes_keep_rows x.changed.now back) (returns_held x.returned.now held b right.held)) right
