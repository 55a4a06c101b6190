use Rattle.std.specs.Prelude.{fold}
use Rattle.desk_book.specs.Steps.{put_return, put_change, put_suspense, put_postings, put_taken_file}
use Rattle.remembering_store.specs.KnownSums.{SumsRight}
use Rattle.remembering_store.proofs.Companies.{one_more, all_done, same_rows, changes_keep_rows}
use Rattle.remembering_store.proofs.sums.KnownSums.follow_intake.Goals as goal

pub loop-row-preserved : goal.loop-row-preserved
loop-row-preserved c =
    one_more SumsRight (λ b. b) put_return c.args.intake.now.returned.now c.loop-row.row-index c.row-item.result c.args.self.now c.loop-row.self c.give_back.new.self c.loop-row-test.true c.row-item.is c.loop-row.invariant c.give_back.ensures

pub returns : goal.returns
returns c = λ b right.
    let x = c.args.intake.now in
    let rows = all_done SumsRight (λ b. b) put_return x.returned.now c.loop-row.row-index c.args.self.now c.loop-row.self c.loop-row-test.false c.loop-row.invariant b right in
    same_rows c.loop-row.self (fold put_return b x.returned.now) (put_taken_file x.file (put_postings x.postings.now (put_suspense x.suspense.now (fold put_change (fold put_return b x.returned.now) x.changed.now)))) (changes_keep_rows x.changed.now (fold put_return b x.returned.now)) rows
