use Rattle.std.specs.Prelude.{fold}
use Rattle.desk_book.specs.Steps.{put_lapsed_row, put_sent_row, put_entries, put_postings, put_file}
use Rattle.remembering_store.specs.HeldSizes.{HeldRight}
use Rattle.remembering_store.proofs.Companies.{one_more, all_done, files_keep_rows}
use Rattle.remembering_store.proofs.HeldSizes.{same_held}
use Rattle.remembering_store.proofs.held.KnownHeld.follow_cut.Goals as goal

pub loop-row-preserved : goal.loop-row-preserved
loop-row-preserved c =
    one_more HeldRight (λ b. b) put_sent_row c.args.cut.now.sent.now c.loop-row.row-index c.row-item.result c.args.self.now c.loop-row.self c.send.new.self c.loop-row-test.true c.row-item.is c.loop-row.invariant c.send.ensures

pub loop-row-2-init : goal.loop-row-2-init
loop-row-2-init c = all_done HeldRight (λ b. b) put_sent_row c.args.cut.now.sent.now c.loop-row.row-index c.args.self.now c.loop-row.self c.loop-row-test.false c.loop-row.invariant

pub loop-row-2-preserved : goal.loop-row-2-preserved
loop-row-2-preserved c =
    one_more HeldRight (λ b. fold put_sent_row b c.args.cut.now.sent.now) put_lapsed_row c.args.cut.now.lapsed.now c.loop-row-2.row-index c.row-item-in-loop-row-2.result c.args.self.now c.loop-row-2.self c.lapse.new.self
    c.loop-row-2-test.true c.row-item-in-loop-row-2.is c.loop-row-2.invariant c.lapse.ensures

pub returns : goal.returns
returns c = λ b right.
    let x = c.args.cut.now in
    let rows = all_done HeldRight (λ b. fold put_sent_row b x.sent.now) put_lapsed_row x.lapsed.now c.loop-row-2.row-index c.args.self.now c.loop-row-2.self c.loop-row-2-test.false c.loop-row-2.invariant b right in
    let after = put_postings x.postings.now (put_entries x.entries.now (fold put_lapsed_row (fold put_sent_row b x.sent.now) x.lapsed.now)) in
    same_held c.loop-row-2.self (fold put_lapsed_row (fold put_sent_row b x.sent.now) x.lapsed.now) (fold put_file after x.files.now) (files_keep_rows x.files.now after) rows
