use Rattle.std.proofs.Common.{take}
use Rattle.std.specs.Prelude.{fold}
use Rattle.desk_book.specs.Steps.{put_lapsed_row, put_sent_row}
use Rattle.remembering_store.specs.HeldSizes.{FollowsHeld}
use Rattle.remembering_store.proofs.held.KnownHeld.follow_cut.Given as goal

abbrev pub invariant-loop-row : goal.invariant-loop-row
invariant-loop-row l = FollowsHeld l.fn.self l.self (λ b. fold put_sent_row b (take l.row-index l.row-items))

abbrev pub invariant-loop-row-2 : goal.invariant-loop-row-2
invariant-loop-row-2 l = FollowsHeld l.fn.self l.self (λ b. fold put_lapsed_row (fold put_sent_row b l.cut.sent.now) (take l.row-index l.row-items))
