use Rattle.std.proofs.Common.{take}
use Rattle.std.specs.Prelude.{fold}
use Rattle.desk_book.specs.Steps.{put_return}
use Rattle.remembering_store.specs.KnownSums.{Follows}
use Rattle.remembering_store.proofs.sums.KnownSums.follow_intake.Given as goal

abbrev pub invariant-loop-row : goal.invariant-loop-row
invariant-loop-row l = Follows l.fn.self l.self (λ b. fold put_return b (take l.row-index l.row-items))
