use Rattle.std.proofs.Common.{◌≤◌, ◌-◌, ◌++◌, List, ℕ, take, length}
use Rattle.ach_files.specs.Has.{HasBytes, item_room}
use Rattle.ach_files.specs.declared.recogniser.Recogniser.{Recogniser}
use Rattle.ach_files.proofs.recogniser.Recogniser.take_all.Given as goal

pub record Taking (old new : Recogniser) (piece : List ℕ) (next : ℕ) : Type 0 where
  pub within : next ≤ length piece
  pub room : item_room old ≤ item_room new
  pub read : (bytes : List ℕ) → HasBytes old bytes → HasBytes new (bytes ++ take next piece)

abbrev pub invariant-loop-next : goal.invariant-loop-next
invariant-loop-next l = Taking l.fn.self l.self l.piece l.next

abbrev pub decreases-loop-next : goal.decreases-loop-next
decreases-loop-next l = length l.piece - l.next
