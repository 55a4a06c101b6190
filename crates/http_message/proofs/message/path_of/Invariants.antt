use Rattle.std.proofs.Common.{◌≡◌, ℕ, ◌-◌, ◌<◌, ◌≤◌, length, get_or, false}
use Rattle.std.specs.Prelude.{◌==◌}
use Rattle.http_message.proofs.message.path_of.Given as goal

abbrev pub invariant-loop-at : goal.invariant-loop-at
invariant-loop-at l = record {
  within : l.at ≤ length l.target;
  before : (k : ℕ) → k < l.at → (get_or l.target k 0 == 63) ≡ false;
}

abbrev pub decreases-loop-at : goal.decreases-loop-at
decreases-loop-at l = length l.target - l.at
