use Rattle.std.proofs.Common.{◌≡◌, ◌++◌, drop, map}
use Rattle.std.specs.Prelude.{filter_map}
use Rattle.desk_rules.specs.Attempts.{attempt_of}
use Rattle.desk_book.specs.Standing.{state_at}
use Rattle.desk_calls.proofs.retry.attempts.push_retries.Given as goal

abbrev pub invariant-loop-retry : goal.invariant-loop-retry
invariant-loop-retry l =
    l.tried.items ++ filter_map attempt_of (map (λ retry. state_at retry 1) (drop l.retry-index l.retries))
    ≡ l.fn.tried.items ++ filter_map attempt_of (map (λ retry. state_at retry 1) l.retries)
