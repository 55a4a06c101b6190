use Rattle.std.proofs.Common.{◌≡◌, take, map}
use Rattle.desk_book.specs.OpenSubmissions.{standing_cents}
use Rattle.desk_book.proofs.open_submission.open_cents.Given as goal

abbrev pub invariant-loop-fact : goal.invariant-loop-fact
invariant-loop-fact l = l.cents.items ≡ map standing_cents (take l.fact-index l.facts)
