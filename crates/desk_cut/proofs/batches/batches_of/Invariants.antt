use Rattle.std.proofs.Common.{◌≡◌, ◌++◌, map, zip}
use Rattle.desk_history.specs.Sendings.{batch_of}
use Rattle.desk_cut.specs.Sent.{sending_in, batch_in}
use Rattle.desk_cut.proofs.batches.batches_of.Given as goal

-- the batches so far, and those of the ranges that are left
abbrev pub invariant-loop-range : goal.invariant-loop-range
invariant-loop-range l =
    map batch_in l.batches.items ++ map batch_of (zip l.range-iterator.a.rest.now (map sending_in l.range-iterator.b.rest.now))
    ≡ map batch_of (zip l.ranges (map sending_in l.sent))
