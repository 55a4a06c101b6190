use Rattle.std.proofs.Common.{◌≡◌, ◌++◌, map, zip}
use Rattle.std.specs.List.{flat_map}
use Rattle.desk_accounts.specs.Laws.{pairs}
use Rattle.desk_cut.specs.Numbers.{line_by}
use Rattle.desk_cut.specs.Sent.{sending_in}
use Rattle.desk_cut.proofs.postings.postings_of.Given as goal

-- the lines so far, and those of what is left
abbrev pub invariant-loop-sending : goal.invariant-loop-sending
invariant-loop-sending l =
    l.postings.items ++ pairs (flat_map line_by (zip (map sending_in l.sending-iterator.a.rest.now) l.sending-iterator.b.rest.now))
    ≡ pairs (flat_map line_by (zip (map sending_in l.sent) l.loads))
