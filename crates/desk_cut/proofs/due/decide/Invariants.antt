use Rattle.std.proofs.Common.{◌≡◌, ◌<◌, ◌++◌, map, drop, All}
use Rattle.desk_book.specs.OnCut.{sendings, lapses_among}
use Rattle.desk_cut.specs.Sent.{due_in}
use Rattle.desk_cut.proofs.due.decide.Given as goal

-- what is sent and what lapses so far, and what the rest gives
abbrev pub invariant-loop-one : goal.invariant-loop-one
invariant-loop-one l = record {
  sent : map due_in l.sent.items ++ sendings l.holidays l.day (drop l.one-index l.waiting) ≡ sendings l.holidays l.day l.waiting;
  later : All (λ s. l.day < s.settled) l.sent.items;
  lapsed : l.lapsed.items ++ lapses_among l.holidays l.day (drop l.one-index l.waiting) ≡ lapses_among l.holidays l.day l.waiting;
}
