use Rattle.std.proofs.Common.{◌≡◌, ◌++◌, [], List, map, drop}
use Rattle.desk_history.specs.declared.sent_entry.SentEntry.{SentEntry}
use Rattle.desk_intake.specs.ReturnedEntries.{HasEntries}
use Rattle.desk_intake.specs.Resolutions.{found_item_as, judged_after, judged_as}
use Rattle.desk_intake.proofs.judged_item.judge.Given as goal

-- these entries are returned so far, and the resolutions of the items so far and of the rest are all
abbrev pub invariant-loop-found_item : goal.invariant-loop-found_item
invariant-loop-found_item l = record {
  came : List SentEntry;
  has : HasEntries l.earlier came;
  rest : map judged_as l.judged.items ++ judged_after came (map found_item_as (drop l.found_item-index l.found)) ≡ judged_after [] (map found_item_as l.found);
}
