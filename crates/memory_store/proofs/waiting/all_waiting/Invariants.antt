use Rattle.std.proofs.Common.{◌≡◌, ◌++◌, drop, map}
use Rattle.std.specs.List.{flat_map}
use Rattle.memory_store.specs.Finds.{FindWaiting, rows_for, waiting_for}
use Rattle.memory_store.specs.Kept.{row_in}
use Rattle.memory_store.proofs.waiting.all_waiting.Given as goal

abbrev pub invariant-loop-company : goal.invariant-loop-company
invariant-loop-company l =
    FindWaiting (map row_in l.kept) l.index l.references
    → l.found.items ++ flat_map (λ k. waiting_for k (rows_for l.kept k.id)) (drop l.company-index l.companies)
    ≡ flat_map (λ k. waiting_for k (rows_for l.kept k.id)) l.companies
