use Rattle.std.proofs.Common.{◌≡◌, ◌++◌, drop, map}
use Rattle.std.specs.Prelude.{filter}
use Rattle.desk_book.specs.Reads.{held_submission}
use Rattle.desk_book.specs.Standing.{is_held}
use Rattle.memory_store.specs.Finds.{rows_for}
use Rattle.memory_store.specs.Kept.{row_in}
use Rattle.memory_store.specs.Placed.{FindsAll, picked}
use Rattle.memory_store.specs.declared.place_index.KeyKind.TheVariants as kinds
use Rattle.memory_store.proofs.waiting.push_waiting.Given as goal

abbrev pub invariant-loop-place : goal.invariant-loop-place
invariant-loop-place l =
    FindsAll kinds.Reference (map row_in l.kept) l.references
    → l.found.items ++ map (held_submission l.company (rows_for l.kept l.company.id)) (filter is_held (rows_for (picked l.kept (drop l.place-index l.places)) l.company.id))
    ≡ l.fn.found.items ++ map (held_submission l.company (rows_for l.kept l.company.id)) (filter is_held (rows_for (picked l.kept l.places) l.company.id))
