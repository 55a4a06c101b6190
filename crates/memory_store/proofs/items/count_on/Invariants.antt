use Rattle.std.proofs.Common.{◌≡◌, ◌+◌, ◌≤◌, ◌==◌, drop}
use Rattle.std.specs.Prelude.{count_by}
use Rattle.memory_store.proofs.items.count_on.Given as goal

abbrev pub invariant-loop-file : goal.invariant-loop-file
invariant-loop-file l = record {
  count : l.count + count_by (λ f. f.day == l.day) (drop l.file-index l.files) ≡ count_by (λ f. f.day == l.day) l.files;
  few : l.count ≤ l.file-index;
}
