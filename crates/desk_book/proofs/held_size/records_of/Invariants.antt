use Rattle.std.proofs.Common.{◌≡◌, ◌≤◌, ◌*◌, take}
use Rattle.std.specs.Prelude.{sum_by}
use Rattle.desk_history.specs.Sendings.{records_of}
use Rattle.desk_book.proofs.held_size.records_of.Given as goal

abbrev pub invariant-loop-entry : goal.invariant-loop-entry
invariant-loop-entry l = record {
  value : l.records ≡ sum_by (λ e. records_of e.info) (take l.entry-index l.entries);
  within : l.records ≤ 2 * l.entry-index;
}
