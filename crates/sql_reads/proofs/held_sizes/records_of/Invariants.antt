use Rattle.std.proofs.Common.{◌≡◌, ◌≤◌, ◌*◌, take}
use Rattle.std.specs.Prelude.{sum_by}
use Rattle.desk_history.specs.Sendings.{records_of}
use Rattle.sql_reads.proofs.held_sizes.records_of.Given as goal

abbrev pub invariant-loop-info : goal.invariant-loop-info
invariant-loop-info l = record {
  value : l.records ≡ sum_by records_of (take l.info-index l.infos);
  within : l.records ≤ 2 * l.info-index;
}
