use Rattle.std.proofs.Common.{◌≡◌, List, drop, length, map}
use Rattle.csv.specs.Records.{fields_of}
use Rattle.serde_json.specs.View.{view}
use Rattle.cli_submit.specs.Bodies.{entry_data}
use Rattle.cli_submit.specs.Rows.{EntryTexts}
use Rattle.cli_submit.proofs.ListEntries.{Taken}
use Rattle.cli_submit.proofs.rows.entries_of_rows.Given as goal

abbrev pub invariant-loop-row : goal.invariant-loop-row
invariant-loop-row l = record {
  entries : List EntryTexts;
  taken : Taken (map fields_of l.rows) (map fields_of (drop l.row-index l.rows)) (length l.values.items) entries;
  are : map view l.values.items ≡ map entry_data entries;
}
