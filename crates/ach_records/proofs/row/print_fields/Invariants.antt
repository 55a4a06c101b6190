use Rattle.std.proofs.Common.{◌≡◌, ◌+◌, ◌++◌, length, drop, take, map}
use Rattle.std.specs.List.{sum_by}
use Rattle.ach_records.specs.Print.{row_text, row_fault}
use Rattle.ach_records.specs.Row.{value_of, field_width}
use Rattle.ach_records.proofs.row.print_fields.Given as goal

abbrev pub invariant-loop-field : goal.invariant-loop-field
invariant-loop-field l = record {
  long : length l.line ≡ 94;
  text : take l.at l.line ++ row_text (map value_of (drop l.field-index l.fields)) ≡ row_text (map value_of l.fields);
  fault : row_fault (map value_of (drop l.field-index l.fields)) ≡ row_fault (map value_of l.fields);
  widths : l.at + sum_by field_width (drop l.field-index l.fields) ≡ 94;
}
