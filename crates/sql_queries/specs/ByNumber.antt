-- The lines of a company's returns by their numbers.
use Rattle.std.specs.declared.cmp.Ordering.{Ordering}
use Rattle.std.specs.Ordering.{nat_cmp, on}
use Rattle.sql_tables.specs.declared.row.items.ReturnLine.{ReturnLine}

abbrev pub by_line_number : ReturnLine → ReturnLine → Ordering
by_line_number = on (λ l. l.number) nat_cmp
