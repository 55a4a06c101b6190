use Rattle.std.proofs.Common.{◌≡◌, ◌+◌, unwrap_or, rules}
use Rattle.sql_writes.proofs.LastNumbers.{last_selects, next_read}
use Rattle.sql_writes.proofs.numbering.next_after.Goals as goal

pub cell_inside-requires : goal.cell_inside-requires
cell_inside-requires g c = rw (c.last_query.ensures) (last_selects c.args.table)

pub returns-in-Some : goal.returns-in-Some
returns-in-Some g c = record {
  same_reference = search rules;
  makes = λ clean.
      let is : c.in-Some.next ≡ unwrap_or c.in_ok-last.last 0 + 1 = search rules in
      next_read c.args.table (rw (c.last_query.ensures) at (c.in_ok-last.ensures.runs.makes clean).0) (c.in_ok-last.ensures.runs.makes clean).1 is;
  keeps = search rules;
  survives = search rules;
}
