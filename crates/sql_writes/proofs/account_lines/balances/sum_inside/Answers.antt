use Rattle.std.proofs.Common.{rules}
use Rattle.sql_query_laws.proofs.Texts.{sum_is}
use Rattle.sql_writes.proofs.LineSums.{sum_read}
use Rattle.sql_writes.proofs.account_lines.balances.sum_inside.Goals as goal

pub cell_inside-requires : goal.cell_inside-requires
cell_inside-requires g c = sum_is.selects

pub returns : goal.returns
returns g c = record {
  same_reference = search rules;
  makes = λ clean. sum_read c.args.account.now c.args.value_day (rw (c.characters.ensures, c.as_slice.ensures.value, c.account_text-text.ensures, c.date.ensures) at (c.in_ok-sum.ensures.runs.makes clean).0) c.in_ok-sum.ensures.fits (c.in_ok-sum.ensures.runs.makes clean).1;
  keeps = search rules;
  survives = search rules;
}
