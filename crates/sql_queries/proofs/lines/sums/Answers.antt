use Rattle.std.proofs.Common.{rules}
use Rattle.sql_tables.specs.QueryRows.{day_sum_row}
use Rattle.sql_tables.specs.RowRanges.{DaySumFits}
use Rattle.sql_query_laws.proofs.Found.{all_found_within, together}
use Rattle.sql_query_laws.proofs.LinesShown.{sums_shown}
use Rattle.sql_query_laws.proofs.SumRows.{day_sums_apart}
use Rattle.sql_query_laws.proofs.Texts.{sums_is}
use Rattle.sql_queries.proofs.lines.sums.Goals as goal

pub all_of-requires : goal.all_of-requires
all_of-requires g c = sums_is.selects

pub returns : goal.returns
returns g c = record {
  answer = λ clean. together c.all_of.result _ _ _ (λ xs read fit. all_found_within day_sum_row DaySumFits day_sums_apart (sums_shown c.args.account) (rw (c.characters.ensures, c.as_slice.ensures.value, c.account_text-text.ensures) at read) fit) (c.all_of.ensures.answer clean) c.all_of.ensures.fit;
  stays = search rules;
  survives = search rules;
}
