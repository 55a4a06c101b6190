use Rattle.std.proofs.Common.{◌≡◌, ◌∷◌, [], ◌∙◌, length}
use Rattle.sql_statements.proofs.Columns.{row_is}
use Rattle.sql_tables.proofs.row.entries.EntryAmountFromRow.from_row.Goals as goal

pub returns : goal.returns
returns c =
    let width : length c.args.row.now ≡ 3 = cc in
    let index = c.in_ok-index.ensures in
    let prenote = c.in_ok-prenote.ensures in
    let cents = c.in_ok-cents.ensures in
    (row_is c.args.row.now 3 width ∙ (λ i. index.0 i ∷ prenote.0 i ∷ cents.0 i ∷ []), (index.1, cents.1))
