use Rattle.std.proofs.Common.{◌≡◌, ◌∷◌, ◌∙◌, length}
use Rattle.sql_statements.proofs.Columns.{row_is}
use Rattle.sql_tables.proofs.row.entries.PlacedEntryFromRow.from_row.Goals as goal

pub returns : goal.returns
returns c =
    let width : length c.args.row.now ≡ 11 = cc in
    let company = c.in_ok-company.ensures in
    let order = c.in_ok-order.ensures in
    let index = c.in_ok-index.ensures in
    let entry = c.in_ok-entry.ensures in
    (row_is c.args.row.now 11 width ∙ (λ i. company.0 i ∷ order.0 i ∷ index.0 i ∷ entry.0 i), (company.1, order.1, index.1, entry.1))
