use Rattle.std.proofs.Common.{◌≡◌, ◌∷◌, ◌∙◌, length}
use Rattle.sql_statements.proofs.Columns.{row_is}
use Rattle.sql_tables.proofs.row.entries.NumberedEntryFromRow.from_row.Goals as goal

pub returns : goal.returns
returns c =
    let width : length c.args.row.now ≡ 9 = cc in
    let index = c.in_ok-index.ensures in
    let entry = c.in_ok-entry.ensures in
    (row_is c.args.row.now 9 width ∙ (λ i. index.0 i ∷ entry.0 i), (index.1, entry.1))
