use Rattle.std.proofs.Common.{◌≡◌, ◌∷◌, [], ◌∙◌, length}
use Rattle.sql_statements.proofs.Columns.{row_is}
use Rattle.sql_tables.proofs.row.items.ReturnLineFromRow.from_row.Goals as goal

pub returns : goal.returns
returns c =
    let width : length c.args.row.now ≡ 7 = cc in
    let number = c.in_ok-number.ensures in
    let order = c.in_ok-order.ensures in
    let index = c.in_ok-index.ensures in
    let code = c.in_ok-code.ensures in
    let day = c.in_ok-day.ensures in
    let late = c.in_ok-late.ensures in
    let info = c.in_ok-info.ensures in
    (row_is c.args.row.now 7 width ∙ (λ i. number.0 i ∷ order.0 i ∷ index.0 i ∷ code.0 i ∷ day.0 i ∷ late.0 i ∷ info.0 i ∷ []), (order.1, (index.1, code.1, day.1), info.1))
