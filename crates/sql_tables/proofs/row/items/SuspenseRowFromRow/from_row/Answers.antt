use Rattle.std.proofs.Common.{◌≡◌, ◌∷◌, [], ◌∙◌, length}
use Rattle.sql_statements.proofs.Columns.{row_is}
use Rattle.sql_tables.proofs.row.items.SuspenseRowFromRow.from_row.Goals as goal

pub returns : goal.returns
returns c =
    let width : length c.args.row.now ≡ 7 = cc in
    let file = c.in_ok-file.ensures in
    let item = c.in_ok-item.ensures in
    let why = c.in_ok-why.ensures in
    let code = c.in_ok-code.ensures in
    let trace = c.in_ok-trace.ensures in
    let cents = c.in_ok-cents.ensures in
    let day = c.in_ok-day.ensures in
    (row_is c.args.row.now 7 width ∙ (λ i. file.0 i ∷ item.0 i ∷ why.0 i ∷ code.0 i ∷ trace.0 i ∷ cents.0 i ∷ day.0 i ∷ []), (file.1, item.1, code.1, trace.1, cents.1, day.1))
