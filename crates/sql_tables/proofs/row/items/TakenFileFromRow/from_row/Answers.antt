use Rattle.std.proofs.Common.{◌≡◌, ◌∷◌, [], ◌∙◌, length}
use Rattle.sql_statements.proofs.Columns.{row_is}
use Rattle.sql_tables.proofs.row.items.TakenFileFromRow.from_row.Goals as goal

pub returns : goal.returns
returns c =
    let width : length c.args.row.now ≡ 7 = cc in
    let key = c.in_ok-key.ensures in
    let digest = c.in_ok-digest.ensures in
    let day = c.in_ok-day.ensures in
    let returns = c.in_ok-returns.ensures in
    let changes = c.in_ok-changes.ensures in
    let late = c.in_ok-late.ensures in
    let suspense = c.in_ok-suspense.ensures in
    (row_is c.args.row.now 7 width ∙ (λ i. key.0 i ∷ digest.0 i ∷ day.0 i ∷ returns.0 i ∷ changes.0 i ∷ late.0 i ∷ suspense.0 i ∷ []), (key.1, digest.1, day.1))
