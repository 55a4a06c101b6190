use Rattle.std.proofs.Common.{◌≡◌, ◌∷◌, [], ◌∙◌, length}
use Rattle.sql_statements.proofs.Columns.{row_is}
use Rattle.sql_tables.proofs.row.registry.CompanyFromRow.from_row.Goals as goal

pub returns : goal.returns
returns c =
    let width : length c.args.row.now ≡ 6 = cc in
    let id = c.in_ok-id.ensures in
    let name = c.in_ok-name.ensures in
    let digest = c.in_ok-digest.ensures in
    let entry = c.in_ok-entry.ensures in
    let credit = c.in_ok-credit.ensures in
    let debit = c.in_ok-debit.ensures in
    (row_is c.args.row.now 6 width ∙ (λ i. id.0 i ∷ name.0 i ∷ digest.0 i ∷ entry.0 i ∷ credit.0 i ∷ debit.0 i ∷ []), (id.1, name.1, digest.1, entry.1, credit.1, debit.1))
