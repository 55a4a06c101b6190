use Rattle.std.proofs.Common.{◌≡◌, ◌∷◌, [], ◌∙◌, length}
use Rattle.sql_statements.proofs.Columns.{row_is}
use Rattle.sql_tables.proofs.row.registry.KeyedIdentityFromRow.from_row.Goals as goal

pub returns : goal.returns
returns c =
    let width : length c.args.row.now ≡ 5 = cc in
    let odfi = c.in_ok-odfi.ensures in
    let odfi_name = c.in_ok-odfi_name.ensures in
    let destination = c.in_ok-destination.ensures in
    let destination_name = c.in_ok-destination_name.ensures in
    let key = c.in_ok-operator_key.ensures in
    (row_is c.args.row.now 5 width ∙ (λ i. odfi.0 i ∷ odfi_name.0 i ∷ destination.0 i ∷ destination_name.0 i ∷ key.0 i ∷ []), ((odfi.1, odfi_name.1, destination.1, destination_name.1), key.1))
