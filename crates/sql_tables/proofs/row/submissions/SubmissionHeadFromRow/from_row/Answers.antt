use Rattle.std.proofs.Common.{◌≡◌, ◌∷◌, [], ◌++◌, ◌∙◌, length}
use Rattle.sql_statements.proofs.Columns.{row_is}
use Rattle.sql_tables.proofs.row.submissions.SubmissionHeadFromRow.from_row.Goals as goal

pub returns : goal.returns
returns c =
    let width : length c.args.row.now ≡ 11 = cc in
    let company = c.in_ok-company.ensures in
    let order = c.in_ok-order.ensures in
    let reference = c.in_ok-reference.ensures in
    let sec = c.in_ok-sec.ensures in
    let direction = c.in_ok-direction.ensures in
    let description = c.in_ok-description.ensures in
    let asked = c.in_ok-asked.ensures in
    let retried = c.in_ok-retried.ensures in
    let lapsed = c.in_ok-lapsed.ensures in
    let settled = c.in_ok-settled.ensures in (
      row_is c.args.row.now 11 width ∙ (λ i. company.0 i ∷ order.0 i ∷ reference.0 i ∷ sec.0 i ∷ direction.0 i ∷ description.0 i ∷ asked.0 i ∷ retried.0 i ++ lapsed.0 i ∷ settled.0 i ∷ []),
      (company.1, order.1, reference.1, description.1, asked.1, retried.1, settled.1),
    )
