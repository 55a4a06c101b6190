use Rattle.std.proofs.Common.{arith, ◌∙◌, ◌≡◌, length}
use Rattle.csv.specs.Records.{fields_of}
use Rattle.bank_days.proofs.TextRows.{one_field, has_field}
use Rattle.bank_days.proofs.row.day_of_row.Goals as goal

pub returns-in_err-get-clause-value : goal.returns-in_err-get-clause-value
returns-in_err-get-clause-value c =
    let one : length (fields_of c.args.row.now) ≡ 1 = omega arith in
    absurd (has_field (fields_of c.args.row.now) one c.in_err-get.ensures.value)

pub returns-clause-value : goal.returns-clause-value
returns-clause-value c =
    let one : length (fields_of c.args.row.now) ≡ 1 = omega arith in
    c.read.ensures.value ∙ one_field (fields_of c.args.row.now) c.in_ok-get.field-0.now one c.in_ok-get.ensures.value
