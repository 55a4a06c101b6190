use Rattle.std.proofs.Common.{arith, ◌≡◌, length}
use Rattle.csv.specs.Records.{fields_of}
use Rattle.cli_submit.specs.Rows.{columns_of}
use Rattle.cli_submit.proofs.RowTexts.{columns_are, none_missing}
use Rattle.cli_submit.proofs.row.columns_in.Goals as goal

pub returns-in_err-text_at : goal.returns-in_err-text_at
returns-in_err-text_at c =
    let eight : length (fields_of c.args.row.now) ≡ 8 = omega arith in
    none_missing (fields_of c.args.row.now) 0 c.from_residual.result c.from_residual.ensures eight (omega arith) c.in_err-text_at.ensures

pub returns-in_err-text_at-2 : goal.returns-in_err-text_at-2
returns-in_err-text_at-2 c =
    let eight : length (fields_of c.args.row.now) ≡ 8 = omega arith in
    none_missing (fields_of c.args.row.now) 1 c.from_residual-in_err-text_at-2.result c.from_residual-in_err-text_at-2.ensures eight (omega arith) c.in_err-text_at-2.ensures

pub returns-in_err-text_at-3 : goal.returns-in_err-text_at-3
returns-in_err-text_at-3 c =
    let eight : length (fields_of c.args.row.now) ≡ 8 = omega arith in
    none_missing (fields_of c.args.row.now) 2 c.from_residual-in_err-text_at-3.result c.from_residual-in_err-text_at-3.ensures eight (omega arith) c.in_err-text_at-3.ensures

pub returns-in_err-text_at-4 : goal.returns-in_err-text_at-4
returns-in_err-text_at-4 c =
    let eight : length (fields_of c.args.row.now) ≡ 8 = omega arith in
    none_missing (fields_of c.args.row.now) 3 c.from_residual-in_err-text_at-4.result c.from_residual-in_err-text_at-4.ensures eight (omega arith) c.in_err-text_at-4.ensures

pub returns-in_err-text_at-5 : goal.returns-in_err-text_at-5
returns-in_err-text_at-5 c =
    let eight : length (fields_of c.args.row.now) ≡ 8 = omega arith in
    none_missing (fields_of c.args.row.now) 4 c.from_residual-in_err-text_at-5.result c.from_residual-in_err-text_at-5.ensures eight (omega arith) c.in_err-text_at-5.ensures

pub returns-in_err-text_at-6 : goal.returns-in_err-text_at-6
returns-in_err-text_at-6 c =
    let eight : length (fields_of c.args.row.now) ≡ 8 = omega arith in
    none_missing (fields_of c.args.row.now) 5 c.from_residual-in_err-text_at-6.result c.from_residual-in_err-text_at-6.ensures eight (omega arith) c.in_err-text_at-6.ensures

pub returns-in_err-text_at-7 : goal.returns-in_err-text_at-7
returns-in_err-text_at-7 c =
    let eight : length (fields_of c.args.row.now) ≡ 8 = omega arith in
    none_missing (fields_of c.args.row.now) 6 c.from_residual-in_err-text_at-7.result c.from_residual-in_err-text_at-7.ensures eight (omega arith) c.in_err-text_at-7.ensures

pub returns-in_err-text_at-8 : goal.returns-in_err-text_at-8
returns-in_err-text_at-8 c =
    let eight : length (fields_of c.args.row.now) ≡ 8 = omega arith in
    none_missing (fields_of c.args.row.now) 7 c.from_residual-in_err-text_at-8.result c.from_residual-in_err-text_at-8.ensures eight (omega arith) c.in_err-text_at-8.ensures

pub returns : goal.returns
returns c =
    let eight : length (fields_of c.args.row.now) ≡ 8 = omega arith in
    columns_are (fields_of c.args.row.now) (columns_of (record {
      routing = c.in_ok-text_at.field-0;
      account = c.in_ok-text_at-2.field-0;
      kind = c.in_ok-text_at-3.field-0;
      prenote = c.in_ok-text_at-4.field-0;
      cents = c.in_ok-text_at-5.field-0;
      id = c.in_ok-text_at-6.field-0;
      name = c.in_ok-text_at-7.field-0;
      info = c.in_ok-text_at-8.field-0;
    })) eight c.in_ok-text_at.ensures c.in_ok-text_at-2.ensures c.in_ok-text_at-3.ensures c.in_ok-text_at-4.ensures
    c.in_ok-text_at-5.ensures c.in_ok-text_at-6.ensures c.in_ok-text_at-7.ensures c.in_ok-text_at-8.ensures
