use Rattle.std.proofs.Common.{◌≡◌, ℕ, ◌+◌, ◌-◌, List, ◌++◌, map, length, take, None, ap, sym, ◌∙◌, refl, arith, rules}
use Rattle.std.proofs.lemmas.Result.{err_from_is_err_and}
use Rattle.std.proofs.lemmas.Slice.{take-put_mid}
use borrow.Rule.Slice.PartMut.{put_mid}
use Rattle.ach_records.specs.Row.{value_of}
use Rattle.ach_records.proofs.Rows.{text_on, fault_on, widths_step, put_long, text_done, fault_done, row_fits_if}
use Rattle.ach_records.proofs.row.print_fields.Goals as goal

pub returns-in_err-put : goal.returns-in_err-put
returns-in_err-put c =
    let p = err_from_is_err_and c.from_residual.result c.from_residual.ensures.1 in
    let e = fault_on c.args.fields.now c.loop-field.field-index c.field-item.result _ c.loop-field-test.true c.field-item.is c.in_err-put.ensures in
    rw (p.1, p.2) (sym c.loop-field.invariant.fault ∙ e, refl)

pub loop-field-preserved : goal.loop-field-preserved
loop-field-preserved c =
    let i = c.loop-field.field-index in
    let fields = c.args.fields.now in
    let e = c.in_ok-put.ensures in
    let long : length c.put.new.out ≡ c.width-width.result = search rules in
    let put = take-put_mid c.loop-field.at (c.loop-field.at + c.width-width.result - c.loop-field.at) c.loop-field.line c.put.new.out (c.loop-field.at + c.width-width.result) (omega (arith, long)) (search rules) in
    record {
      long = put_long c.loop-field.line c.put.new.out c.loop-field.at c.width-width.result _ fields i c.field-item.result c.loop-field-test.true c.field-item.is c.width-width.ensures c.loop-field.invariant.widths c.loop-field.invariant.long long (omega arith);
      text = text_on (take c.loop-field.at c.loop-field.line) (take (c.loop-field.at + c.width-width.result) (put_mid c.loop-field.at (c.loop-field.at + c.width-width.result - c.loop-field.at) c.loop-field.line c.put.new.out)) fields i c.field-item.result _ c.loop-field-test.true c.field-item.is (put ∙ ap (λ (l : List ℕ). take c.loop-field.at c.loop-field.line ++ l) e.1) c.loop-field.invariant.text;
      fault = sym (fault_on fields i c.field-item.result None c.loop-field-test.true c.field-item.is e.0) ∙ c.loop-field.invariant.fault;
      widths = widths_step c.loop-field.at c.width-width.result fields i c.field-item.result c.loop-field-test.true c.field-item.is c.width-width.ensures c.loop-field.invariant.widths;
    }

pub returns : goal.returns
returns c =
    let i = c.loop-field.field-index in
    let long = c.loop-field.invariant.long in (
      row_fits_if (map value_of c.args.fields.now) (fault_done c.args.fields.now i _ c.loop-field-test.false c.loop-field.invariant.fault),
      text_done c.loop-field.line c.args.fields.now i c.loop-field.at _ c.loop-field-test.false long c.loop-field.invariant.widths c.loop-field.invariant.text,
    )
