use Rattle.std.proofs.Common.{◌≡◌, ◌≤◌, ◌∙◌, sym, false, arith}
use Rattle.std.proofs.lemmas.Bool.{ltb-false}
use Rattle.ach_fields.specs.Cents.{most_cents}
use Rattle.ach_files.specs.Outgoing.{is_large}
use Rattle.ach_files.proofs.Fits.{either, file_row_fits}
use Rattle.ach_files.proofs.Printing.{control_is, totals_large, totals_long, totals_few, totals_counted, totals_blocked, totals_none}
use Rattle.ach_files.proofs.print.control.control_of.Goals as goal

pub returns-then-is_large-clause-err : goal.returns-then-is_large-clause-err
returns-then-is_large-clause-err c = λ o few long is. totals_large o c.args.sums.now is (sym c.is_large.ensures ∙ c.if-is_large.true)

pub returns-then-is_any_long-clause-err : goal.returns-then-is_any_long-clause-err
returns-then-is_any_long-clause-err c = λ o few long is.
    totals_long o c.args.sums.now is (sym c.is_large.ensures ∙ c.if-is_large.false) (sym long ∙ c.if-is_any_long.true)

pub returns-then-batches-gt-SIX_DIGITS-clause-err : goal.returns-then-batches-gt-SIX_DIGITS-clause-err
returns-then-batches-gt-SIX_DIGITS-clause-err c = λ o few long is.
    totals_few o c.args.sums.now c.args.batches few is (sym c.is_large.ensures ∙ c.if-is_large.false) c.if-batches-gt-SIX_DIGITS.true

pub returns-then-sums-gt-EIGHT_DIGITS-clause-err : goal.returns-then-sums-gt-EIGHT_DIGITS-clause-err
returns-then-sums-gt-EIGHT_DIGITS-clause-err c = λ o few long is.
    totals_counted o c.args.sums.now is (sym c.is_large.ensures ∙ c.if-is_large.false) c.if-sums-gt-EIGHT_DIGITS.true

pub returns-then-blocks-gt-SIX_DIGITS-clause-err : goal.returns-then-blocks-gt-SIX_DIGITS-clause-err
returns-then-blocks-gt-SIX_DIGITS-clause-err c = λ o few long is.
    totals_blocked o c.args.sums.now c.args.batches few is (sym c.is_large.ensures ∙ c.if-is_large.false) c.if-batches-gt-SIX_DIGITS.false c.if-blocks-gt-SIX_DIGITS.true

pub returns-clause-ok : goal.returns-clause-ok
returns-clause-ok c =
    let small : is_large c.args.sums.now ≡ false = sym c.is_large.ensures ∙ c.if-is_large.false in
    let totals = either _ _ small in
    λ o few long is. (
      totals_none o c.args.sums.now c.args.batches few is (sym long ∙ c.if-is_any_long.false) small c.if-batches-gt-SIX_DIGITS.false c.if-sums-gt-EIGHT_DIGITS.false c.if-blocks-gt-SIX_DIGITS.false,
      control_is o c.args.sums.now c.args.batches _ _ _ few is c.if-batches-gt-SIX_DIGITS.false c.if-sums-gt-EIGHT_DIGITS.false (ltb-false _ _ totals.0) (ltb-false _ _ totals.1) c.low_digits.ensures c.cents_of.ensures c.cents_of-2.ensures,
    )

pub returns-clause-fits : goal.returns-clause-fits
returns-clause-fits c =
    let small : is_large c.args.sums.now ≡ false = sym c.is_large.ensures ∙ c.if-is_large.false in
    let totals = either _ _ small in
    let debits : c.args.sums.now.debits ≤ most_cents = ltb-false _ _ totals.0 in
    let credits : c.args.sums.now.credits ≤ most_cents = ltb-false _ _ totals.1 in
    file_row_fits _ (omega arith) (omega arith) (omega arith) (omega arith) (omega arith) (omega arith)

pub cents_of-requires : goal.cents_of-requires
cents_of-requires c = ltb-false _ _ (either _ _ (sym c.is_large.ensures ∙ c.if-is_large.false)).0

pub cents_of-requires-2 : goal.cents_of-requires-2
cents_of-requires-2 c = ltb-false _ _ (either _ _ (sym c.is_large.ensures ∙ c.if-is_large.false)).1
