use Rattle.std.proofs.Common.{length, get_or, refl, arith}
use Rattle.ach_fields.specs.Digits.{number}
use Rattle.ach_fields.proofs.Digits.{number_more, digit_at, bound_more}
use Rattle.ach_fields.proofs.number.number.Goals as goal

pub loop-digit-init : goal.loop-digit-init
unfolding number
loop-digit-init c = record { value = refl; bound = omega arith }

pub overflow_mul-number : goal.overflow_mul-number
overflow_mul-number c =
    let d = digit_at c.args.digits.now c.loop-digit.digit-index c.requires.digits c.loop-digit-test.true in
    let b = bound_more c.loop-digit.number (get_or c.args.digits.now c.loop-digit.digit-index 0) c.loop-digit.digit-index (length c.args.digits.now) c.loop-digit.invariant.bound d.0 d.1 c.loop-digit-test.true c.requires.short in
    omega (arith, b.1)

pub overflow_add-number : goal.overflow_add-number
overflow_add-number c =
    let d = digit_at c.args.digits.now c.loop-digit.digit-index c.requires.digits c.loop-digit-test.true in
    let b = bound_more c.loop-digit.number (get_or c.args.digits.now c.loop-digit.digit-index 0) c.loop-digit.digit-index (length c.args.digits.now) c.loop-digit.invariant.bound d.0 d.1 c.loop-digit-test.true c.requires.short in
    omega (arith, b.1)

pub loop-digit-preserved : goal.loop-digit-preserved
loop-digit-preserved c =
    let d = digit_at c.args.digits.now c.loop-digit.digit-index c.requires.digits c.loop-digit-test.true in
    let b = bound_more c.loop-digit.number (get_or c.args.digits.now c.loop-digit.digit-index 0) c.loop-digit.digit-index (length c.args.digits.now) c.loop-digit.invariant.bound d.0 d.1 c.loop-digit-test.true c.requires.short in
    let v = c.loop-digit.invariant.value in
    let m = number_more c.args.digits.now c.loop-digit.digit-index c.loop-digit-test.true in
    record { value = cc; bound = rw c.from.ensures b.0 }
