use Rattle.std.proofs.Common.{◌≡◌, ◌<◌, ◌+◌, ◌-◌, ℕ, suc, length, drop, ◌++◌, arith, sym, ◌∙◌}
use Rattle.std.proofs.lemmas.List.{length-set}
use Rattle.ach_fields.specs.Digits.{digits}
use Rattle.ach_fields.proofs.Digits.{digit_before}
use Rattle.ach_fields.proofs.number.put_digits.Goals as goal

pub loop-at-preserved : goal.loop-at-preserved
loop-at-preserved c =
    let at = c.loop-at.at in
    let lt : at - 1 < length c.loop-at.field = omega arith in
    let next : suc (at - 1) ≡ at = omega arith in
    let here : at - 1 + 1 ≡ at = omega arith in
    record {
      written = digit_before (at - 1) c.loop-at.rest c.loop-at.field lt
          ∙ (λ i. digits (next i) c.loop-at.rest ++ drop (here i) c.loop-at.field) ∙ c.loop-at.invariant.written;
      within = omega (arith, length-set {A = ℕ});
    }

pub returns : goal.returns
unfolding digits
returns c =
    let none : c.loop-at.at ≡ 0 = omega arith in
    sym (λ i. digits (none i) c.loop-at.rest ++ drop (none i) c.loop-at.field) ∙ c.loop-at.invariant.written
