use Rattle.std.proofs.Common.{◌≡◌, ℕ, List, length, drop, ap, ◌∙◌, arith, length-drop}
use Rattle.std.proofs.lemmas.List.{take_all}
use Rattle.std.proofs.lemmas.Bool.{and_parts, eqb-true}
use borrow.Rule.Slice.PartMut.{mid_of}
use Rattle.ach_fields.specs.Digits.{number}
use Rattle.ach_fields.proofs.trace.Trace.sequence.Goals as goal

to_the_end : (s : List ℕ) → length s ≡ 15 → mid_of 8 7 s ≡ drop 8 s
to_the_end s long = take_all 7 (drop 8 s) (omega (arith, length-drop 8 s))

pub returns-clause-value : goal.returns-clause-value
returns-clause-value c =
    let digits = c.self.inside.digits in
    let long : length digits ≡ 15 = eqb-true _ _ ((and_parts _ _ c.self.invariant).0) in
    c.number.ensures.value ∙ ap number (to_the_end digits long) ∙ ap (λ s. number (drop 8 s)) c.self.view_is
