use Rattle.std.proofs.Common.{◌≡◌, ◌∙◌, ◌++◌, ℕ, List, [], ◌∷◌, Some, ap, sym, take}
use Rattle.std.specs.Prelude.{slice_get}
use Rattle.std.proofs.lemmas.List.{take_more}
use Rattle.std.proofs.lemmas.Option.{get_or_from_slice_get, slice_get_within}
use Rattle.desk_plan.specs.Modifiers.{modifiers}
use Rattle.desk_calls.proofs.operator.status.first_modifiers.Goals as goal

pub loop-before-preserved : goal.loop-before-preserved
loop-before-preserved c =
    let n = c.loop-before.before in
    let modifier = c.in-Some.modifier in
    let is : slice_get modifiers n ≡ Some modifier = sym c.modifier.ensures ∙ c.in-Some.is in
    c.in_ok-push.ensures.items
    ∙ ap (λ (xs : List ℕ). xs ++ modifier ∷ []) c.loop-before.invariant
    ∙ sym (take_more modifiers n modifier (slice_get_within modifiers n modifier is) ∙ ap (λ (x : ℕ). take n modifiers ++ x ∷ []) (get_or_from_slice_get modifiers n modifier modifier is))
