use Rattle.std.proofs.Common.{◌≡◌, ◌∙◌, ℕ, List, Option, Some, None, Bor, arith, slice_get, option_copied}
use Rattle.std.specs.Slice.{IsItemAt}
use Rattle.std.proofs.lemmas.Grind.{common_steps}
use Rattle.std.proofs.lemmas.Option.{gets}
use Rattle.desk_plan.specs.Modifiers.{modifiers}
use Rattle.desk_plan.proofs.day_modifiers.modifier.Goals as goal

copied_item : (xs : List ℕ) (i : ℕ) (r : Option (Bor ℕ)) → IsItemAt xs i r → option_copied r ≡ slice_get xs i
copied_item xs i None h = grind (arith, common_steps, gets)
copied_item xs i (Some x) h = grind (arith, common_steps, gets)

pub returns : goal.returns
unfolding modifiers
returns c = c.copied.ensures ∙ copied_item modifiers c.args.before c.get.result c.get.ensures.lookup
