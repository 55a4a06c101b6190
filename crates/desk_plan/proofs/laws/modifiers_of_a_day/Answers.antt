use Rattle.desk_plan.proofs.Modifiers.{some_modifier, modifiers_apart, modifier_character}
use Rattle.desk_plan.proofs.laws.modifiers_of_a_day.Goals as goal

pub returns : goal.returns
returns c = record { some = some_modifier; apart = modifiers_apart; character = modifier_character }
