-- The definitions that an answer unfolds to compute answers to literal messages.
use Rattle.std.specs.Prelude.{⊤}
use Rattle.ach_fields.specs.Digits.{number, digits}
use Rattle.ach_fields.specs.Trace.{trace_text}
use Rattle.bank_days.specs.OnLiterals.{bank_days_on_literals}
use Rattle.desk_plan.specs.Modifiers.{modifiers}

unfoldable pub desk_on_literals : ⊤
unfolding bank_days_on_literals number digits trace_text modifiers
desk_on_literals = tt
