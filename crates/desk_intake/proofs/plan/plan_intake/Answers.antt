use Rattle.std.proofs.Common.{◌∙◌, List, ap}
use Rattle.desk_intake.specs.declared.judged_item.JudgedItem.{JudgedItem}
use Rattle.desk_intake.specs.Plans.{write_of_items}
use Rattle.desk_intake.proofs.Plans.{judged_whole}
use Rattle.desk_intake.proofs.plan.plan_intake.Goals as goal

pub returns : goal.returns
returns c =
    c.in_ok-plan.ensures
    ∙ ap (λ (js : List JudgedItem). write_of_items c.args.key c.args.digest js c.args.day c.args.holidays.now) c.deref.ensures.value
    ∙ judged_whole c.args.key c.args.digest c.in_ok-judged.judged.items c.args.found.now c.args.day c.args.holidays.now c.in_ok-judged.ensures
