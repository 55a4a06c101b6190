use Rattle.std.proofs.Common.{arith, refl, rules}
use Rattle.http_json.specs.View.{view}
use Rattle.desk_rules.specs.declared.refusals.refusal.Field.TheVariants as field
use Rattle.http_json.specs.Drafts.{HasText, submission_texts}
use Rattle.http_json.proofs.drafts.draft_with.Goals as goal

pub returns-in_err-direction-clause-memory : goal.returns-in_err-direction-clause-memory
returns-in_err-direction-clause-memory c =
    let known : HasText submission_texts (view c.args.value.now) = (2, field.Direction, omega arith, refl, c.in_err-direction.ensures.memory) in
    search rules

pub returns-in_err-description-clause-memory : goal.returns-in_err-description-clause-memory
returns-in_err-description-clause-memory c =
    let known : HasText submission_texts (view c.args.value.now) = (3, field.Description, omega arith, refl, c.in_err-description.ensures.memory) in
    search rules

pub returns-in_err-sec-clause-memory : goal.returns-in_err-sec-clause-memory
returns-in_err-sec-clause-memory c =
    let known : HasText submission_texts (view c.args.value.now) = (1, field.Sec, omega arith, refl, c.in_err-sec.ensures.memory) in
    search rules

pub returns-in_err-day-clause-memory : goal.returns-in_err-day-clause-memory
returns-in_err-day-clause-memory c =
    let known : HasText submission_texts (view c.args.value.now) = (4, field.Day, omega arith, refl, c.in_err-day.ensures.memory) in
    search rules
