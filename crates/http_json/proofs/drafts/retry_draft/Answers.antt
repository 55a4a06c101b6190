use Rattle.std.proofs.Common.{arith, refl, rules}
use Rattle.http_json.specs.View.{view}
use Rattle.desk_rules.specs.declared.refusals.refusal.Field.TheVariants as field
use Rattle.http_json.specs.Drafts.{HasText, retry_texts}
use Rattle.http_json.proofs.drafts.retry_draft.Goals as goal

pub returns-in_err-of-clause-memory : goal.returns-in_err-of-clause-memory
returns-in_err-of-clause-memory c =
    let known : HasText retry_texts (view c.args.value.now) = (1, field.Of, omega arith, refl, c.in_err-of.ensures.memory) in
    search rules

pub returns-in_err-day-clause-memory : goal.returns-in_err-day-clause-memory
returns-in_err-day-clause-memory c =
    let known : HasText retry_texts (view c.args.value.now) = (2, field.Day, omega arith, refl, c.in_err-day.ensures.memory) in
    search rules

pub returns-in_err-authorized-clause-memory : goal.returns-in_err-authorized-clause-memory
returns-in_err-authorized-clause-memory c =
    let known : HasText retry_texts (view c.args.value.now) = (3, field.Authorized, omega arith, refl, c.in_err-authorized.ensures.memory) in
    search rules
