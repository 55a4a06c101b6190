use Rattle.std.proofs.Common.{arith, refl, rules}
use Rattle.http_json.specs.View.{view}
use Rattle.desk_rules.specs.declared.refusals.refusal.Field.TheVariants as field
use Rattle.http_json.specs.Drafts.{HasText, company_texts}
use Rattle.http_json.proofs.drafts.company_draft.Goals as goal

pub returns-in_err-name-clause-memory : goal.returns-in_err-name-clause-memory
returns-in_err-name-clause-memory c =
    let known : HasText company_texts (view c.args.value.now) = (1, field.Name, omega arith, refl, c.in_err-name.ensures.memory) in
    search rules

pub returns-in_err-key-clause-memory : goal.returns-in_err-key-clause-memory
returns-in_err-key-clause-memory c =
    let known : HasText company_texts (view c.args.value.now) = (2, field.Key, omega arith, refl, c.in_err-key.ensures.memory) in
    search rules
