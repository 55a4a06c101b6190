use Rattle.std.proofs.Common.{◌≡◌, ◌∙◌, ap, sym, Some, None, option_map, option_and_then}
use Rattle.json.specs.Find as parsed
use Rattle.json.specs.Value.{value_view}
use Rattle.serde_json.specs.Find.{as_str}
use Rattle.http_json.specs.Drafts.{given_or_wrong, optional_from}
use Rattle.http_json.specs.FieldKeys.{key_of}
use Rattle.http_json.specs.View.{data_of}
use Rattle.http_json.proofs.Parsed.{value_found}
use Rattle.http_json.proofs.drafts.optional_text_at.Goals as goal

pub returns-in_ok-text_at-in-Some-clause-text : goal.returns-in_ok-text_at-in-Some-clause-text
returns-in_ok-text_at-in-Some-clause-text c =
    let j = value_view c.args.value.now in
    let x = value_view c.in-Some.field-0.now in
    let found : parsed.get (key_of c.args.field) j ≡ Some x = ap (λ n. parsed.get n j) (sym c.key_of.ensures) ∙ sym c.in-Some.ensures in
    let at = value_found (key_of c.args.field) j ∙ ap (option_map data_of) found in
    c.given_or_wrong.ensures ∙ ap given_or_wrong c.in_ok-text_at-in-Some.ensures.text
    ∙ ap (λ o. given_or_wrong (option_and_then as_str o)) at ∙ sym (ap (optional_from as_str) at)

pub returns-in-None-clause-text : goal.returns-in-None-clause-text
returns-in-None-clause-text c =
    let j = value_view c.args.value.now in
    let none : parsed.get (key_of c.args.field) j ≡ None = ap (λ n. parsed.get n j) (sym c.key_of.ensures) ∙ sym c.in-None.ensures in
    let at = value_found (key_of c.args.field) j ∙ ap (option_map data_of) none in
    sym (ap (optional_from as_str) at)
