use Rattle.std.proofs.Common.{◌≡◌, ◌∙◌, ap, sym, Some, None, option_map, option_and_then}
use Rattle.json.specs.Find as parsed
use Rattle.json.specs.Value.{value_view}
use Rattle.serde_json.specs.Find.{as_array}
use Rattle.desk_rules.specs.declared.refusals.refusal.Field.TheVariants as field
use Rattle.http_json.specs.FieldKeys.{key_of}
use Rattle.http_json.specs.View.{data_of}
use Rattle.http_json.proofs.Parsed.{value_found}
use Rattle.http_json.proofs.drafts.entry_values.Goals as goal

pub returns-in-Some : goal.returns-in-Some
returns-in-Some c =
    let j = value_view c.args.value.now in
    let x = value_view c.in-Some.found.now in
    let found : parsed.get (key_of field.Entries) j ≡ Some x = ap (λ n. parsed.get n j) (sym c.key_of.ensures) ∙ sym c.in-Some.ensures in
    let at = value_found (key_of field.Entries) j ∙ ap (option_map data_of) found in
    c.items_in.ensures ∙ sym (ap (option_and_then as_array) at)

pub returns-in-None : goal.returns-in-None
returns-in-None c =
    let j = value_view c.args.value.now in
    let none : parsed.get (key_of field.Entries) j ≡ None = ap (λ n. parsed.get n j) (sym c.key_of.ensures) ∙ sym c.in-None.ensures in
    let at = value_found (key_of field.Entries) j ∙ ap (option_map data_of) none in
    sym (ap (option_and_then as_array) at)
