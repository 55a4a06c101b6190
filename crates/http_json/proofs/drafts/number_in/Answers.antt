use Rattle.std.proofs.Common.{◌∙◌, ap, sym, option_and_then}
use Rattle.json.specs.Value.{value_view}
use Rattle.serde_json.specs.Find.{as_u64}
use Rattle.serde_json.specs.Read.{number_of}
use Rattle.http_json.proofs.Parsed.{number_data}
use Rattle.http_json.proofs.drafts.number_in.Goals as goal

pub returns-in-Some : goal.returns-in-Some
returns-in-Some c =
    c.unsigned.ensures ∙ sym (ap (option_and_then as_u64) (number_data (value_view c.args.value.now) ∙ ap (option_and_then number_of) (sym c.in-Some.ensures)))

pub returns-in-None : goal.returns-in-None
returns-in-None c = sym (ap (option_and_then as_u64) (number_data (value_view c.args.value.now) ∙ ap (option_and_then number_of) (sym c.in-None.ensures)))
