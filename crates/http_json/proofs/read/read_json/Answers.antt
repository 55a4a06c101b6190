use Rattle.std.proofs.Common.{◌≡◌, ◌∙◌, ap, sym, Some}
use Rattle.json.specs.Value.{value_view}
use Rattle.http_json.specs.Read.{parsed}
use Rattle.http_json.proofs.Json.{json_of-none, json_of-parsed}
use Rattle.http_json.proofs.read.read_json.Goals as goal

pub returns-in_default : goal.returns-in_default
returns-in_default c = sym (json_of-none c.args.body.now (λ utf8. absurd (c.in_default.ensures utf8)))

pub returns-in-Ok-parse : goal.returns-in-Ok-parse
returns-in-Ok-parse c =
    let j = value_view c.in-Ok-parse.value in
    let is : parsed c.args.body.now ≡ Some j = ap parsed (sym c.in-Ok.ensures.0) ∙ c.in-Ok-parse.ensures.ok in
    c.in_range.ensures ∙ sym (json_of-parsed c.args.body.now j c.in-Ok.ensures.1 is)
