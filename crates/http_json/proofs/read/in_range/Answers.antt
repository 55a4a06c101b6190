use Rattle.std.proofs.Common.{◌∙◌, ap, sym, Bool, cond, Some, None}
use Rattle.json.specs.Value.{value_view}
use Rattle.http_json.specs.View.{data_of}
use Rattle.http_json.proofs.Parsed.{read_data}
use Rattle.http_json.proofs.read.in_range.Goals as goal

pub returns-then-each : goal.returns-then-each
returns-then-each c =
    let j = value_view c.args.value in
    sym (read_data j ∙ ap (λ (b : Bool). cond b (Some (data_of j)) None) (sym c.requires ∙ c.if-each.true))

pub returns : goal.returns
returns c =
    let j = value_view c.args.value in
    sym (read_data j ∙ ap (λ (b : Bool). cond b (Some (data_of j)) None) (sym c.requires ∙ c.if-each.false))
