use Rattle.std.proofs.Common.{◌≡◌, ◌∙◌, ap, sym, Some}
use Rattle.json.specs.Json.{array}
use Rattle.json.specs.Value.{items_view, value_view}
use Rattle.json.proofs.Trees.{view-Array}
use Rattle.serde_json.specs.Find.{as_array}
use Rattle.http_json.specs.View.{data_of, items_data}
use Rattle.http_json.proofs.drafts.items_in.Goals as goal

pub returns-in-Array : goal.returns-in-Array
returns-in-Array c =
    let seen : value_view c.args.value.now ≡ array (items_view c.in-Array.items.items) = ap value_view c.in-Array.is ∙ view-Array c.in-Array.items in
    ap (λ vs. Some (items_data (items_view vs))) c.as_slice.ensures.value ∙ sym (ap (λ j. as_array (data_of j)) seen)
