use Rattle.std.proofs.Common.{◌≡◌, ◌++◌, drop}
use Rattle.http_json.specs.View.{items_view}
use Rattle.http_json.specs.Drafts.{entry_drafts_of}
use Rattle.http_json.proofs.drafts.entry_drafts.Given as goal

abbrev pub invariant-loop-value : goal.invariant-loop-value
invariant-loop-value l =
    entry_drafts_of (items_view l.values) ≡ l.drafts.items ++ entry_drafts_of (items_view (drop l.value-index l.values))
