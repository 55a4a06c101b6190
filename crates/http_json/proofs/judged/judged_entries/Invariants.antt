use Rattle.std.proofs.Common.{◌≡◌, ◌++◌, drop}
use Rattle.http_json.specs.View.{items_view}
use Rattle.http_json.specs.Drafts.{entry_drafts_of}
use Rattle.http_json.specs.Judged.{judged_entries}
use Rattle.http_json.proofs.judged.judged_entries.Given as goal

abbrev pub invariant-loop-value : goal.invariant-loop-value
invariant-loop-value l =
    judged_entries (entry_drafts_of (items_view l.values)) ≡ l.drafts.items ++ judged_entries (entry_drafts_of (items_view (drop l.value-index l.values)))
