use Rattle.std.proofs.Common.{◌≡◌, ◌++◌, false, length, map}
use Rattle.serde_json.specs.View.{items_of}
use Rattle.serde_json.specs.Written.{items_text}
use Rattle.http_answers.proofs.list.add_rows.Given as goal

abbrev pub invariant-loop-row : goal.invariant-loop-row
invariant-loop-row g l =
    l.initial.text.items ++ items_text false (items_of (map g.R.Row.body l.initial.left)) ≡ l.text.items ++ items_text l.later (items_of (map g.R.Row.body l.left))

abbrev pub decreases-loop-row : goal.decreases-loop-row
decreases-loop-row g l = length l.left
