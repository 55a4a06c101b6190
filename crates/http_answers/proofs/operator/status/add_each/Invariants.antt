use Rattle.std.proofs.Common.{◌≡◌, ◌++◌, false, length, map}
use Rattle.serde_json.specs.View.{items_of}
use Rattle.serde_json.specs.Written.{items_text}
use Rattle.http_answers.specs.Status.{company_status_body}
use Rattle.http_answers.proofs.operator.status.add_each.Given as goal

abbrev pub invariant-loop-company : goal.invariant-loop-company
invariant-loop-company l =
    l.initial.text.items ++ items_text false (items_of (map company_status_body l.initial.left)) ≡ l.text.items ++ items_text l.later (items_of (map company_status_body l.left))

abbrev pub decreases-loop-company : goal.decreases-loop-company
decreases-loop-company l = length l.left
