use Rattle.std.proofs.Common.{◌≡◌, ◌≤◌, ◌+◌, ◌*◌, ◌++◌, false, drop, map, vec_len, vec_capacity}
use Rattle.serde_json.specs.View.{items_of}
use Rattle.serde_json.specs.Written.{items_text}
use Rattle.http_answers.specs.Operator.{modifier_body}
use Rattle.http_answers.proofs.operator.cut.put_modifiers.Given as goal

abbrev pub invariant-loop-modifier : goal.invariant-loop-modifier
invariant-loop-modifier l = record {
  items : l.initial.text.items ++ items_text false (items_of (map modifier_body l.files)) ≡ l.text.items ++ items_text l.later (items_of (map modifier_body (drop l.modifier-index l.files)));
  len : vec_len l.text ≤ vec_len l.initial.text + 9 * l.modifier-index;
  capacity : vec_capacity l.initial.text ≤ vec_capacity l.text;
}
