use Rattle.std.proofs.Common.{◌∷◌, [], map, append_assoc}
use Rattle.serde_json.specs.Data.{array}
use Rattle.serde_json.specs.View.{items_of}
use Rattle.http_json.proofs.Objects.{compact_text-object_of}
use Rattle.http_answers.proofs.list.add_list_alone.Goals as goal

pub returns : goal.returns
returns g c = rw (
  compact_text-object_of ((c.args.key.now, array (items_of (map g.R.Row.body c.args.rows))) ∷ []),
  c.in_ok-push-2.ensures.items,
  c.in_ok-add_list.ensures,
  c.in_ok-push.ensures.items,
) (simp append_assoc)
