use Rattle.std.proofs.Common.{append_assoc, arith}
use Rattle.std.proofs.lemmas.Int.{to_z-of_z}
use Rattle.http_answers.proofs.Texts.{settlement_text}
use Rattle.http_answers.proofs.operator.settlement.add_settlement.Goals as goal

pub returns : goal.returns
returns c = rw (
  settlement_text c.args.settlement,
  c.in_ok-push.ensures.items,
  c.in_ok-add_list.ensures,
  c.put_text.ensures.items,
  c.text.ensures,
  c.put_decimal.ensures.items,
  c.put.ensures.items,
  c.in_ok-reserve.ensures.items,
) (simp append_assoc (grind (arith, to_z-of_z)))
