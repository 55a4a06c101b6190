use Rattle.std.proofs.Common.{append_assoc, arith}
use Rattle.std.proofs.lemmas.Int.{to_z-of_z}
use Rattle.http_answers.proofs.Texts.{day_sum_text}
use Rattle.http_answers.proofs.operator.settlement.DaySumRow.put.Goals as goal

pub returns : goal.returns
returns c = rw (
  day_sum_text c.args.self.now,
  c.put-2.ensures.items,
  c.put_text.ensures.items,
  c.text.ensures,
  c.put_decimal.ensures.items,
  c.put.ensures.items,
) (simp append_assoc (grind (arith, to_z-of_z)))
