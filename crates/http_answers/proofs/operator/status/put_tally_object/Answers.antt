use Rattle.std.proofs.Common.{append_assoc}
use Rattle.http_answers.proofs.Texts.{tally_text}
use Rattle.http_answers.proofs.operator.status.put_tally_object.Goals as goal

pub returns-clause-items : goal.returns-clause-items
returns-clause-items c = rw (
  tally_text c.args.tally.now,
  c.put-2.ensures.items,
  c.put_number.ensures.items,
  c.put_decimal.ensures.items,
  c.put.ensures.items,
) (simp append_assoc)
