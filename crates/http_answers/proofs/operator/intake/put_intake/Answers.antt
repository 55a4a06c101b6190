use Rattle.std.proofs.Common.{append_assoc}
use Rattle.http_answers.proofs.Texts.{intake_text}
use Rattle.http_answers.proofs.operator.intake.put_intake.Goals as goal

pub returns-clause-items : goal.returns-clause-items
returns-clause-items c = rw (
  intake_text c.args.intake.now,
  c.put-2.ensures.items,
  c.put_number-4.ensures.items,
  c.put_number-3.ensures.items,
  c.put_number-2.ensures.items,
  c.put_text.ensures.items,
  c.text.ensures,
  c.put_number.ensures.items,
  c.put.ensures.items,
) (simp append_assoc)
