use Rattle.std.proofs.Common.{append_assoc}
use Rattle.http_answers.proofs.Texts.{day_body_text}
use Rattle.http_answers.proofs.operator.settings.put_day.Goals as goal

pub returns-clause-items : goal.returns-clause-items
returns-clause-items c = rw (
  day_body_text c.args.day,
  c.put-2.ensures.items,
  c.put_text.ensures.items,
  c.text.ensures,
  c.put.ensures.items,
) (simp append_assoc)
