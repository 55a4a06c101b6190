use Rattle.std.proofs.Common.{append_assoc}
use Rattle.http_answers.proofs.Texts.{due_text}
use Rattle.http_answers.proofs.operator.status.DueDayRow.put.Goals as goal

pub returns : goal.returns
returns c = rw (
  due_text c.args.self.now,
  c.put-2.ensures.items,
  c.put_tally-2.ensures.items,
  c.put_text.ensures.items,
  c.text.ensures,
  c.put_tally.ensures.items,
  c.put.ensures.items,
) (simp append_assoc)
