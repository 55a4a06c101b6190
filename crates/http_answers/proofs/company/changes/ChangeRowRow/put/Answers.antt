use Rattle.std.proofs.Common.{append_assoc}
use Rattle.http_answers.proofs.Texts.{change_text}
use Rattle.http_answers.proofs.company.changes.ChangeRowRow.put.Goals as goal

pub returns : goal.returns
returns c = rw (
  change_text c.args.self.now,
  c.put-2.ensures.items,
  c.put_text-4.ensures.items,
  c.put_text-3.ensures.items,
  c.bytes.ensures.value,
  c.put_number.ensures.items,
  c.put_text-2.ensures.items,
  c.text.ensures,
  c.put_text.ensures.items,
  c.put.ensures.items,
) (simp append_assoc)
