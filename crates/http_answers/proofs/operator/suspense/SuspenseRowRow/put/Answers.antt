use Rattle.std.proofs.Common.{append_assoc}
use Rattle.http_answers.proofs.Texts.{suspense_row_text}
use Rattle.http_answers.proofs.operator.suspense.SuspenseRowRow.put.Goals as goal

pub returns : goal.returns
returns c = rw (
  suspense_row_text c.args.self.now,
  c.put-2.ensures.items,
  c.put_text-5.ensures.items,
  c.as_bytes.ensures.value,
  c.reason_text.ensures.text,
  c.put_text-4.ensures.items,
  c.put_number-2.ensures.items,
  c.put_text-3.ensures.items,
  c.put_text-2.ensures.items,
  c.text.ensures,
  c.put_text.ensures.items,
  c.put_number.ensures.items,
  c.get.ensures.value,
  c.put.ensures.items,
) (simp append_assoc)
