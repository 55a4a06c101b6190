use Rattle.std.proofs.Common.{append_assoc}
use Rattle.http_answers.proofs.Texts.{return_text}
use Rattle.http_answers.proofs.company.returns.ReturnRowRow.put.Goals as goal

pub returns : goal.returns
returns c = rw (
  return_text c.args.self.now,
  c.put-2.ensures.items,
  c.put_text-4.ensures.items,
  c.bytes.ensures.value,
  c.put_flag.ensures.items,
  c.put_text-3.ensures.items,
  c.trimmed_info.ensures.text,
  c.put_number.ensures.items,
  c.put_text-2.ensures.items,
  c.text-2.ensures,
  c.put_text.ensures.items,
  c.text.ensures,
  c.put.ensures.items,
) (simp append_assoc)
