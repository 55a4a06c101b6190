use Rattle.std.proofs.Common.{append_assoc, arith}
use Rattle.std.proofs.lemmas.Int.{to_z-of_z}
use Rattle.http_answers.proofs.Texts.{line_text}
use Rattle.http_answers.proofs.company.statement.StatementLineRow.put.Goals as goal

pub returns : goal.returns
returns c = rw (
  line_text c.args.self.now,
  c.put-2.ensures.items,
  c.put_text-3.ensures.items,
  c.bytes.ensures.value,
  c.put_number.ensures.items,
  c.put_text-2.ensures.items,
  c.text.ensures,
  c.put_signed.ensures.items,
  c.put_text.ensures.items,
  c.as_bytes.ensures.value,
  c.cause_text.ensures.text,
  c.put.ensures.items,
) (simp append_assoc (grind (arith, to_z-of_z)))
