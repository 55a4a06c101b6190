use Rattle.std.proofs.Common.{append_assoc, arith}
use Rattle.std.proofs.lemmas.Int.{to_z-of_z}
use Rattle.http_answers.proofs.Texts.{statement_text}
use Rattle.http_answers.proofs.company.statement.add_statement.Goals as goal

pub returns : goal.returns
returns c = rw (
  statement_text c.args.statement,
  c.in_ok-push.ensures.items,
  c.in_ok-add_list.ensures,
  c.put_text.ensures.items,
  c.text.ensures,
  c.put_decimal.ensures.items,
  c.put.ensures.items,
  c.in_ok-reserve.ensures.items,
) (simp append_assoc (grind (arith, to_z-of_z)))
