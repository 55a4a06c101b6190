use Rattle.std.proofs.Common.{append_assoc}
use Rattle.http_answers.proofs.Texts.{cut_text}
use Rattle.http_answers.proofs.operator.cut.put_cut.Goals as goal

pub returns-clause-items : goal.returns-clause-items
returns-clause-items c few = rw (
  cut_text c.args.cut.now,
  c.put-2.ensures.items,
  c.put_number-2.ensures.items,
  c.put_files.ensures.items,
  c.first_files.ensures.same (rw c.as_slice.ensures few),
  c.as_slice.ensures,
  c.put_number.ensures.items,
  c.put_text.ensures.items,
  c.text.ensures,
  c.put.ensures.items,
) (simp append_assoc)
