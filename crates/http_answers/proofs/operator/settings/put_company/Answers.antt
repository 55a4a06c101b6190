use Rattle.std.proofs.Common.{append_assoc}
use Rattle.http_answers.proofs.Texts.{company_text}
use Rattle.http_answers.proofs.operator.settings.put_company.Goals as goal

pub returns-clause-items : goal.returns-clause-items
returns-clause-items c = rw (
  company_text c.args.id.now,
  c.put-2.ensures.items,
  c.put_text.ensures.items,
  c.bytes.ensures.value,
  c.put.ensures.items,
) (simp append_assoc)
