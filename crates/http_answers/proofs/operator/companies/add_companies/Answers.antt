use Rattle.std.proofs.Common.{append_assoc}
use Rattle.http_answers.proofs.Texts.{companies_text}
use Rattle.http_answers.proofs.operator.companies.add_companies.Goals as goal

pub returns : goal.returns
returns c = rw (
  companies_text c.args.all,
  c.put.ensures.items,
  c.put_text.ensures.items,
  c.text.ensures,
  c.in_ok-reserve.ensures.items,
  c.in_ok-add_list.ensures,
  c.in_ok-push.ensures.items,
) (simp append_assoc)
