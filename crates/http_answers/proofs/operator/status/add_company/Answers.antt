use Rattle.std.proofs.Common.{append_assoc}
use Rattle.http_answers.proofs.Texts.{company_status_text}
use Rattle.http_answers.proofs.operator.status.add_company.Goals as goal

pub returns : goal.returns
returns c = rw (
  company_status_text c.args.company,
  c.put.ensures.items,
  c.put_text-2.ensures.items,
  c.bytes-2.ensures.value,
  c.put_number.ensures.items,
  c.put_text.ensures.items,
  c.bytes.ensures.value,
  c.in_ok-reserve-2.ensures.items,
  c.put_held.ensures,
  c.in_ok-reserve.ensures.items,
  c.in_ok-add_list.ensures,
  c.in_ok-push.ensures.items,
) (simp append_assoc)
