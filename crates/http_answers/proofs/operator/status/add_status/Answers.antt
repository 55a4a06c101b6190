use Rattle.std.proofs.Common.{append_assoc}
use Rattle.http_answers.proofs.Texts.{status_text}
use Rattle.http_answers.proofs.operator.status.add_status.Goals as goal

pub returns : goal.returns
returns c = rw (
  status_text c.args.status,
  c.put.ensures.items,
  c.put_number-6.ensures.items,
  c.put_number-5.ensures.items,
  c.put_number-4.ensures.items,
  c.put_number-3.ensures.items,
  c.in_ok-reserve-2.ensures.items,
  c.in_ok-add_list.ensures,
  c.put_number-2.ensures.items,
  c.put_number.ensures.items,
  c.put_desk_day.ensures.items,
  c.in_ok-reserve.ensures.items,
  c.in_ok-add_companies.ensures,
  c.in_ok-push.ensures.items,
) (simp append_assoc)
