use Rattle.std.proofs.Common.{append_assoc}
use Rattle.http_answers.proofs.Texts.{holidays_text}
use Rattle.http_answers.proofs.operator.settings.put_holidays.Goals as goal

pub returns-clause-items : goal.returns-clause-items
returns-clause-items c = rw (
  holidays_text c.args.holidays,
  c.put-2.ensures.items,
  c.put_number.ensures.items,
  c.put.ensures.items,
) (simp append_assoc)
