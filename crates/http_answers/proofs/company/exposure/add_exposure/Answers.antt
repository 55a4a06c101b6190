use Rattle.std.proofs.Common.{append_assoc}
use Rattle.http_answers.proofs.Texts.{exposure_text}
use Rattle.http_answers.proofs.company.exposure.add_exposure.Goals as goal

pub returns : goal.returns
returns c = rw (
  exposure_text c.args.exposure.now,
  c.put-2.ensures.items,
  c.put_number-3.ensures.items,
  c.put_number-2.ensures.items,
  c.put_decimal-2.ensures.items,
  c.put_text.ensures.items,
  c.text.ensures,
  c.put_number.ensures.items,
  c.put_decimal.ensures.items,
  c.put.ensures.items,
  c.in_ok-reserve.ensures.items,
) (simp append_assoc)
