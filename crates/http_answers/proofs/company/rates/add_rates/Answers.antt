use Rattle.std.proofs.Common.{append_assoc}
use Rattle.http_answers.proofs.Texts.{rates_text}
use Rattle.http_answers.proofs.company.rates.add_rates.Goals as goal

pub returns : goal.returns
returns c = rw (
  rates_text c.args.rates.now,
  c.put-2.ensures.items,
  c.put_rate-3.ensures.items,
  c.put_rate-2.ensures.items,
  c.put_text.ensures.items,
  c.text.ensures,
  c.put_rate.ensures.items,
  c.put.ensures.items,
  c.in_ok-reserve.ensures.items,
) (simp append_assoc)
