use Rattle.std.proofs.Common.{append_assoc}
use Rattle.http_answers.proofs.Texts.{risk_rates_text}
use Rattle.http_answers.proofs.operator.companies.put_rates_object.Goals as goal

pub returns-clause-items : goal.returns-clause-items
returns-clause-items c = rw (
  risk_rates_text c.args.rates.now,
  c.put-2.ensures.items,
  c.put_rate-3.ensures.items,
  c.put_rate-2.ensures.items,
  c.put_rate.ensures.items,
  c.put.ensures.items,
) (simp append_assoc)
