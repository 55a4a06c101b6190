use Rattle.std.proofs.Common.{append_assoc}
use Rattle.http_answers.proofs.Texts.{risk_text}
use Rattle.http_answers.proofs.operator.companies.CompanyRiskRow.put.Goals as goal

pub returns : goal.returns
returns c = rw (
  risk_text c.args.self.now,
  c.put-2.ensures.items,
  c.put_rates.ensures.items,
  c.put_text-2.ensures.items,
  c.bytes-2.ensures.value,
  c.put_text.ensures.items,
  c.bytes.ensures.value,
  c.put_number-3.ensures.items,
  c.put_number-2.ensures.items,
  c.put_decimal-2.ensures.items,
  c.put_number.ensures.items,
  c.put_decimal.ensures.items,
  c.put.ensures.items,
) (simp append_assoc)
