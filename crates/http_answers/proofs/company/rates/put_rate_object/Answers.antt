use Rattle.std.proofs.Common.{append_assoc}
use Rattle.json.specs.Print.{escape_byte}
use Rattle.http_json.specs.Members.{member_text}
use Rattle.http_answers.proofs.Texts.{rate_text}
use Rattle.http_answers.proofs.company.rates.put_rate_object.Goals as goal

pub returns-then-rate-clause-items : goal.returns-then-rate-clause-items
unfolding member_text escape_byte
returns-then-rate-clause-items c = rw (
  rate_text c.args.rate.now,
  c.if-rate.true,
  c.put-then-rate.ensures.items,
  c.put_whole-2.ensures.items,
  c.put-2.ensures.items,
  c.put_whole.ensures.items,
  c.put.ensures.items,
) (simp append_assoc)

pub returns-else-rate-clause-items : goal.returns-else-rate-clause-items
unfolding member_text escape_byte
returns-else-rate-clause-items c = rw (
  rate_text c.args.rate.now,
  c.if-rate.false,
  c.put-else-rate.ensures.items,
  c.put_whole-2.ensures.items,
  c.put-2.ensures.items,
  c.put_whole.ensures.items,
  c.put.ensures.items,
) (simp append_assoc)
