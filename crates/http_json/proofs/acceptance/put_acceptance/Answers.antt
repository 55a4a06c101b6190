use Rattle.std.proofs.Common.{append_assoc}
use Rattle.http_json.proofs.Acceptances.{acceptance_text}
use Rattle.http_json.proofs.acceptance.put_acceptance.Goals as goal

pub returns-clause-items : goal.returns-clause-items
returns-clause-items c = rw (
  acceptance_text c.args.reference.now c.args.cents c.args.entries c.args.order,
  c.put-2.ensures.items,
  c.put_text.ensures.items,
  c.bytes.ensures.value,
  c.put_number-3.ensures.items,
  c.put_number-2.ensures.items,
  c.put_number.ensures.items,
  c.put.ensures.items,
) (simp append_assoc)
