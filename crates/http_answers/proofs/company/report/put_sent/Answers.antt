use Rattle.std.proofs.Common.{append_assoc}
use Rattle.http_json.proofs.Objects.{compact_text-object_of}
use Rattle.http_answers.specs.Company.{sent_members}
use Rattle.http_answers.proofs.company.report.put_sent.Goals as goal

pub returns : goal.returns
returns c = rw (
  compact_text-object_of (sent_members c.args.entry.now.cents c.args.entry.now.index c.args.settled),
  c.put-2.ensures.items,
  c.put_text-2.ensures.items,
  c.put_text.ensures.items,
  c.text.ensures,
  c.day.ensures.value,
  c.put_number-2.ensures.items,
  c.put_number.ensures.items,
  c.get.ensures.value,
  c.put.ensures.items,
) (simp append_assoc)
