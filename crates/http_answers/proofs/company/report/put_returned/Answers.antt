use Rattle.std.proofs.Common.{append_assoc}
use Rattle.http_json.proofs.Objects.{compact_text-object_of}
use Rattle.http_answers.specs.Company.{returned_members}
use Rattle.http_answers.proofs.company.report.put_returned.Goals as goal

pub returns : goal.returns
returns c = rw (
  compact_text-object_of (returned_members c.args.entry.now.cents c.args.entry.now.index c.args.settled c.args.code c.args.returned c.args.late),
  c.put-2.ensures.items,
  c.put_text-4.ensures.items,
  c.put_text-3.ensures.items,
  c.text-3.ensures,
  c.day.ensures.value,
  c.put_text-2.ensures.items,
  c.text-2.ensures,
  c.put_flag.ensures.items,
  c.put_number-2.ensures.items,
  c.put_text.ensures.items,
  c.text.ensures,
  c.put_number.ensures.items,
  c.get.ensures.value,
  c.put.ensures.items,
) (simp append_assoc)
