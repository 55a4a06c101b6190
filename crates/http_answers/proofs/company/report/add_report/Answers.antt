use Rattle.std.proofs.Common.{append_assoc}
use Rattle.http_json.proofs.Objects.{last_members_text-append}
use Rattle.http_answers.specs.Company.{retried_members, report_last_members}
use Rattle.http_answers.proofs.Texts.{report_text}
use Rattle.http_answers.proofs.company.report.add_report.Goals as goal

pub returns : goal.returns
returns c = rw (
  report_text c.args.report,
  last_members_text-append (retried_members c.args.report.retried) (report_last_members c.args.report),
  c.put-2.ensures.items,
  c.put_text-4.ensures.items,
  c.text-2.ensures,
  c.put_text-3.ensures.items,
  c.bytes.ensures.value,
  c.put_number-2.ensures.items,
  c.put_retried.ensures.items,
  c.in_ok-reserve-2.ensures.items,
  c.in_ok-add_list.ensures,
  c.put_text-2.ensures.items,
  c.as_bytes.ensures.value,
  c.direction_text.ensures.text,
  c.put_text.ensures.items,
  c.text.ensures,
  c.put_number.ensures.items,
  c.get.ensures.value,
  c.put.ensures.items,
  c.in_ok-reserve.ensures.items,
) (simp append_assoc)
