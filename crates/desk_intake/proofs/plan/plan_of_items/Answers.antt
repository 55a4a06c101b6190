use Rattle.std.proofs.Common.{◌∙◌, length}
use Rattle.std.specs.Prelude.{count_by}
use Rattle.desk_intake.proofs.Plans.{rows_counted}
use Rattle.desk_intake.proofs.plan.plan_of_items.Goals as goal

pub returns : goal.returns
returns c =
    let counted = c.counts-answer.ensures ∙ (λ i. record {
      changes = length (c.deref-2.ensures.value i);
      day = c.args.day;
      late = count_by (λ r. r.row.late) (c.deref.ensures.value i);
      returns = length (c.deref.ensures.value i);
      suspense = length (c.deref-3.ensures.value i);
    }) in
    rows_counted c.args.key c.args.digest c.args.judged.now c.args.day c.args.holidays.now
    c.in_ok-returned.returned.items c.in_ok-changed.changed.items c.in_ok-suspense.suspense.items c.in_ok-postings.postings.items c.counts-answer.result
    c.in_ok-returned.ensures c.in_ok-changed.ensures c.in_ok-suspense.ensures c.in_ok-postings.ensures counted
