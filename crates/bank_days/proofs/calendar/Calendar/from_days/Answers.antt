use Rattle.std.proofs.Common.{inl, inr}
use Rattle.bank_days.proofs.HolidayRows.{days_more, days_fault, days_end}
use Rattle.bank_days.proofs.calendar.Calendar.from_days.Goals as goal

pub returns-in-Err-clause-value : goal.returns-in-Err-clause-value
returns-in-Err-clause-value c =
    elim (c.in-Err.ensures.err) [
      | inl memory ↦ inl memory
      | inr fault ↦ inr (days_fault c.args.days.now c.loop-day.holidays.items c.loop-day.day-index c.day-item.result c.in-Err.fault c.loop-day.invariant.taken c.loop-day-test.true c.day-item.is fault)
    ]

pub loop-day-preserved : goal.loop-day-preserved
loop-day-preserved c = record {
  taken = rw c.in-Ok.ensures.ok (days_more c.args.days.now c.loop-day.holidays.items c.loop-day.day-index c.day-item.result c.loop-day.invariant.taken c.loop-day-test.true c.day-item.is c.in-Ok.ensures.fits);
  valid = c.in-Ok.ensures.valid;
}

pub returns-clause-value : goal.returns-clause-value
returns-clause-value c = days_end c.args.days.now c.loop-day.holidays.items c.loop-day.day-index c.loop-day.invariant.taken c.loop-day-test.false
