use Rattle.desk_book.proofs.OpenRows.{past_before}
use Rattle.desk_book.proofs.open_rows.first_open_day.Goals as goal

pub returns-then-is_past : goal.returns-then-is_past
returns-then-is_past c =
    past_before c.nth_banking_days.ensures c.args.calendar.now c.in_ok-before.before c.args.today _ c.holidays-holidays.ensures.valid
    (c.is_past.ensures.early c.if-is_past.true) (c.is_past.ensures.past c.if-is_past.true) c.plus.ensures
