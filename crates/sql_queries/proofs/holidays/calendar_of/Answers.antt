use Rattle.sql_queries.proofs.Days.{days_of}
use Rattle.sql_queries.proofs.holidays.calendar_of.Goals as goal

pub returns-in-Ok : goal.returns-in-Ok
returns-in-Ok c = days_of c.args.days.now c.in-Ok.calendar c.in-Ok.ensures.value
