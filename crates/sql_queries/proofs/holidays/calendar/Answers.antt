use Rattle.std.proofs.Common.{rules}
use Rattle.sql_queries.proofs.Days.{holidays_are}
use Rattle.sql_queries.proofs.holidays.calendar.Goals as goal

pub returns : goal.returns
returns g c = record {
  answer = λ clean. holidays_are _ c.calendar_of.result _ (rw c.deref.ensures.value at c.calendar_of.ensures) (c.in_ok-days.ensures.answer clean);
  stays = search rules;
  survives = search rules;
}
