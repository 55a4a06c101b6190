use Rattle.std.proofs.Common.{◌≡◌, ◌<◌, ◌≤◌, ℕ, List, All, Some, map}
use Rattle.csv.specs.Reading.{Reached, Ready, default_config, source_of, strip_bom}
use Rattle.csv.specs.declared.parser.State.TheVariants as st
use Rattle.csv.specs.declared.reader.Trim.TheVariants as trim
use Rattle.bank_days.specs.Calendar.{AreHolidays}
use Rattle.bank_days.specs.HolidayList.{row_day}
use Rattle.bank_days.proofs.HolidayRows.{Taken}
use Rattle.bank_days.proofs.calendar.Calendar.read.Given as goal

abbrev pub invariant-loop-row : goal.invariant-loop-row
invariant-loop-row l = record {
  untrimmed : l.row-iterator.rdr.trim ≡ trim.None;
  ready : Ready l.row-iterator.rdr;
  left : 0 < l.row-iterator.left;
  config : l.row-iterator.rdr.config ≡ default_config;
  rest : List ℕ;
  source : source_of (λ s. Some s.now) l.row-iterator.rdr ≡ Some rest;
  done : List (List (List ℕ));
  reached : Reached default_config st.StartRecord (strip_bom l.fn.text) done l.row-iterator.rdr.state rest;
  taken : Taken (map row_day done) l.days.items;
  valid : AreHolidays l.days.items;
  within : All (λ h. h ≤ 47_481) l.days.items;
}
