use Rattle.std.proofs.Common.{rules, arith, sym}
use Rattle.sqlite.specs.Held.{state}
use Rattle.sql_statements.proofs.Edits.{makes_both}
use Rattle.sql_statements.specs.Edits.{each_edit_from}
use Rattle.sql_tables.specs.Layout.{desk_layout}
use Rattle.sql_tables.specs.TableEdits.{set_holidays_edit}
use Rattle.sql_writes.specs.HolidayEdits.{clear_holidays_edit, put_holiday_edit}
use Rattle.sql_writes.proofs.Holidays.{all_put}
use Rattle.sql_writes.proofs.registry.SetHolidaysTransactionBody.run.Goals as goal

pub returns : goal.returns
returns g c = record {
  same_reference = search rules;
  makes = λ clean.
      let days = c.args.self.now.holidays.now in
      let old = state g.S.Store c.args.tx.now.conn.now in
      let mid = state g.S.Store c.clear_holidays.new.tx.conn.now in
      let new = state g.S.Store c.run_each.new.tx.conn.now in
      let put = rw (c.holidays.ensures.value) at (c.in_ok-run_each.ensures.makes clean) in
      makes_both desk_layout clear_holidays_edit (each_edit_from (λ _. put_holiday_edit) 1 days) (set_holidays_edit days) (λ t told done. (sym (all_put days t c.holidays.ensures.valid.ascending), tt)) old mid new
      (c.in_ok-clear_holidays.ensures.makes (omega (arith, c.run_each.ensures.survives.clean, clean))) put;
  keeps = search rules;
  survives = search rules;
}
