-- What the statements of a calendar make of the tables.
use Rattle.std.specs.Prelude.{⊤, ℕ, []}
use Rattle.std.specs.Ordering.{nat_cmp}
use Rattle.sqlite_keyed.specs.Lists.{insert_sorted}
use Rattle.sql_statements.specs.Edits.{Edit}
use Rattle.sql_tables.specs.Tables.{Tables}

-- DELETE FROM holidays
abbrev pub clear_holidays_edit : Edit Tables
clear_holidays_edit = record { after = λ t. record t { holidays = [] }; Tells = λ _. ⊤ }

-- INSERT INTO holidays
abbrev pub put_holiday_edit : (day : ℕ) → Edit Tables
put_holiday_edit day = record { after = λ t. record t { holidays = insert_sorted nat_cmp day t.holidays }; Tells = λ _. ⊤ }
