-- The statements of the desk and of its calendar, against their records.
use Rattle.std.proofs.Common.{◌≡◌, ℕ, ℤ, pos, true, ◌==◌, List, [], ◌∷◌, Some, Ok, refl, ap, ◌∙◌, subst}
use Rattle.std.proofs.lemmas.Cmp.{nat_cmp_total}
use Rattle.std.specs.Ordering.{nat_cmp}
use Rattle.sqlite_tied.specs.Compute.{everything}
use Rattle.sqlite.specs.Listing.{understood}
use Rattle.sqlite.specs.State.{State, Executes}
use Rattle.sqlite_keyed.specs.Lists.{insert_sorted, delete_where}
use Rattle.sqlite_schema.specs.Rules.{agree}
use Rattle.sqlite_value.specs.Keys.{first_key, plain}
use Rattle.sql_statements.proofs.Conditions.{int_is, and_true}
use Rattle.sql_statements.specs.StoredRows.{row_of, Stores}
use Rattle.sql_statements.specs.Layouts.{Holds}
use Rattle.sql_tables.specs.ByName as named
use Rattle.sql_tables.specs.Description.{as_row, form, table}
use Rattle.sql_tables.specs.Schema.{desk_schema}
use Rattle.sql_tables.specs.Columns.{number}
use Rattle.sql_tables.specs.Layout.{desk_layout}
use Rattle.sql_tables.specs.Tables.{Tables}
use Rattle.sql_writes.proofs.Puts.{Inserts, holds_with, one_put, IsDeleteOf, IsUpdateOf, PutsOne, rows_deleted, rows_updated}
use Rattle.sql_writes.specs.Texts.{update_day, delete_holidays, insert_holiday}
use Rattle.sql_writes.proofs.Conditions.{number_is, same_number, number_itself, equal_numbers, taken_first}
use Rattle.sql_writes.proofs.Keys.{key_free, put_in_order}
use Rattle.sql_tables.specs.DeskTables as the

update_day_is : IsUpdateOf named.desk update_day
unfolding understood everything
update_day_is = record { is = record { updates = refl; body = refl; alone = refl; plain = (refl, refl) } }

pub day_set : (day : ℕ) (old new : State) (count : ℕ) → Executes update_day.text (number day ∷ []) old new (Ok count) → (t : Tables) → Holds desk_layout old.now t
    → Holds desk_layout new.now (record t { desk = record t.desk { day = Some day } })
day_set day old new count ran t h =
    let made = rows_updated named.desk update_day (number day ∷ []) (λ _. true) (λ i d. and_true _ ∙ int_is (pos 1) (pos 1)) old new count ran t h update_day_is refl (λ d. record d { day = Some day }) (λ i d _. refl) in
    holds_with named.desk (_ ∷ []) h made.0 (record { stored = made.0.stored; rise = (tt, tt) })

-- ---- the calendar

delete_holidays_is : IsDeleteOf named.holidays delete_holidays
unfolding understood everything
delete_holidays_is = record { is = record { deletes = refl; body = refl; alone = refl; plain = (refl, refl) } }

none_left : (days : List ℕ) → delete_where (λ _. true) days ≡ []
none_left [] = refl
none_left (d ∷ days) = none_left days

pub holidays_cleared : (old new : State) (count : ℕ) → Executes delete_holidays.text [] old new (Ok count) → (t : Tables) → Holds desk_layout old.now t → Holds desk_layout new.now (record t { holidays = [] })
holidays_cleared old new count ran t h =
    let made = rows_deleted named.holidays delete_holidays [] (λ _. true) (λ i d. refl) old new count ran t h delete_holidays_is in
    holds_with named.holidays [] h made (record { stored = subst (Stores (form the.holidays) (new.now.trees 2)) (none_left t.holidays) made.stored; rise = tt })

insert_holiday_is : Inserts named.holidays insert_holiday 1
unfolding understood everything
insert_holiday_is = record { is = refl; plain = (refl, refl) }

puts_holiday : PutsOne named.holidays
puts_holiday = record { is = insert_holiday_is; full = refl }

same_day : (day : ℕ) (a b : ℤ × ℕ) → (a.1 == day) ≡ true → (b.1 == day) ≡ true → agree plain (1 ∷ []) (row_of (form the.holidays) b) (1 ∷ []) (row_of (form the.holidays) a) ≡ true
unfolding first_key
same_day day a b here there = and_true _ ∙ number_is b.1 a.1 ∙ ap (λ n. b.1 == n) (same_number a.1 day here) ∙ there

pub holiday_put : (day : ℕ) (old new : State) (count : ℕ) → Executes insert_holiday (as_row the.holidays day) old new (Ok count) → (t : Tables) → Holds desk_layout old.now t
    → Holds desk_layout new.now (record t { holidays = insert_sorted nat_cmp day t.holidays })
holiday_put day old new count ran t h =
    let s = table the.holidays in
    let made = one_put named.holidays puts_holiday day old new count ran t h in
    let free = key_free (form the.holidays) desk_schema s (1 ∷ []) (λ d. d == day) (same_day day) (λ db row any. taken_first _ _ any) new.now.trees day t.holidays (number_itself day) made.has.stored made.unique in holds_with named.holidays _ h made.has (put_in_order (form the.holidays) nat_cmp nat_cmp_total (λ d. d == day) new.now.trees s day t.holidays (λ y. equal_numbers y day) free (h.1.stands named.holidays).rise made.has.stored)
