-- The writing statements of the desk, its calendar, its companies and submissions.
use Rattle.std.specs.Prelude.{ℕ, List, [], ◌∷◌}
use Rattle.sql_tables.specs.Change.{Change, delete, is, is_number, parameter, set, update}
use Rattle.sql_tables.specs.DeskTables as the
use Rattle.sql_tables.specs.Description.{insert_sixteen_text, insert_text}

-- ---- the desk, its calendar and its companies

abbrev pub update_day : Change
update_day = update the.desk (set "day" (parameter 0) ∷ []) (is_number "id" 1 ∷ [])

abbrev pub delete_holidays : Change
delete_holidays = delete the.holidays []

abbrev pub insert_holiday : List ℕ
insert_holiday = insert_text the.holidays

abbrev pub insert_company : List ℕ
insert_company = insert_text the.companies

abbrev pub update_limits : Change
update_limits = update the.companies (set "entry_limit" (parameter 1) ∷ set "credit_limit" (parameter 2) ∷ set "debit_limit" (parameter 3) ∷ []) (is "id" 0 ∷ [])

-- ---- submissions

abbrev pub insert_submission : List ℕ
insert_submission = insert_text the.submissions

abbrev pub insert_entry : List ℕ
insert_entry = insert_text the.entries

-- of sixteen entries
abbrev pub insert_entries : List ℕ
insert_entries = insert_sixteen_text the.entries

abbrev pub insert_authorization : List ℕ
insert_authorization = insert_text the.authorizations
