-- The statements of a cut.
use Rattle.std.specs.Prelude.{ℕ, List, [], ◌∷◌, ◌++◌}
use Rattle.sql_tables.specs.Change.{Change, Pick, delete, is, is_null, is_number, number, parameter, set, sum_with, update, within}
use Rattle.sql_tables.specs.DeskTables as the
use Rattle.sql_tables.specs.Description.{insert_sixteen_text, insert_text}

-- submissions that wait
abbrev waiting : List Pick → List Pick
waiting orders = is "company" 0 ∷ (orders ++ (is_null "settled" ∷ is_number "lapsed" 0 ∷ []))

-- those of a run of orders get these values
abbrev pub update_sent : Change
update_sent = update the.submissions (set "settled" (parameter 3) ∷ set "file_day" (parameter 4) ∷ set "modifier" (parameter 5) ∷ set "batch" (sum_with 6 "ord") ∷ []) (waiting (within "ord" 1 2 ∷ []))

-- one of them lapses
abbrev pub update_lapsed : Change
update_lapsed = update the.submissions (set "lapsed" (number 1) ∷ []) (waiting (is "ord" 1 ∷ []))

-- of entries that follow one another in one submission
abbrev pub update_in_one : Change
update_in_one = update the.entries (set "seq" (sum_with 2 "idx") ∷ []) (is "company" 0 ∷ is "ord" 1 ∷ within "idx" 3 4 ∷ is_null "seq" ∷ [])

-- of entries that have one number in submissions that follow one another
abbrev pub update_in_many : Change
update_in_many = update the.entries (set "seq" (sum_with 2 "ord") ∷ []) (is "company" 0 ∷ within "ord" 3 4 ∷ is "idx" 1 ∷ is_null "seq" ∷ [])

abbrev pub delete_numbers : Change
delete_numbers = delete the.sequences (within "sequence" 0 1 ∷ [])

abbrev pub insert_number : List ℕ
insert_number = insert_text the.sequences

-- of sixteen entries
abbrev pub insert_numbers : List ℕ
insert_numbers = insert_sixteen_text the.sequences

abbrev pub insert_file : List ℕ
insert_file = insert_text the.files
