-- The statements of a migration.
use Rattle.std.specs.Prelude.{ℕ, List, [], ◌∷◌}
use Rattle.sql_tables.specs.Change.{Change, is_number, number, set, update}
use Rattle.sql_tables.specs.DeskTables as the
use Rattle.sql_tables.specs.Question.{ask, from, rises}
pub use Rattle.sql_writes.specs.CutTexts.{insert_number}

abbrev pub update_version : Change
update_version = update the.desk (set "version" (number 2) ∷ []) (is_number "id" 1 ∷ [])

abbrev pub sent_places_text : List ℕ
sent_places_text = (ask the.entries ("seq" ∷ []) (from "seq" ∷ []) (rises "company" ∷ rises "ord" ∷ rises "idx" ∷ [])).text
