-- The statements of lines, and the queries among them.
use Rattle.std.specs.Prelude.{ℕ, List, [], ◌∷◌}
use Rattle.sql_tables.specs.Change.{Change, parameter, set, upsert}
use Rattle.sql_tables.specs.Question.{last_row}
use Rattle.sql_writes.specs.declared.numbering.NumberedTable.{NumberedTable}
use Rattle.sql_writes.specs.declared.numbering.NumberedTable.TheVariants as tables
use Rattle.sql_tables.specs.DeskTables as the
use Rattle.sql_tables.specs.Description.{insert_sixteen_text, insert_text}

-- the last number of a table
abbrev pub last_text : NumberedTable → List ℕ
last_text tables.Postings = (last_row the.postings).text
last_text tables.Returns = (last_row the.returns).text
last_text tables.Changes = (last_row the.changes).text
last_text tables.Suspense = (last_row the.suspense).text

abbrev pub insert_posting : List ℕ
insert_posting = insert_text the.postings

-- of sixteen lines
abbrev pub insert_postings : List ℕ
insert_postings = insert_sixteen_text the.postings

abbrev pub upsert_balance : Change
upsert_balance = upsert the.balances (set "cents" (parameter 2) ∷ [])
