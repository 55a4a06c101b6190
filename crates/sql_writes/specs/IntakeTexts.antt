-- The texts of the writing statements of an incoming file.
use Rattle.std.specs.Prelude.{ℕ, List}
use Rattle.sql_tables.specs.DeskTables as the
use Rattle.sql_tables.specs.Description.{insert_sixteen_text, insert_text}

abbrev pub insert_return : List ℕ
insert_return = insert_text the.returns

-- of sixteen returns
abbrev pub insert_returns : List ℕ
insert_returns = insert_sixteen_text the.returns

abbrev pub insert_change : List ℕ
insert_change = insert_text the.changes

abbrev pub insert_suspense : List ℕ
insert_suspense = insert_text the.suspense

abbrev pub insert_taken : List ℕ
insert_taken = insert_text the.taken
