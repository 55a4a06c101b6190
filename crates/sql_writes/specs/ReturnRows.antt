-- The rows of returns.
use Rattle.std.specs.Prelude.{ℕ, pos, [], ◌∷◌}
use Rattle.sqlite_value.specs.Order.{Row}
use Rattle.sqlite_value.specs.declared.value.Value.TheVariants.{Int, Text}
use Rattle.desk_book.specs.declared.flat_rows.ReturnedRow.{ReturnedRow}
use Rattle.desk_rules.specs.ReturnCodes.{code_text}
use Rattle.sql_tables.specs.Columns.{number, flag}
use Rattle.sql_writes.specs.declared.intake.return_rows.ReturnRow.{ReturnRow}

-- the row of a return under its number
abbrev pub held_return : (number : ℕ) → ReturnedRow → ReturnRow
held_return n x = record { number = pos n; order = pos x.order; index = pos x.row.index; code = code_text x.row.code; returned = x }

-- what a row stores
abbrev pub stored_return : ReturnRow → Row
stored_return r =
    Int r.number ∷ Text r.returned.company ∷ Int r.order ∷ Int r.index ∷ Text r.code ∷ number r.returned.row.day
    ∷ flag r.returned.row.late ∷ Text r.returned.row.info ∷ []
