-- The rows of lines.
use Rattle.std.specs.Prelude.{ℕ, pos, [], ◌∷◌}
use Rattle.sqlite_value.specs.Order.{Row}
use Rattle.sqlite_value.specs.declared.value.Value.TheVariants.{Int, Text}
use Rattle.desk_accounts.specs.declared.posting.Posting.{Posting}
use Rattle.sql_tables.specs.Columns.{number, account_text, cause_text, line_reference}
use Rattle.sql_writes.specs.declared.account_lines.rows.LineRow.{LineRow}

-- the row of a line under its number
abbrev pub held_line : (number : ℕ) → Posting → LineRow
held_line n p = record { number = pos n; account = account_text p.account; index = pos p.idx; line = p }

-- what a row stores
abbrev pub stored_line : LineRow → Row
stored_line r =
    Int r.number ∷ Text r.account ∷ number r.line.value_day ∷ Int r.line.cents ∷ Text (cause_text r.line.cause)
    ∷ line_reference r.line.reference ∷ Int r.index ∷ []
