-- The rows of the numbers of sequences.
use Rattle.std.specs.Prelude.{ℕ, pos, [], ◌∷◌}
use Rattle.sqlite_value.specs.Order.{Row}
use Rattle.sqlite_value.specs.declared.value.Value.TheVariants.{Int}
use Rattle.desk_history.specs.declared.sent_entry.SentEntry.{SentEntry}
use Rattle.sql_writes.specs.declared.cut.numbers.NumberRow.{NumberRow}

-- the row of the entry that has this place
abbrev pub held_number : (place : ℕ) → SentEntry → NumberRow
held_number place e = record { sequence = pos e.sequence; place = pos place }

-- what a row stores
abbrev pub stored_number : NumberRow → Row
stored_number r = Int r.sequence ∷ Int r.place ∷ []
