-- The rows of the entries of a new submission.
use Rattle.std.specs.Prelude.{ℕ, pos, List, [], ◌∷◌}
use Rattle.sqlite.specs.Values.{or_null}
use Rattle.sqlite_value.specs.Order.{Row}
use Rattle.sqlite_value.specs.declared.value.Value.TheVariants.{Null, Int, Text}
use Rattle.desk_history.specs.Resolve.{is_savings}
use Rattle.desk_rules.specs.declared.bodies.submission.Entry.{Entry}
use Rattle.sql_tables.specs.Columns.{flag}
use Rattle.sql_writes.specs.declared.entries.EntryRow.{EntryRow}

-- the row of the entry with this number
abbrev pub held_entry : (company : List ℕ) → (order : ℕ) → (index : ℕ) → Entry → EntryRow
held_entry c order index e = record { company = c; order = pos order; index = pos index; routing = e.routing; cents = pos e.cents; entry = e }

-- what a row stores; it was not sent
abbrev pub stored_entry : EntryRow → Row
stored_entry r =
    Text r.company ∷ Int r.order ∷ Int r.index ∷ Text r.routing ∷ Text r.entry.account ∷ flag (is_savings r.entry.kind) ∷ flag r.entry.prenote
    ∷ Int r.cents ∷ Text r.entry.id ∷ Text r.entry.name ∷ or_null Text r.entry.info ∷ Null ∷ []
