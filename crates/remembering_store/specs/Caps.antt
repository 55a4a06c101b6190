-- The most that is kept of one company, and for how long.
use Rattle.std.specs.Prelude.{ℕ, ◌+◌, ◌<◌, ◌≤◌, Bool, not, nat_le, length}
use Rattle.std.specs.BTreeMap.{btree_map_len}
use Rattle.remembering_store.specs.KnownRow.{KnownRow}
use Rattle.remembering_store.specs.declared.sums.caps.Caps.{Caps}
use Rattle.remembering_store.specs.declared.sums.open_rows.OpenRows.{OpenRows}

-- at most 200,000 submissions and 1,000,000 debits
abbrev pub standard_caps : Caps
standard_caps = record { submissions = 200000; debits = 1000000 }

-- there is room for one more submission
abbrev pub HasRoom : OpenRows → KnownRow → Type 0
HasRoom m row = (btree_map_len m.rows < m.caps.submissions) × (m.debits + length row.cents ≤ m.caps.debits)

-- the first open day is more than 30 days after the one on which it was read
abbrev pub is_behind : (since : ℕ) → (first : ℕ) → Bool
is_behind since first = not (nat_le first (since + 30))
