-- What version 1's tables become.
use Rattle.std.specs.Prelude.{ℕ, Bool, List, [], map, filter, fold, unwrap_or}
use Rattle.sqlite_keyed.specs.Lists.{insert_sorted}
use Rattle.sql_tables.specs.Description.{key_cmp}
use Rattle.sql_tables.specs.DeskTables as the
use Rattle.sql_tables.specs.TableReads.{is_since}
use Rattle.sql_tables.specs.Tables.{Tables}
use Rattle.sql_tables.specs.declared.records.EntryRecord.{EntryRecord}
use Rattle.sql_tables.specs.declared.records.NumberRecord.{NumberRecord}

-- WHERE seq >= 1
abbrev pub has_place : EntryRecord → Bool
has_place e = is_since 1 e.place

-- the places of all sent entries, in the order of the entries' key
abbrev pub places_of : List EntryRecord → List ℕ
places_of entries = map (λ e. unwrap_or e.place 0) (filter has_place entries)

-- a sequence was used once, so it is the place of the one entry that has it
abbrev pub with_own_number : List NumberRecord → (place : ℕ) → List NumberRecord
with_own_number numbers place = insert_sorted (key_cmp the.sequences) (record { sequence = place; place = place }) numbers

-- each place is the number of its own sequence, and nothing was authorized again
abbrev pub migrated : Tables → Tables
migrated t = record t { numbers = fold with_own_number [] (places_of t.entries); authorizations = [] }
