-- What the two statements that give an entry its place make of the tables.
use Rattle.std.specs.Prelude.{⊤, ℕ, ◌+◌, Bool, ◌&&◌, ◌==◌, nat_le, List, map}
use Rattle.std.specs.Int.{IsInRange}
use Rattle.std.specs.List.{enumerate_from}
use Rattle.sqlite_keyed.specs.Lists.{delete_where, insert_sorted}
use Rattle.sql_statements.specs.Edits.{Edit}
use Rattle.ach_fields.specs.Trace.{most_sequence}
use Rattle.desk_history.specs.declared.sent_entry.SentEntry.{SentEntry}
use Rattle.sql_tables.specs.CutTables.{mark_entry, with_number}
use Rattle.sql_tables.specs.Description.{key_cmp}
use Rattle.sql_tables.specs.DeskTables as the
use Rattle.sql_tables.specs.KeyOrders.{IsInOrder}
use Rattle.sql_tables.specs.TableEdits.{IsUnsent}
use Rattle.sql_tables.specs.Tables.{Tables}
use Rattle.sql_tables.specs.declared.records.NumberRecord.{NumberRecord}

-- UPDATE entries SET seq = ? WHERE company = ? AND ord = ? AND idx = ? AND seq IS NULL
abbrev pub mark_entry_edit : (place : ℕ) → SentEntry → Edit Tables
mark_entry_edit n e = record { after = λ t. record t { entries = mark_entry n e t.entries }; Tells = IsUnsent e }

-- the sequence of an entry, which is one that traces have, gets its place
abbrev pub put_number_edit : (place : ℕ) → SentEntry → Edit Tables
put_number_edit n e = record { after = λ t. record t { numbers = with_number e.sequence n t.numbers }; Tells = λ _. IsInRange 1 most_sequence e.sequence }

-- a sequence stands so many after that of the first
abbrev pub follows_in_sequence : (first : SentEntry) → (after : ℕ) → SentEntry → Bool
follows_in_sequence first after e = e.sequence == first.sequence + after

-- the sequence is one from the first to the last
abbrev pub is_within : (from to : ℕ) → NumberRecord → Bool
is_within from to n = nat_le from n.sequence && nat_le n.sequence to

-- DELETE FROM numbers WHERE sequence BETWEEN ? AND ?; the numbers stand in the order of their sequences
abbrev pub clear_numbers_edit : (from to : ℕ) → Edit Tables
clear_numbers_edit from to = record { after = λ t. record t { numbers = delete_where (is_within from to) t.numbers }; Tells = λ t. IsInOrder (key_cmp the.sequences) t.numbers }

-- the number of an entry's sequence, with its place
abbrev pub number_record : (place : ℕ) → SentEntry → NumberRecord
number_record place e = record { sequence = e.sequence; place = place }

abbrev pub numbers_from : (first : ℕ) → List SentEntry → List NumberRecord
numbers_from first es = map (λ p. number_record p.0 p.1) (enumerate_from first es)

-- INSERT INTO numbers
abbrev pub insert_number_edit : (place : ℕ) → SentEntry → Edit Tables
insert_number_edit place e = record { after = λ t. record t { numbers = insert_sorted (key_cmp the.sequences) (number_record place e) t.numbers }; Tells = λ _. ⊤ }
