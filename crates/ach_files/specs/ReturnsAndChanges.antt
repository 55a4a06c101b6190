-- A file of returns and changes that is to be printed, as a file.
use Rattle.std.specs.Prelude.{◌≡◌, ◌⊎◌, ◌≤◌, ℕ, ◌%◌, List, [], ◌∷◌, ◌++◌, map, length}
use Rattle.std.specs.List.{All, flat_map}
use Rattle.ach_records.specs.Print.{row_text, entry_row, file_header_row, batch_header_row, addenda05_row, change98_row, return99_row, batch_control_row, file_control_row, value_bytes, number_or_blanks}
use Rattle.ach_records.specs.Record.{header_key}
use Rattle.ach_fields.specs.Text.{with_blanks_after}
use Rattle.ach_files.specs.declared.facts.ItemFacts.{ItemFacts}
use Rattle.ach_files.specs.declared.facts.ReturnOrChange.{ReturnOrChange}
use Rattle.ach_files.specs.declared.facts.ReturnOrChange.TheVariants as returns_or_changes
use Rattle.ach_files.specs.declared.outgoing.Addenda.{Addenda}
use Rattle.ach_files.specs.declared.outgoing.Addenda.TheVariants as addendas
use Rattle.ach_files.specs.declared.outgoing.OutgoingEntry.{OutgoingEntry}
use Rattle.ach_files.specs.declared.outgoing.OutgoingBatch.{OutgoingBatch}
use Rattle.ach_files.specs.declared.outgoing.Outgoing.{Outgoing}
use Rattle.ach_files.specs.Structure.{Item, Batch, File}
use Rattle.ach_files.specs.Facts.{file_facts}
use Rattle.ach_files.specs.File.{IsFile}
use Rattle.ach_files.specs.Limits.{most_bytes}
use Rattle.ach_files.specs.Outgoing.{entry_of, batch_control, file_control, filler_count, main_count, outgoing_text}

-- a 99, or a 98 where the amount is zero
abbrev pub IsReturnOrChange : Addenda → ℕ → Type 0
IsReturnOrChange (addendas.Return r) cents = Unit {0}
IsReturnOrChange (addendas.Change c) cents = cents ≡ 0
IsReturnOrChange _ cents = ⊥

-- a return or a change, by its code and its addenda
pub record IsReturnOrChangeEntry (e : OutgoingEntry) : Type 0 where
  pub code : (e.transaction % 10 ≡ 1) ⊎ (e.transaction % 10 ≡ 6)
  pub return_or_change : IsReturnOrChange e.addenda e.cents

-- a file of returns and changes
abbrev pub AreReturnsAndChanges : Outgoing → Type 0
AreReturnsAndChanges o = All (λ b. All IsReturnOrChangeEntry b.entries.now) o.batches.now

abbrev pub addenda_text : List ℕ → Addenda → List ℕ
addenda_text trace addendas.Absent = []
addenda_text trace (addendas.Payment information) = row_text (addenda05_row (record { information = information; trace = trace }))
addenda_text trace (addendas.Change c) = row_text (change98_row c)
addenda_text trace (addendas.Return r) = row_text (return99_row r)

unfoldable pub item_of : OutgoingEntry → Item
item_of e = record { entry = row_text (entry_row (entry_of e)); addenda = addenda_text e.trace e.addenda }

unfoldable pub batch_of : OutgoingBatch → Batch
batch_of b = record {
  header = row_text (batch_header_row b.header);
  items = map item_of b.entries.now;
  control = row_text (batch_control_row (batch_control b));
}

unfoldable pub file_of : Outgoing → File
file_of o = record {
  header = row_text (file_header_row o.header);
  batches = map batch_of o.batches.now;
  control = row_text (file_control_row (file_control o));
  fillers = filler_count (main_count o);
}

-- ---- what is read again

-- the printed text is that file, if it is not too long
abbrev pub IsReadAgain : Outgoing → Type 0
IsReadAgain o = length (outgoing_text o) ≤ most_bytes → IsFile (outgoing_text o) (file_of o)

-- origin, date, time and modifier
abbrev pub outgoing_key : Outgoing → List ℕ
outgoing_key o = with_blanks_after 10 (32 ∷ o.header.origin) ++ (with_blanks_after 6 o.header.date ++ (value_bytes (number_or_blanks 4 o.header.time) ++ with_blanks_after 1 o.header.modifier.now))

-- the file has the key that was given
abbrev pub KeepsKey : Outgoing → Type 0
KeepsKey o = header_key (file_of o).header ≡ outgoing_key o

abbrev pub outgoing_code : Addenda → List ℕ
outgoing_code (addendas.Change c) = with_blanks_after 3 c.code.now
outgoing_code (addendas.Return r) = with_blanks_after 3 r.code.now
outgoing_code _ = []

abbrev pub outgoing_trace : Addenda → List ℕ
outgoing_trace (addendas.Change c) = with_blanks_after 15 c.original_trace.now
outgoing_trace (addendas.Return r) = with_blanks_after 15 r.original_trace.now
outgoing_trace _ = []

abbrev pub outgoing_dfi : Addenda → List ℕ
outgoing_dfi (addendas.Change c) = with_blanks_after 8 c.original_dfi.now
outgoing_dfi (addendas.Return r) = with_blanks_after 8 r.original_dfi.now
outgoing_dfi _ = []

abbrev pub outgoing_return_or_change : Addenda → ReturnOrChange
outgoing_return_or_change (addendas.Change c) = returns_or_changes.Change (with_blanks_after 29 c.corrected.now)
outgoing_return_or_change (addendas.Return r) = returns_or_changes.Return (with_blanks_after 44 r.information.now)
outgoing_return_or_change _ = returns_or_changes.Return []

-- what an item says
unfoldable pub outgoing_facts : List ℕ → OutgoingEntry → ItemFacts
outgoing_facts sec e = record {
  sec_code = with_blanks_after 3 sec;
  transaction_code = e.transaction;
  cents = e.cents;
  code = outgoing_code e.addenda;
  original_trace = outgoing_trace e.addenda;
  original_dfi = outgoing_dfi e.addenda;
  return_or_change = outgoing_return_or_change e.addenda;
}

-- the items of the file have the given facts
abbrev pub KeepsFacts : Outgoing → Type 0
KeepsFacts o =
    file_facts (file_of o) ≡ flat_map (λ b. map (outgoing_facts b.header.sec.now) b.entries.now) o.batches.now
