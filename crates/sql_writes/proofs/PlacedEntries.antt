-- A cut writes the places of its entries and then the places of their sequences: that is each entry placed.
use Rattle.std.proofs.Common.{◌≡◌, ◌+◌, ℕ, List, [], ◌∷◌, refl, sym, ap, ◌∙◌}
use Rattle.std.specs.Int.{IsInRange}
use Rattle.std.specs.List.{AllByRecursion}
use Rattle.ach_fields.specs.Trace.{most_sequence}
use Rattle.sql_statements.specs.Edits.{each_edit_from}
use Rattle.desk_history.specs.declared.sent_entry.SentEntry.{SentEntry}
use Rattle.sql_tables.specs.CutTables.{with_number}
use Rattle.sql_tables.specs.TableEdits.{place_edit}
use Rattle.sql_tables.specs.Tables.{Tables}
use Rattle.sql_tables.specs.declared.records.NumberRecord.{NumberRecord}
use Rattle.sql_writes.specs.PlaceEdits.{mark_entry_edit, put_number_edit}

-- the sequences of entries have their places
abbrev pub numbered_by : (place : ℕ) → List SentEntry → List NumberRecord → List NumberRecord
numbered_by n [] numbers = numbers
numbered_by n (e ∷ es) numbers = numbered_by (n + 1) es (with_number e.sequence n numbers)

abbrev AreInRange : List SentEntry → Type 0
AreInRange = AllByRecursion (λ (e : SentEntry). IsInRange 1 most_sequence e.sequence)

numbers_after : (es : List SentEntry) (n : ℕ) (t : Tables) → (each_edit_from put_number_edit n es).after t ≡ record t { numbers = numbered_by n es t.numbers }
numbers_after [] n t = refl
numbers_after (e ∷ es) n t = numbers_after es (n + 1) (record t { numbers = with_number e.sequence n t.numbers })

numbers_told : (es : List SentEntry) (n : ℕ) (t : Tables) → (each_edit_from put_number_edit n es).Tells t → AreInRange es
numbers_told [] n t told = tt
numbers_told (e ∷ es) n t told = (told.0, numbers_told es (n + 1) (record t { numbers = with_number e.sequence n t.numbers }) told.1)

marks_keep : (es : List SentEntry) (n : ℕ) (t : Tables) → ((each_edit_from mark_entry_edit n es).after t).numbers ≡ t.numbers
marks_keep [] n t = refl
marks_keep (e ∷ es) n t = marks_keep es (n + 1) ((mark_entry_edit n e).after t)

both : (es : List SentEntry) (n : ℕ) (t : Tables) (numbers : List NumberRecord) → (each_edit_from mark_entry_edit n es).Tells t → AreInRange es
    → ((each_edit_from place_edit n es).after (record t { numbers = numbers }) ≡ record ((each_edit_from mark_entry_edit n es).after t) { numbers = numbered_by n es numbers })
    × (each_edit_from place_edit n es).Tells (record t { numbers = numbers })
both [] n t numbers told within = (refl, tt)
both (e ∷ es) n t numbers told within =
    let more = both es (n + 1) ((mark_entry_edit n e).after t) (with_number e.sequence n numbers) told.1 within.1 in
    (more.0, ((record { record_of = told.0.record_of; found = told.0.found; unplaced = told.0.unplaced }, within.0), more.1))

pub entries_placed : (n : ℕ) (es : List SentEntry) (t : Tables) → (each_edit_from mark_entry_edit n es).Tells t → (each_edit_from put_number_edit n es).Tells ((each_edit_from mark_entry_edit n es).after t)
    → ((each_edit_from place_edit n es).after t ≡ (each_edit_from put_number_edit n es).after ((each_edit_from mark_entry_edit n es).after t)) × (each_edit_from place_edit n es).Tells t
entries_placed n es t marked numbered =
    let marked_tables = (each_edit_from mark_entry_edit n es).after t in
    let it = both es n t t.numbers marked (numbers_told es n marked_tables numbered) in
    (it.0 ∙ sym (numbers_after es n marked_tables ∙ ap (λ ns. record marked_tables { numbers = numbered_by n es ns }) (marks_keep es n t)), it.1)
