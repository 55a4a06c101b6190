-- The rows that a file writes, by the resolutions of its items.
use Rattle.std.specs.Prelude.{◌≡◌, ℕ, List, map, filter_map, count_by, length}
use Rattle.std.specs.List.{enumerate_from, flat_map}
use Rattle.ach_files.specs.Facts.{FileFacts}
use Rattle.desk_accounts.specs.declared.posting.Posting.{Posting}
use Rattle.desk_accounts.specs.Laws.{pairs}
use Rattle.desk_history.specs.declared.operations.Intake.{Intake}
use Rattle.desk_history.specs.declared.operations.SuspenseRow.{SuspenseRow}
use Rattle.desk_history.specs.Intake.{intake_of, suspense_row}
use Rattle.desk_history.specs.Postings.{event_line, item_line}
use Rattle.desk_book.specs.Book.{Book}
use Rattle.desk_book.specs.declared.flat_rows.ChangedRow.{ChangedRow}
use Rattle.desk_book.specs.declared.flat_rows.ReturnedRow.{ReturnedRow}
use Rattle.desk_book.specs.Steps.{IntakeWrite}
use Rattle.desk_book.specs.OnIntake.{IntakeFacts, changed_row, intake_facts, intake_write, returned_row}
use Rattle.desk_intake.specs.declared.found_item.FoundItem.{FoundItem}
use Rattle.desk_intake.specs.declared.judged_item.JudgedItem.{JudgedItem}
use Rattle.desk_intake.specs.declared.matched_item.MatchedItem.{MatchedItem}
use Rattle.desk_intake.specs.declared.plan.IntakePlan.{IntakePlan}
use Rattle.desk_intake.specs.Resolutions.{found_item_as, judged_as, matched_item_as, resolution_of}

-- ---- the write of a file

-- the write of a plan
abbrev pub plan_write : IntakePlan → IntakeWrite
plan_write p = record { returned = p.returned.items; changed = p.changed.items; suspense = p.suspense.items; postings = p.postings.items; file = p.file }

-- the plan has all that is written
abbrev pub IsPlanOf : IntakeWrite → IntakePlan → Type 0
IsPlanOf write p = plan_write p ≡ write

-- the intake of these items on a day
abbrev pub intake_facts_of : (key : List ℕ) → (digest : List ℕ) → List FoundItem → (day : ℕ) → (holidays : List ℕ) → IntakeFacts
intake_facts_of key digest found day holidays = record { day = day; holidays = holidays; key = key; digest = digest; items = map found_item_as found }

-- what that intake writes
abbrev pub write_of_found : (key digest : List ℕ) → List FoundItem → (day : ℕ) → (holidays : List ℕ) → IntakeWrite
write_of_found key digest found day holidays = intake_write (intake_facts_of key digest found day holidays)

-- what a new file writes on a day
abbrev pub file_write : (day : ℕ) → FileFacts → Book → IntakeWrite
file_write day file = λ b. intake_write (intake_facts b day file)

-- ---- the write of judged items

-- the returned entries
abbrev pub returned_rows : (holidays : List ℕ) → (day : ℕ) → List JudgedItem → List ReturnedRow
returned_rows holidays day js = filter_map (returned_row holidays day) (map resolution_of js)

-- the entries with a notification of change
abbrev pub changed_rows : (day : ℕ) → List JudgedItem → List ChangedRow
changed_rows day js = filter_map (changed_row day) (map resolution_of js)

-- the items in suspense, with their numbers in the file, from 1
abbrev pub suspense_rows : (key : List ℕ) → (day : ℕ) → List JudgedItem → List SuspenseRow
suspense_rows key day js = filter_map (λ y. suspense_row key day y.0 y.1.0 y.1.1) (enumerate_from 1 (map judged_as js))

-- the line of the entry that an item meets, if it moves money, and its opposite
abbrev pub event_lines : (day : ℕ) → MatchedItem → List Posting
event_lines day met = pairs (event_line day met.entry (matched_item_as met).event)

-- the lines of companies and of suspense, each with its opposite after it
abbrev pub postings_of : (day : ℕ) → List JudgedItem → List Posting
postings_of day js = pairs (flat_map (λ y. item_line day y.0 y.1) (map judged_as js))

-- the answer that counts these rows
abbrev pub counts_of : (day : ℕ) → List ReturnedRow → List ChangedRow → List SuspenseRow → Intake
counts_of day returned changed suspense = record {
  changes = length changed;
  day = day;
  late = count_by (λ r. r.row.late) returned;
  returns = length returned;
  suspense = length suspense;
}

-- what these items write
abbrev pub write_of_items : (key : List ℕ) → (digest : List ℕ) → List JudgedItem → (day : ℕ) → (holidays : List ℕ) → IntakeWrite
write_of_items key digest js day holidays = record {
  returned = returned_rows holidays day js;
  changed = changed_rows day js;
  suspense = suspense_rows key day js;
  postings = postings_of day js;
  file = record { key = key; digest = digest; answer = intake_of holidays day (map resolution_of js) };
}
