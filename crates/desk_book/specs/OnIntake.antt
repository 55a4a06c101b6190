-- The answer to an incoming file, and what it writes, from the book.
use Rattle.std.specs.Prelude.{ℕ, Bool, true, false, ◌&&◌, ◌||◌, ◌==◌, if◌then◌else◌, List, [], ◌∷◌, ◌++◌, map, filter_map, zip, Option, Some, None, option_map, option_and_then, Result, Ok, Err, bytes_eq}
use Rattle.std.specs.List.{enumerate_from, flat_map, list_any}
use Rattle.ach_files.specs.declared.facts.ItemFacts.{ItemFacts}
use Rattle.ach_files.specs.declared.fault.Fault.{Fault}
use Rattle.ach_files.specs.Facts.{FileFacts}
use Rattle.desk_accounts.specs.Laws.{pairs}
use Rattle.desk_rules.specs.declared.rules.entry_fact.EntryState.{EntryState}
use Rattle.desk_rules.specs.declared.rules.entry_fact.EntryState.TheVariants as states
use Rattle.desk_rules.specs.declared.refusals.refusal.Refusal.TheVariants.{NoDay, FileKeyReused}
use Rattle.desk_rules.specs.Deadlines.{is_late}
use Rattle.desk_history.specs.declared.answer.Answer.{Answer}
use Rattle.desk_history.specs.declared.answer.CallRefusal.{CallRefusal}
use Rattle.desk_history.specs.declared.answer.CallRefusal.TheVariants.{Rule, BadFile}
use Rattle.desk_history.specs.declared.operations.Intake.{Intake}
use Rattle.desk_history.specs.declared.operations.TakenFile.{TakenFile}
use Rattle.desk_history.specs.declared.operations.SuspenseReason.{SuspenseReason}
use Rattle.desk_history.specs.declared.operations.SuspenseReason.TheVariants.{AlreadyReturned}
use Rattle.desk_book.specs.declared.named_entry.NamedEntry.{NamedEntry}
use Rattle.desk_book.specs.declared.row.Row.{Row}
use Rattle.desk_history.specs.declared.sent_entry.SentEntry.{SentEntry}
use Rattle.desk_book.specs.Book.{Book}
use Rattle.desk_history.specs.Intake.{is_returned_event, intake_of, suspense_row}
use Rattle.desk_history.specs.Operator.{intake_answer}
use Rattle.desk_history.specs.Part.{Event, Returned, Changed}
use Rattle.desk_history.specs.Postings.{item_line}
use Rattle.desk_history.specs.Resolve.{ResolvedItem, named_entry, resolve_entry}
use Rattle.desk_book.specs.Reads.{sent_as}
use Rattle.desk_book.specs.Standing.{row_under, state_at}
use Rattle.desk_book.specs.declared.flat_rows.ChangedRow.{ChangedRow}
use Rattle.desk_book.specs.declared.flat_rows.ReturnedRow.{ReturnedRow}
use Rattle.desk_book.specs.Steps.{IntakeWrite, commit_intake}

-- ---- what an item names

abbrev pub is_returned_state : EntryState → Bool
is_returned_state (states.Returned on code day late) = true
is_returned_state _ = false

abbrev pub is_returned_in : Option Row → ℕ → Bool
is_returned_in None index = false
is_returned_in (Some row) index = is_returned_state (state_at row index)

-- whether the entry is returned
abbrev pub is_returned_on : Book → SentEntry → Bool
is_returned_on b e = is_returned_in (row_under (b.rows e.company) e.reference) e.index

-- an entry, with whether it is returned
abbrev pub with_return : Book → SentEntry → NamedEntry
with_return b e = record { entry = e; returned = is_returned_on b e }

-- what an item names
abbrev pub named_entry_on : Book → ItemFacts → Option NamedEntry
named_entry_on b item = option_map (with_return b) (named_entry b.identity.odfi b.sent item)

-- what a trace names, if it is one
abbrev pub traced_entry : Option (List ℕ) → Book → Option NamedEntry
traced_entry trace b = option_map (with_return b) (option_and_then (λ t. sent_as t b) trace)

abbrev pub traced_entries : List (Option (List ℕ)) → Book → List (Option NamedEntry)
traced_entries traces b = map (λ t. traced_entry t b) traces

-- ---- the resolutions of the items

abbrev pub is_same_entry : SentEntry → SentEntry → Bool
is_same_entry e other = bytes_eq e.company other.company && bytes_eq e.reference other.reference && e.index == other.index

-- whether this is a return of an entry that was returned before the file, or by an earlier item of it
abbrev pub is_repeated_return : List SentEntry → Bool → ResolvedItem → Bool
is_repeated_return earlier before x = is_returned_event x.event && (before || list_any (is_same_entry x.entry) earlier)

abbrev pub unless_repeated : List SentEntry → Bool → Result ResolvedItem SuspenseReason → Result ResolvedItem SuspenseReason
unless_repeated earlier before (Err why) = Err why
unless_repeated earlier before (Ok x) = if is_repeated_return earlier before x then Err AlreadyReturned else Ok x

abbrev pub was_returned : Option NamedEntry → Bool
was_returned None = false
was_returned (Some n) = n.returned

-- the resolution of an item, after others that returned these entries
abbrev pub resolution_after : List SentEntry → ItemFacts → Option NamedEntry → Result ResolvedItem SuspenseReason
resolution_after earlier item found = unless_repeated earlier (was_returned found) (resolve_entry (option_map (λ n. n.entry) found) item)

-- the entry that an item returns
abbrev pub entries_returned_by : Result ResolvedItem SuspenseReason → List SentEntry
entries_returned_by (Err why) = []
entries_returned_by (Ok x) = if is_returned_event x.event then x.entry ∷ [] else []

abbrev pub resolutions_after : List SentEntry → List (ItemFacts × Option NamedEntry) → List (Result ResolvedItem SuspenseReason)
resolutions_after earlier [] = []
resolutions_after earlier (x ∷ more) = resolution_after earlier x.0 x.1 ∷ resolutions_after (entries_returned_by (resolution_after earlier x.0 x.1) ++ earlier) more

-- the resolution of each item of a file, with what it names
abbrev pub resolutions : List (ItemFacts × Option NamedEntry) → List (Result ResolvedItem SuspenseReason)
resolutions xs = resolutions_after [] xs

-- ---- what a file writes

abbrev pub returned_row_of : (holidays : List ℕ) → (day : ℕ) → SentEntry → Event → Option ReturnedRow
returned_row_of holidays d e (Returned reference index code information) = Some (record {
  company = e.company;
  order = e.order;
  row = record { code = code; day = d; index = index; info = information; late = is_late code e.settled d holidays; reference = reference };
})
returned_row_of holidays d e _ = None

abbrev pub returned_row : (holidays : List ℕ) → (day : ℕ) → Result ResolvedItem SuspenseReason → Option ReturnedRow
returned_row holidays d (Ok x) = returned_row_of holidays d x.entry x.event
returned_row holidays d (Err why) = None

abbrev pub changed_row_of : ℕ → SentEntry → Event → Option ChangedRow
changed_row_of d e (Changed reference index code text) = Some (record {
  company = e.company;
  order = e.order;
  row = record { code = code; day = d; index = index; reference = reference; text = text };
})
changed_row_of d e _ = None

abbrev pub changed_row : ℕ → Result ResolvedItem SuspenseReason → Option ChangedRow
changed_row d (Ok x) = changed_row_of d x.entry x.event
changed_row d (Err why) = None

-- what an intake reads of the book, its day, and its file
pub record IntakeFacts : Type 0 where
  pub day : ℕ
  pub holidays : List ℕ
  pub key : List ℕ
  pub digest : List ℕ
  -- each item with what its trace names
  pub items : List (ItemFacts × Option NamedEntry)

abbrev pub counts : IntakeFacts → Intake
counts x = intake_of x.holidays x.day (resolutions x.items)

abbrev pub intake_write : IntakeFacts → IntakeWrite
intake_write x =
    let items = map (λ y. y.0) x.items in
    record {
      returned = filter_map (returned_row x.holidays x.day) (resolutions x.items);
      changed = filter_map (changed_row x.day) (resolutions x.items);
      suspense = filter_map (λ y. suspense_row x.key x.day y.0 y.1.0 y.1.1) (enumerate_from 1 (zip items (resolutions x.items)));
      postings = pairs (flat_map (λ y. item_line x.day y.0 y.1) (zip items (resolutions x.items)));
      file = record { key = x.key; digest = x.digest; answer = counts x };
    }

-- ---- an incoming file and the book

abbrev pub intake_facts : Book → ℕ → FileFacts → IntakeFacts
intake_facts b d f = record {
  day = d;
  holidays = b.holidays;
  key = f.key;
  digest = f.digest;
  items = map (λ item. (item, named_entry_on b item)) f.items;
}

-- what is done with a file: it is taken as a new one, answered as the first time, or refused
pub data Taking : Type 0 where
  New : IntakeFacts → Taking
  Again : Intake → Taking
  Refused : CallRefusal → Taking

abbrev pub taking_known : List ℕ → TakenFile → Taking
taking_known digest t = if bytes_eq t.digest digest then Again t.answer else Refused (Rule FileKeyReused)

abbrev pub taking_file : Book → ℕ → FileFacts → Option TakenFile → Taking
taking_file b d f None = New (intake_facts b d f)
taking_file b d f (Some t) = taking_known f.digest t

abbrev pub taking_on : Book → Option ℕ → Result FileFacts Fault → Taking
taking_on b None file = Refused (Rule NoDay)
taking_on b (Some d) (Err fault) = Refused (BadFile fault)
taking_on b (Some d) (Ok f) = taking_file b d f (b.taken f.key)

-- the first of NoDay, BadFile and FileKeyReused, or how the file is taken
abbrev pub taking : Book → Result FileFacts Fault → Taking
taking b file = taking_on b b.day file

abbrev pub taking_answer : Taking → Answer
taking_answer (New x) = intake_answer (Ok (counts x))
taking_answer (Again counts) = intake_answer (Ok counts)
taking_answer (Refused why) = intake_answer (Err why)

abbrev pub with_taking : Taking → Book → Book
with_taking (New x) b = (commit_intake (intake_write x)).after b
with_taking (Again counts) b = b
with_taking (Refused why) b = b

abbrev pub file_answer_on : Result FileFacts Fault → Book → Answer
file_answer_on file b = taking_answer (taking b file)

-- the book after a file; one that was taken before, or is refused, leaves it as it was
abbrev pub file_after : Result FileFacts Fault → Book → Book
file_after file b = with_taking (taking b file) b
