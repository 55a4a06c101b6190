-- What the desk took from incoming files: which file is new, the counts of its answer, and the items in suspense.
use Rattle.std.specs.Prelude.{ℕ, Bool, true, false, not, ◌&&◌, if◌then◌else◌, List, [], ◌∷◌, ◌++◌, count_by, filter_map, find, zip, Option, Some, None, unwrap_or, Result, Ok, Err, bytes_eq}
use Rattle.std.specs.List.{enumerate_from}
use Rattle.ach_files.specs.declared.facts.ItemFacts.{ItemFacts}
use Rattle.ach_files.specs.declared.fault.Fault.{Fault}
use Rattle.ach_files.specs.Facts.{FileFacts}
use Rattle.desk_rules.specs.declared.refusals.refusal.Refusal.TheVariants.{NoDay, FileKeyReused}
use Rattle.desk_rules.specs.Deadlines.{is_late}
use Rattle.desk_history.specs.declared.answer.CallRefusal.{CallRefusal}
use Rattle.desk_history.specs.declared.answer.CallRefusal.TheVariants.{Rule, BadFile}
use Rattle.desk_history.specs.declared.operations.Intake.{Intake}
use Rattle.desk_history.specs.declared.operations.SuspenseRow.{SuspenseRow}
use Rattle.desk_history.specs.declared.operations.TakenFile.{TakenFile}
use Rattle.desk_history.specs.declared.operations.SuspenseReason.{SuspenseReason}
use Rattle.desk_history.specs.Part.{Event, Returned}
use Rattle.desk_history.specs.Message.{Message, TakeFile, Pair, is_accepted}
use Rattle.desk_history.specs.Resolve.{ResolvedItem, is_return, resolutions}
use Rattle.desk_history.specs.History.{day, holidays, is_new_file, part, sent_entries}

-- the resolution of each item of a file after the history
abbrev pub resolutions_of : List ℕ → List Pair → List ItemFacts → List (Result ResolvedItem SuspenseReason)
resolutions_of odfi H items = resolutions odfi (sent_entries odfi H) (part odfi H) items

-- ---- the counts

abbrev pub is_event : Result ResolvedItem SuspenseReason → Bool
is_event (Ok x) = true
is_event (Err why) = false

abbrev pub is_returned_event : Event → Bool
is_returned_event (Returned reference index code information) = true
is_returned_event _ = false

-- an entry was returned
abbrev pub is_return_taken : Result ResolvedItem SuspenseReason → Bool
is_return_taken (Err why) = false
is_return_taken (Ok x) = is_returned_event x.event

abbrev pub is_late_event : (holidays : List ℕ) → (day : ℕ) → (settled : ℕ) → Event → Bool
is_late_event holidays d settled (Returned reference index code information) = is_late code settled d holidays
is_late_event holidays d settled _ = false

-- a return that was taken after its deadline
abbrev pub is_late_return : (holidays : List ℕ) → (day : ℕ) → Result ResolvedItem SuspenseReason → Bool
is_late_return holidays d (Err why) = false
is_late_return holidays d (Ok x) = is_late_event holidays d x.entry.settled x.event

-- the answer of a new file
abbrev pub intake_of : (holidays : List ℕ) → (day : ℕ) → List (Result ResolvedItem SuspenseReason) → Intake
intake_of holidays d os = record {
  changes = count_by (λ o. is_event o && not (is_return_taken o)) os;
  day = d;
  late = count_by (is_late_return holidays d) os;
  returns = count_by is_return_taken os;
  suspense = count_by (λ o. not (is_event o)) os;
}

-- ---- the files that were taken

abbrev pub taken_file : (odfi : List ℕ) → List Pair → (day : ℕ) → FileFacts → TakenFile
taken_file odfi H d f = record { key = f.key; digest = f.digest; answer = intake_of (holidays H) d (resolutions_of odfi H f.items) }

abbrev pub if_new : List Pair → FileFacts → Option FileFacts
if_new H f = if is_new_file H f.key then Some f else None

abbrev pub file_in : List Pair → Message → Option FileFacts
file_in H (TakeFile (Ok f)) = if_new H f
file_in H _ = None

-- the new file that a pair takes after the history
abbrev pub new_file : List Pair → Pair → Option FileFacts
new_file H x = if is_accepted x.answer then file_in H x.message else None

abbrev pub with_taken_file : List ℕ → List Pair → Option FileFacts → List TakenFile → List TakenFile
with_taken_file odfi H None before = before
with_taken_file odfi H (Some f) before = before ++ taken_file odfi H (unwrap_or (day H) 0) f ∷ []

-- one for each accepted new file, in order
abbrev pub taken_files : List ℕ → List Pair → List TakenFile
taken_files odfi [] = []
taken_files odfi (x ∷ H) = with_taken_file odfi H (new_file H x) (taken_files odfi H)

abbrev pub has_key : List ℕ → TakenFile → Bool
has_key key t = bytes_eq t.key key

-- a file that was taken before answers as the first time, and its key with another digest is refused
abbrev pub intake_unless_known : (odfi : List ℕ) → List Pair → (day : ℕ) → FileFacts → Option TakenFile → Result Intake CallRefusal
intake_unless_known odfi H d f None = Ok (taken_file odfi H d f).answer
intake_unless_known odfi H d f (Some t) = if bytes_eq t.digest f.digest then Ok t.answer else Err (Rule FileKeyReused)

abbrev pub intake_on_day : (odfi : List ℕ) → List Pair → Option ℕ → Result FileFacts Fault → Result Intake CallRefusal
intake_on_day odfi H None file = Err (Rule NoDay)
intake_on_day odfi H (Some d) (Err fault) = Err (BadFile fault)
intake_on_day odfi H (Some d) (Ok f) = intake_unless_known odfi H d f (find (has_key f.key) (taken_files odfi H))

-- the counts of a file, or the first of NoDay, BadFile and FileKeyReused
abbrev pub take_file : List ℕ → List Pair → Result FileFacts Fault → Result Intake CallRefusal
take_file odfi H file = intake_on_day odfi H (day H) file

-- ---- suspense

-- the money that an item in suspense moves: none for a change
abbrev pub suspense_cents : ItemFacts → ℕ
suspense_cents item = if is_return item then item.cents else 0

abbrev pub suspense_row : (key : List ℕ) → (day : ℕ) → (number : ℕ) → ItemFacts → Result ResolvedItem SuspenseReason → Option SuspenseRow
suspense_row key d number item (Ok x) = None
suspense_row key d number item (Err why) = Some (record {
  cents = suspense_cents item;
  code = item.code;
  day = d;
  file = key;
  item = number;
  trace = item.original_trace;
  why = why;
})

-- the items of a new file that give no event, each with its number in the file, from 1
abbrev pub suspense_of : List ℕ → List Pair → Option FileFacts → List SuspenseRow
suspense_of odfi H None = []
suspense_of odfi H (Some f) =
    filter_map (λ x. suspense_row f.key (unwrap_or (day H) 0) x.0 x.1.0 x.1.1) (enumerate_from 1 (zip f.items (resolutions_of odfi H f.items)))

-- the items in suspense, in order
abbrev pub suspense : List ℕ → List Pair → List SuspenseRow
suspense odfi [] = []
suspense odfi (x ∷ H) = suspense odfi H ++ suspense_of odfi H (new_file H x)
