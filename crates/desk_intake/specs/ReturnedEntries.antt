-- The entries returned so far.
use Rattle.std.specs.Prelude.{◌≡◌, Bool, not, if◌then◌else◌, List, ◌∷◌, ◌++◌, Result}
use Rattle.std.specs.HashSet.{contains}
use Rattle.std.specs.List.{list_any}
use Rattle.desk_history.specs.declared.operations.SuspenseReason.{SuspenseReason}
use Rattle.desk_history.specs.declared.sent_entry.SentEntry.{SentEntry}
use Rattle.desk_history.specs.Resolve.{ResolvedItem}
use Rattle.desk_book.specs.OnIntake.{entries_returned_by, is_same_entry}
use Rattle.desk_intake.specs.EntryKeys.{is_same_key}
use Rattle.desk_intake.specs.declared.returned_entries.ReturnedEntries.{ReturnedEntries}
use Rattle.desk_intake.specs.declared.returned_entries.EntryKey.{EntryKey}

abbrev pub key_of : SentEntry → EntryKey
key_of e = record { company = e.company; reference = e.reference; index = e.index }

-- the entries whose keys it has are these
abbrev pub HasEntries : ReturnedEntries → List SentEntry → Type 0
HasEntries s es = (x : SentEntry) → contains is_same_key s.keys (key_of x) ≡ list_any (is_same_entry x) es

-- the entry is added, and the result reports whether it is new
abbrev pub AddsEntry : (old new : ReturnedEntries) → SentEntry → (is_new : Bool) → Type 0
AddsEntry old new e is_new =
    (es : List SentEntry) → HasEntries old es → (is_new ≡ not (list_any (is_same_entry e) es)) × HasEntries new (if is_new then e ∷ es else es)

-- The resolution of an item is this, after these returned entries; if it returns its entry, that entry is added.
abbrev pub Resolves : (old new : ReturnedEntries) → (List SentEntry → Result ResolvedItem SuspenseReason) → Result ResolvedItem SuspenseReason → Type 0
Resolves old new resolution r =
    (es : List SentEntry) → HasEntries old es → (r ≡ resolution es) × HasEntries new (entries_returned_by r ++ es)
