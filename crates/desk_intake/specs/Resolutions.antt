-- The resolutions of the items of a file, as the values that the plan is made of.
use Rattle.std.specs.Prelude.{◌≡◌, ℕ, List, [], ◌∷◌, ◌++◌, map, Option, Result, Ok, Err, Vec}
use Rattle.std.specs.declared.alloc.Global.{Global}
use Rattle.ach_files.specs.declared.facts.ItemFacts.{ItemFacts}
use Rattle.desk_history.specs.declared.operations.SuspenseReason.{SuspenseReason}
use Rattle.desk_history.specs.declared.sent_entry.SentEntry.{SentEntry}
use Rattle.desk_history.specs.Part.{Event, Returned, Changed}
use Rattle.desk_history.specs.Resolve.{ResolvedItem}
use Rattle.desk_book.specs.declared.named_entry.NamedEntry.{NamedEntry}
use Rattle.desk_book.specs.Book.{Book}
use Rattle.desk_book.specs.OnIntake.{named_entry_on, resolution_after, entries_returned_by, traced_entries}
use Rattle.desk_intake.specs.declared.found_item.FoundItem.{FoundItem}
use Rattle.desk_intake.specs.declared.judged_item.JudgedItem.{JudgedItem}
use Rattle.desk_intake.specs.declared.matched_item.MatchedItem.{MatchedItem}
use Rattle.desk_intake.specs.declared.matched_item.Reaction.{Reaction}
use Rattle.desk_intake.specs.declared.matched_item.Reaction.TheVariants as reactions

-- ---- the items

-- an item, with what its trace names
abbrev pub found_item_as : FoundItem → ItemFacts × Option NamedEntry
found_item_as x = (x.item, x.named)

-- each item, with what its trace names
abbrev pub found_as : Vec FoundItem Global → List (ItemFacts × Option NamedEntry)
found_as found = map found_item_as found.items

-- each item with what its trace names in a book
abbrev pub found_on : List ItemFacts → Book → List (ItemFacts × Option NamedEntry)
found_on items = λ b. map (λ item. (item, named_entry_on b item)) items

-- the traces name what the items name, whatever the book is
abbrev pub AreTracesOf : List ItemFacts → List (Option (List ℕ)) → Type 0
AreTracesOf items traces = (b : Book) → traced_entries traces b ≡ map (named_entry_on b) items

-- ---- their resolutions

abbrev pub event_as : SentEntry → Reaction → Event
event_as e (reactions.Return code information) = Returned e.reference e.index code information
event_as e (reactions.Change code text) = Changed e.reference e.index code text

abbrev pub matched_item_as : MatchedItem → ResolvedItem
matched_item_as x = record { entry = x.entry; event = event_as x.entry x.reaction }

abbrev pub resolution_as : Result MatchedItem SuspenseReason → Result ResolvedItem SuspenseReason
resolution_as (Ok x) = Ok (matched_item_as x)
resolution_as (Err why) = Err why

abbrev pub resolution_of : JudgedItem → Result ResolvedItem SuspenseReason
resolution_of x = resolution_as x.outcome

-- the resolution of an item with the entry that its trace names, after others that returned these entries
abbrev pub found_resolution : List SentEntry → FoundItem → Result ResolvedItem SuspenseReason
found_resolution earlier x = resolution_after earlier x.item x.named

-- an item with this outcome
abbrev pub judged_item : ItemFacts → Result MatchedItem SuspenseReason → JudgedItem
judged_item item outcome = record { item = item; outcome = outcome }

-- an item, with its resolution
abbrev pub judged_as : JudgedItem → ItemFacts × Result ResolvedItem SuspenseReason
judged_as x = (x.item, resolution_of x)

-- each item with its resolution, after others that returned these entries
abbrev pub judged_after : List SentEntry → List (ItemFacts × Option NamedEntry) → List (ItemFacts × Result ResolvedItem SuspenseReason)
judged_after earlier [] = []
judged_after earlier (x ∷ more) =
    (x.0, resolution_after earlier x.0 x.1) ∷ judged_after (entries_returned_by (resolution_after earlier x.0 x.1) ++ earlier) more

-- each item of a file with its resolution
abbrev pub judged_of : List FoundItem → List (ItemFacts × Result ResolvedItem SuspenseReason)
judged_of found = judged_after [] (map found_item_as found)
