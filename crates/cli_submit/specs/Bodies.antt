-- The submission in a message's body, as JSON with its keys in byte order.
use Rattle.std.specs.Prelude.{◌≡◌, ℕ, Bool, true, false, List, [], ◌∷◌, ◌++◌, Option, Some, None, codes, map, String, Vec}
use Rattle.std.specs.declared.alloc.Global.{Global}
use Rattle.serde_json.specs.Data.{Data, Items, Members, array, boolean, member, no_members, number, object, put, string, unsigned}
use Rattle.serde_json.specs.View.{items_of, items_view, members_view, view}
use Rattle.serde_json.specs.declared.value.Value.{Value}
use Rattle.cli_submit.specs.Options.{OptionTexts}
use Rattle.cli_submit.specs.Rows.{EntryTexts, entry_of}
use Rattle.cli_submit.specs.declared.row.RowEntry.{RowEntry}

-- the information under its key, if there is any
abbrev pub with_info : Option (List ℕ) → Members → Members
with_info None ms = ms
with_info (Some info) ms = member (codes "info") (string info) ms

-- the mark of a prenote, if it is one
abbrev pub with_prenote : Bool → Members → Members
with_prenote false ms = ms
with_prenote true ms = member (codes "prenote") (boolean true) ms

-- an entry
abbrev pub entry_data : EntryTexts → Data
entry_data e = object
    (member (codes "account") (string e.account)
    (member (codes "cents") (number (unsigned e.cents))
    (member (codes "id") (string e.id)
    (with_info e.info
    (member (codes "kind") (string e.kind)
    (member (codes "name") (string e.name)
    (with_prenote e.is_prenote
    (member (codes "routing") (string e.routing) no_members))))))))

-- the list of entries
abbrev pub entry_items : List EntryTexts → Items
entry_items entries = items_of (map entry_data entries)

-- the submission of these items
abbrev pub body_with : OptionTexts → (entries : Items) → Data
body_with o entries = object
    (member (codes "day") (string o.day)
    (member (codes "description") (string o.description)
    (member (codes "direction") (string o.direction)
    (member (codes "entries") (array entries)
    (member (codes "ref") (string o.reference)
    (member (codes "sec") (string o.sec) no_members))))))

-- the submission of these entries
abbrev pub body_data : OptionTexts → List EntryTexts → Data
body_data o entries = body_with o (entry_items entries)

-- ---- of the values that the program makes

-- a member was put among the members of an object
abbrev pub Puts : (key : List ℕ) → Data → (old new : List (String Global × Value)) → Type 0
Puts key d old new = members_view new ≡ put key d (members_view old)

-- the values are these entries
abbrev pub AreEntries : Vec Value Global → List EntryTexts → Type 0
AreEntries values entries = items_view values.items ≡ entry_items entries

-- an entry was put after those that the values were
abbrev pub AddsEntry : RowEntry → (old new : Vec Value Global) → Type 0
AddsEntry entry old new = map view new.items ≡ map view old.items ++ entry_data (entry_of entry) ∷ []
