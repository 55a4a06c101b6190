-- A submission's draft as far as it is judged.
use Rattle.std.specs.Prelude.{Bool, false, if◌then◌else◌, is_some, List, [], ◌∷◌, Option, Some, None, option_map}
use Rattle.desk_rules.specs.declared.bodies.draft.Draft.{Draft}
use Rattle.desk_rules.specs.declared.bodies.draft.EntryDraft.{EntryDraft}

-- an entry that names a bank
abbrev pub has_routing : Option EntryDraft → Bool
has_routing None = false
has_routing (Some entry) = is_some entry.routing

-- the entries up to the first that names none, and that one
abbrev pub judged_entries : List (Option EntryDraft) → List (Option EntryDraft)
judged_entries [] = []
judged_entries (d ∷ ds) = d ∷ (if has_routing d then judged_entries ds else [])

-- the draft with these entries
abbrev pub judged_draft : Draft → Draft
judged_draft d = record {
  reference = d.reference;
  sec = d.sec;
  direction = d.direction;
  description = d.description;
  day = d.day;
  entries = option_map judged_entries d.entries;
}
