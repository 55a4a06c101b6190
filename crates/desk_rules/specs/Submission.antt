-- Which submission a draft is, or its first bad field.
use Rattle.std.specs.Prelude.{ℕ, ◌+◌, List, [], ◌∷◌, Option, Some, None, option_and_then, Result, Ok, Err}
use Rattle.std.specs.Result.{result_ok}
use Rattle.ach_fields.specs.Names.{reference_of}
use Rattle.ach_fields.specs.Text.{short_text_of}
use Rattle.desk_rules.specs.Chain.{◌>>=◌, good}
use Rattle.ach_fields.specs.Routing.{routing_of}
use Rattle.bank_days.specs.Day.{day_of}
use Rattle.desk_rules.specs.Fields.{sec_of, direction_of, kind_of, text_of, description_of, optional_of, prenote_of, entry_cents_of}
use Rattle.desk_rules.specs.declared.bodies.draft.Draft.{Draft}
use Rattle.desk_rules.specs.declared.bodies.draft.EntryDraft.{EntryDraft}
use Rattle.desk_rules.specs.declared.bodies.submission.Entry.{Entry}
use Rattle.desk_rules.specs.declared.bodies.submission.Submission.{Submission}
use Rattle.desk_rules.specs.declared.refusals.refusal.Refusal.{Refusal}
use Rattle.desk_rules.specs.declared.refusals.refusal.Refusal.TheVariants.{BadField}
use Rattle.desk_rules.specs.declared.refusals.refusal.Field.TheVariants as field

-- the entry that a draft describes; the number is its place, from 1
abbrev pub entry_of : ℕ → Option EntryDraft → Result Entry Refusal
entry_of i None = Err (BadField field.Entries i)
entry_of i (Some d) = do
  routing ← good field.Routing i (option_and_then (λ s. result_ok (routing_of s)) d.routing)
  account ← good field.Account i (option_and_then (text_of 17) d.account)
  kind ← good field.Kind i (option_and_then kind_of d.kind)
  prenote ← good field.Prenote i (prenote_of d.prenote)
  cents ← good field.Cents i (option_and_then (entry_cents_of prenote) d.cents)
  id ← good field.Id i (option_and_then (λ s. result_ok (short_text_of 15 s)) d.id)
  name ← good field.Name i (option_and_then (text_of 22) d.name)
  info ← good field.Info i (optional_of (text_of 80) d.info)
  Ok (record { routing = routing; account = account; kind = kind; prenote = prenote; cents = cents; id = id; name = name; info = info })

-- the entries that drafts describe; the first one has this number
abbrev pub entries_of : ℕ → List (Option EntryDraft) → Result (List Entry) Refusal
entries_of i [] = Ok []
entries_of i (d ∷ ds) = do
  e ← entry_of i d
  es ← entries_of (i + 1) ds
  Ok (e ∷ es)

-- a list of at least one
abbrev pub some_of : {A : Type 0} → List A → Option (List A)
some_of [] = None
some_of (x ∷ xs) = Some (x ∷ xs)

-- the submission of a draft, or its first bad field
abbrev pub submission_of : Draft → Result Submission Refusal
submission_of d = do
  reference ← good field.Reference 0 (option_and_then (λ s. result_ok (reference_of s)) d.reference)
  sec ← good field.Sec 0 (option_and_then sec_of d.sec)
  direction ← good field.Direction 0 (option_and_then direction_of d.direction)
  description ← good field.Description 0 (option_and_then description_of d.description)
  day ← good field.Day 0 (option_and_then day_of d.day)
  drafts ← good field.Entries 0 (option_and_then some_of d.entries)
  entries ← entries_of 1 drafts
  Ok (record { reference = reference; sec = sec; direction = direction; description = description; day = day; entries = entries })
