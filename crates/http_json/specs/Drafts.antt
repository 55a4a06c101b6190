-- The drafts that JSON objects are, each field under its key.
use Rattle.std.specs.Prelude.{◌≢◌, ◌⊎◌, Any, IsSome, IsSomeAnd, ℕ, List, [], ◌∷◌, Option, Some, None, option_map, option_and_then}
use Rattle.serde_json.specs.Data.{Data, Items, no_items, item}
use Rattle.serde_json.specs.Find.{get, as_str, as_bool, as_number, as_u64, as_array, as_object}
use Rattle.desk_rules.specs.declared.bodies.draft.CompanyDraft.{CompanyDraft}
use Rattle.desk_rules.specs.declared.bodies.draft.Draft.{Draft}
use Rattle.desk_rules.specs.declared.bodies.draft.EntryDraft.{EntryDraft}
use Rattle.desk_rules.specs.declared.bodies.draft.LimitDrafts.{LimitDrafts}
use Rattle.desk_rules.specs.declared.bodies.draft.LimitsDraft.{LimitsDraft}
use Rattle.desk_rules.specs.declared.bodies.draft.RetryDraft.{RetryDraft}
use Rattle.desk_rules.specs.declared.bodies.draft.Optional.{Optional}
use Rattle.desk_rules.specs.declared.bodies.draft.Optional.TheVariants.{Absent, Wrong, Given}
use Rattle.desk_rules.specs.declared.refusals.refusal.Field.{Field}
use Rattle.desk_rules.specs.declared.refusals.refusal.Field.TheVariants as field
use Rattle.http_json.specs.FieldKeys.{key_of}

-- the value under a field's key
abbrev pub value_at : Field → Data → Option Data
value_at f d = get (key_of f) d

-- the text there
abbrev pub text_at : Field → Data → Option (List ℕ)
text_at f d = option_and_then as_str (value_at f d)

-- the whole number there
abbrev pub number_at : Field → Data → Option ℕ
number_at f d = option_and_then as_u64 (option_and_then as_number (value_at f d))

-- a value that was found, of the right kind or another
abbrev pub given_or_wrong : {A : Type 0} → Option A → Optional A
given_or_wrong None = Wrong
given_or_wrong (Some x) = Given x

-- a value that may be left out, which `read` takes if it is of the right kind
abbrev pub optional_from : {A : Type 0} → (read : Data → Option A) → (found : Option Data) → Optional A
optional_from read None = Absent
optional_from read (Some v) = given_or_wrong (read v)

-- the entry that a value is, if it is an object
abbrev pub entry_draft_of : Data → Option EntryDraft
entry_draft_of d = option_map (λ _. record {
  routing = text_at field.Routing d;
  account = text_at field.Account d;
  kind = text_at field.Kind d;
  prenote = optional_from as_bool (value_at field.Prenote d);
  cents = number_at field.Cents d;
  id = text_at field.Id d;
  name = text_at field.Name d;
  info = optional_from as_str (value_at field.Info d);
}) (as_object d)

-- the entries that values are
abbrev pub entry_drafts_of : Items → List (Option EntryDraft)
entry_drafts_of no_items = []
entry_drafts_of (item d ds) = entry_draft_of d ∷ entry_drafts_of ds

-- the list of entries under its key
abbrev pub entries_at : Data → Option (List (Option EntryDraft))
entries_at d = option_map entry_drafts_of (option_and_then as_array (value_at field.Entries d))

-- the submission that an object is
abbrev pub submission_draft_of : Data → Draft
submission_draft_of d = record {
  reference = text_at field.Reference d;
  sec = text_at field.Sec d;
  direction = text_at field.Direction d;
  description = text_at field.Description d;
  day = text_at field.Day d;
  entries = entries_at d;
}

-- the same with these entries
abbrev pub draft_with : Option (List (Option EntryDraft)) → Data → Draft
draft_with entries d = record {
  reference = text_at field.Reference d;
  sec = text_at field.Sec d;
  direction = text_at field.Direction d;
  description = text_at field.Description d;
  day = text_at field.Day d;
  entries = entries;
}

-- the retry that an object is
abbrev pub retry_draft_of : Data → RetryDraft
retry_draft_of d = record {
  reference = text_at field.Reference d;
  of = text_at field.Of d;
  index = number_at field.Index d;
  day = text_at field.Day d;
  authorized = optional_from as_str (value_at field.Authorized d);
}

-- the three limits that an object has
abbrev pub limit_drafts_of : Data → LimitDrafts
limit_drafts_of d = record {
  entry = number_at field.EntryLimit d;
  credit = number_at field.CreditLimit d;
  debit = number_at field.DebitLimit d;
}

-- the company that an object is, with the digest of its key
abbrev pub company_draft_of : List ℕ → Data → CompanyDraft
company_draft_of digest d = record {
  id = text_at field.Id d;
  name = text_at field.Name d;
  key = text_at field.Key d;
  limits = limit_drafts_of d;
  digest = digest;
}

-- the new limits that an object is
abbrev pub limits_draft_of : Data → LimitsDraft
limits_draft_of d = record { id = text_at field.Id d; limits = limit_drafts_of d }

-- An object has a text under one of these keys. It is copied, so only then can memory run out.
abbrev pub HasText : List Field → Data → Type 0
HasText fields d = Any (λ f. IsSome (text_at f d)) fields

-- a submission has an entry
abbrev pub HasEntry : Data → Type 0
HasEntry d = IsSomeAnd (entries_at d) (λ drafts. drafts ≢ [])

-- the keys under which a submission has texts
abbrev pub submission_texts : List Field
submission_texts = field.Reference ∷ field.Sec ∷ field.Direction ∷ field.Description ∷ field.Day ∷ []

-- and a retry
abbrev pub retry_texts : List Field
retry_texts = field.Reference ∷ field.Of ∷ field.Day ∷ field.Authorized ∷ []

-- and a company
abbrev pub company_texts : List Field
company_texts = field.Id ∷ field.Name ∷ field.Key ∷ []

-- A submission has a text or an entry, which is copied, so that only then memory can run out.
abbrev pub HasTextOrEntry : Data → Type 0
HasTextOrEntry d = HasText submission_texts d ⊎ HasEntry d
