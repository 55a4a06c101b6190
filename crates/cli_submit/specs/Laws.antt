-- How the desk reads a message's body.
use Rattle.std.specs.Prelude.{◌≡◌, Bool, true, false, List, map, Option, Some, None}
use Rattle.http_json.specs.Drafts.{submission_draft_of}
use Rattle.desk_rules.specs.declared.bodies.draft.Draft.{Draft}
use Rattle.desk_rules.specs.declared.bodies.draft.EntryDraft.{EntryDraft}
use Rattle.desk_rules.specs.declared.bodies.draft.Optional.{Optional}
use Rattle.desk_rules.specs.declared.bodies.draft.Optional.TheVariants.{Absent, Given}
use Rattle.cli_submit.specs.Bodies.{body_data}
use Rattle.cli_submit.specs.Options.{OptionTexts}
use Rattle.cli_submit.specs.Rows.{EntryTexts}

-- what is there, or was left out
abbrev pub optional_of : {A : Type 0} → Option A → Optional A
optional_of None = Absent
optional_of (Some x) = Given x

-- the mark of a prenote, which other entries leave out
abbrev pub prenote_of : Bool → Optional Bool
prenote_of false = Absent
prenote_of true = Given true

-- a row's entry as a draft
abbrev pub entry_draft : EntryTexts → EntryDraft
entry_draft e = record {
  routing = Some e.routing;
  account = Some e.account;
  kind = Some e.kind;
  prenote = prenote_of e.is_prenote;
  cents = Some e.cents;
  id = Some e.id;
  name = Some e.name;
  info = optional_of e.info;
}

-- the submission of these entries as a draft
abbrev pub draft : OptionTexts → List EntryTexts → Draft
draft o entries = record {
  reference = Some o.reference;
  sec = Some o.sec;
  direction = Some o.direction;
  description = Some o.description;
  day = Some o.day;
  entries = Some (map (λ e. Some (entry_draft e)) entries);
}

-- the draft that is read from a body is that of the options and the entries
abbrev pub BodiesAreDrafts : Type 0
BodiesAreDrafts = (o : OptionTexts) (entries : List EntryTexts) → submission_draft_of (body_data o entries) ≡ draft o entries
