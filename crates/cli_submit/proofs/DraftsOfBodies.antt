-- The drafts that the desk reads from the bodies of messages.
use Rattle.std.proofs.Common.{◌≡◌, ℕ, Bool, true, false, List, [], ◌∷◌, map, Option, Some, None, refl}
use Rattle.serde_json.proofs.OnLiterals.{serde_json_on_literals}
use Rattle.http_json.specs.Drafts.{entry_draft_of, entry_drafts_of}
use Rattle.cli_submit.specs.Bodies.{entry_data, entry_items}
use Rattle.cli_submit.specs.Laws.{BodiesAreDrafts, entry_draft}
use Rattle.cli_submit.specs.Rows.{EntryTexts}

entry_is_draft : (e : EntryTexts) (info : Option (List ℕ)) (p : Bool)
    → entry_draft_of (entry_data (record e { info = info; is_prenote = p })) ≡ Some (entry_draft (record e { info = info; is_prenote = p }))
unfolding serde_json_on_literals
entry_is_draft e None false = refl
entry_is_draft e None true = refl
entry_is_draft e (Some i) false = refl
entry_is_draft e (Some i) true = refl

entries_are_drafts : (es : List EntryTexts) → entry_drafts_of (entry_items es) ≡ map (λ e. Some (entry_draft e)) es
entries_are_drafts [] = refl
entries_are_drafts (e ∷ es) = rw (entry_is_draft e e.info e.is_prenote, entries_are_drafts es) refl

pub bodies_are_drafts : BodiesAreDrafts
unfolding serde_json_on_literals
bodies_are_drafts o entries = rw (entries_are_drafts entries) refl
