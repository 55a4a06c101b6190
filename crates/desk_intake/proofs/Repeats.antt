-- Whether an item returns an entry again.
use Rattle.std.proofs.Common.{◌≡◌, ◌∙◌, sym, refl, List, [], ◌∷◌, ◌++◌, Bool, true, false, Ok, Err}
use Rattle.std.specs.Prelude.{if◌then◌else◌, not}
use Rattle.std.specs.List.{list_any}
use Rattle.desk_history.specs.declared.operations.SuspenseReason.TheVariants.{AlreadyReturned}
use Rattle.desk_history.specs.declared.sent_entry.SentEntry.{SentEntry}
use Rattle.desk_history.specs.Intake.{is_returned_event}
use Rattle.desk_history.specs.Resolve.{ResolvedItem}
use Rattle.desk_book.specs.OnIntake.{entries_returned_by, is_same_entry, unless_repeated}

module _ (x : ResolvedItem) (es : List SentEntry) (P : List SentEntry → Type 0) where
  -- an entry that is new among those returned is returned
  pub returned_first : (before is_new : Bool) → before ≡ false → is_returned_event x.event ≡ true → is_new ≡ true → is_new ≡ not (list_any (is_same_entry x.entry) es)
      → P (if is_new then x.entry ∷ es else es) → (Ok x ≡ unless_repeated es before (Ok x)) × P (entries_returned_by (Ok x) ++ es)
  returned_first before is_new early is new told held = go (list_any (is_same_entry x.entry) es) refl where
    go : (seen : Bool) → list_any (is_same_entry x.entry) es ≡ seen → (Ok x ≡ unless_repeated es before (Ok x)) × P (entries_returned_by (Ok x) ++ es)
    go true seen = absurd (cc)
    go false seen = (rw (early, is, seen) refl, rw (is) (rw (new) at held))

  -- one that is there is not
  pub returned_again : (before is_new : Bool) → before ≡ false → is_returned_event x.event ≡ true → is_new ≡ false → is_new ≡ not (list_any (is_same_entry x.entry) es)
      → P (if is_new then x.entry ∷ es else es) → (Err AlreadyReturned ≡ unless_repeated es before (Ok x)) × P es
  returned_again before is_new early is new told held = go (list_any (is_same_entry x.entry) es) refl where
    go : (seen : Bool) → list_any (is_same_entry x.entry) es ≡ seen → (Err AlreadyReturned ≡ unless_repeated es before (Ok x)) × P es
    go true seen = (rw (early, is, seen) refl, rw (new) at held)
    go false seen = absurd (cc)
