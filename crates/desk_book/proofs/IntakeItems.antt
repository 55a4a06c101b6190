-- The effect of a file's items on a company, one after another.
use Rattle.std.proofs.Common.{◌≡◌, ℕ, List, [], ◌∷◌, ◌++◌, Bool, true, false, not, ◌&&◌, refl, sym, ap, ◌∙◌, subst, append_assoc, inl, inr}
use Rattle.std.specs.Prelude.{if◌then◌else◌, fold, filter_map, Option, Some, None, Result, Ok, Err, bytes_eq}
use Rattle.std.specs.List.{cons_option}
use Rattle.std.proofs.lemmas.Bool.{cases_Bool}
use Rattle.std.proofs.lemmas.Slice.Eq.{bytes_eq-Decides}
use Rattle.ach_files.specs.declared.facts.ItemFacts.{ItemFacts}
use Rattle.desk_history.specs.declared.operations.SuspenseReason.{SuspenseReason}
use Rattle.desk_history.specs.declared.operations.SuspenseReason.TheVariants.{AlreadyReturned}
use Rattle.desk_history.specs.declared.sent_entry.SentEntry.{SentEntry}
use Rattle.desk_history.specs.Part.{Event, holidays, today}
use Rattle.desk_history.specs.Possible.{IsPossible}
use Rattle.desk_history.specs.Resolve.{ResolvedItem, event_of, resolve, is_repeated_return, item_event, item_events, resolution, resolutions}
use Rattle.desk_history.specs.SentLaws.{IsEntryOf}
use Rattle.desk_history.proofs.Sent.PartsPossible.{AreEntriesOf, entries_kept, names_entry}
use Rattle.desk_history.proofs.Sent.Resolving.{meets, items_keep}

-- ---- one item after another

-- a step, if an item has a row for it
abbrev pub step_by : {A R : Type 0} → (A → R → A) → A → Option R → A
step_by step a None = a
step_by step a (Some row) = step a row

-- the company's part before an item
pub record IsBefore (c : List ℕ) (es : List SentEntry) (d : ℕ) (days : List ℕ) (P : List Event) : Type 0 where
  pub entries : AreEntriesOf c P es
  pub day : today P ≡ d
  pub holidays : holidays P ≡ days

-- where an event of the company makes the step of its row, and the rows of others make none
pub record StepsWith {A R : Type 0} (c : List ℕ) (f : List Event → A) (row : Result ResolvedItem SuspenseReason → Option R) (step : A → R → A) (d : ℕ) (days : List ℕ) : Type 0 where
  pub none : (why : SuspenseReason) → row (Err why) ≡ None
  pub own : (P : List Event) (x : ResolvedItem) (item : ItemFacts) → event_of x.entry item ≡ Some x.event → x.entry.company ≡ c
      → IsEntryOf P x.entry → today P ≡ d → holidays P ≡ days → IsPossible (x.event ∷ P)
      → f (x.event ∷ P) ≡ step_by step (f P) (row (Ok x))
  pub other : (a : A) (x : ResolvedItem) (item : ItemFacts) → event_of x.entry item ≡ Some x.event → bytes_eq x.entry.company c ≡ false → step_by step a (row (Ok x)) ≡ a

module _ {A R : Type 0} (c : List ℕ) (f : List Event → A) (row : Result ResolvedItem SuspenseReason → Option R) (step : A → R → A) (d : ℕ) (days : List ℕ) (each : StepsWith c f row step d days)
    (odfi : List ℕ) (es : List SentEntry) where
  item_steps : (item : ItemFacts) (parts : List ℕ → List Event) → IsBefore c es d days (parts c)
      → IsPossible (item_event c (parts c) (resolve odfi es item) ++ parts c)
      → f (item_event c (parts c) (resolve odfi es item) ++ parts c) ≡ step_by step (f (parts c)) (row (resolution parts (resolve odfi es item)))
  item_steps item parts before = by (resolve odfi es item) refl where
    refused : (why : SuspenseReason) → f (parts c) ≡ step_by step (f (parts c)) (row (Err why))
    refused why = ap (step_by step (f (parts c))) (sym (each.none why))

    own : (x : ResolvedItem) → resolve odfi es item ≡ Ok x → bytes_eq x.entry.company c ≡ true → (t : Bool) → is_repeated_return (parts c) x.event ≡ t
        → IsPossible ((if true && not t then x.event ∷ [] else []) ++ parts c)
        → f ((if true && not t then x.event ∷ [] else []) ++ parts c) ≡ step_by step (f (parts c)) (row (if t then Err AlreadyReturned else Ok x))
    own x is same true again possible = refused AlreadyReturned
    own x is same false first possible =
        let meeting = meets odfi es item x is in
        each.own (parts c) x item meeting.gives ((bytes_eq-Decides x.entry.company c).0 same)
        (names_entry c (parts c) odfi es item x (record { meeting = meeting; own = same; first = first }) before.entries)
        before.day before.holidays possible

    other : (x : ResolvedItem) → resolve odfi es item ≡ Ok x → bytes_eq x.entry.company c ≡ false → (t : Bool)
        → f (parts c) ≡ step_by step (f (parts c)) (row (if t then Err AlreadyReturned else Ok x))
    other x is differ true = refused AlreadyReturned
    other x is differ false = sym (each.other (f (parts c)) x item (meets odfi es item x is).gives differ)

    by : (r : Result ResolvedItem SuspenseReason) → resolve odfi es item ≡ r → IsPossible (item_event c (parts c) r ++ parts c)
        → f (item_event c (parts c) r ++ parts c) ≡ step_by step (f (parts c)) (row (resolution parts r))
    by (Err why) is possible = refused why
    by (Ok x) is possible =
        let given : Bool → List Event = λ t. (if t && not (is_repeated_return (parts c) x.event) then x.event ∷ [] else []) ++ parts c in
        elim (cases_Bool (bytes_eq x.entry.company c)) [
          | inl same ↦
              ap (λ (t : Bool). f (given t)) same
              ∙ own x is same (is_repeated_return (parts c) x.event) refl (subst (λ (t : Bool). IsPossible (given t)) same possible)
              ∙ ap (λ (k : List ℕ). step_by step (f (parts c)) (row (if is_repeated_return (parts k) x.event then Err AlreadyReturned else Ok x))) (sym ((bytes_eq-Decides x.entry.company c).0 same))
          | inr differ ↦
              ap (λ (t : Bool). f (given t)) differ
              ∙ other x is differ (is_repeated_return (parts x.entry.company) x.event)
        ]

  -- what is before an event of a possible part is possible
  possible_before : (more P : List Event) → IsPossible (more ++ P) → IsPossible P
  possible_before [] P possible = possible
  possible_before (e ∷ more) P possible = possible_before more P possible.1

  before_next : (item : ItemFacts) (P : List Event) → IsBefore c es d days P → IsBefore c es d days (item_event c P (resolve odfi es item) ++ P)
  before_next item P before = record {
    entries = entries_kept (item_event c P (resolve odfi es item)) c P es before.entries;
    day = items_keep today (λ _ _ _ _ _. refl) (λ _ _ _ _ _. refl) odfi es c (item ∷ []) P ∙ before.day;
    holidays = items_keep holidays (λ _ _ _ _ _. refl) (λ _ _ _ _ _. refl) odfi es c (item ∷ []) P ∙ before.holidays;
  }

  one_first : (a : A) (o : Option R) (more : List R) → fold step a (cons_option o more) ≡ fold step (step_by step a o) more
  one_first a None more = refl
  one_first a (Some row) more = refl

  pub items_step : (items : List ItemFacts) (parts : List ℕ → List Event) → IsBefore c es d days (parts c)
      → IsPossible (item_events odfi es c items (parts c) ++ parts c)
      → f (item_events odfi es c items (parts c) ++ parts c) ≡ fold step (f (parts c)) (filter_map row (resolutions odfi es parts items))
  items_step [] parts before possible = refl
  items_step (item ∷ items) parts before possible =
      let r = resolve odfi es item in
      let next : List ℕ → List Event = λ k. item_event k (parts k) r ++ parts k in
      let behind = append_assoc (item_events odfi es c items (next c)) (item_event c (parts c) r) (parts c) in
      let rest : IsPossible (item_events odfi es c items (next c) ++ next c) = subst IsPossible behind possible in
      let more = filter_map row (resolutions odfi es next items) in
      ap f behind
      ∙ items_step items next (before_next item (parts c) before) rest
      ∙ ap (λ (a : A). fold step a more) (item_steps item parts before (possible_before (item_events odfi es c items (next c)) (next c) rest))
      ∙ sym (one_first (f (parts c)) (row (resolution parts r)) more)
