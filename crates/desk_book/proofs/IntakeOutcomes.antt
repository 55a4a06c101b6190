-- The resolutions of a file's items, by the entries that they name and the entries that are returned.
use Rattle.std.proofs.Common.{◌≡◌, ℕ, List, [], ◌∷◌, ◌++◌, map, Bool, true, false, not, ◌&&◌, ◌||◌, ◌==◌, refl, sym, ap, ◌∙◌, inl, inr}
use Rattle.std.specs.Prelude.{if◌then◌else◌, Option, Some, None, option_map, is_some, Result, Ok, Err, bytes_eq}
use Rattle.std.specs.List.{list_any}
use Rattle.std.proofs.lemmas.Bool.{cases_Bool}
use Rattle.std.proofs.lemmas.Slice.Eq.{bytes_eq-Decides}
use Rattle.ach_files.specs.declared.facts.ItemFacts.{ItemFacts}
use Rattle.desk_history.specs.declared.operations.SuspenseReason.{SuspenseReason}
use Rattle.desk_history.specs.declared.operations.SuspenseReason.TheVariants.{AlreadyReturned}
use Rattle.desk_history.specs.declared.sent_entry.SentEntry.{SentEntry}
use Rattle.desk_history.specs.Words.{or_else}
use Rattle.desk_history.specs.Part.{Event}
use Rattle.desk_history.specs.State.{TakenReturn, new_return, return_of, is_returned}
use Rattle.desk_history.specs.Resolve as history
use Rattle.desk_history.specs.Resolve.{ResolvedItem, named_entry, event_of, resolve_entry, resolve, item_event}
use Rattle.desk_history.proofs.Basics.Elements.{texts_turned, numbers_turned}
use Rattle.desk_history.proofs.Sent.Resolving.{meets, event_holds}
use Rattle.desk_book.specs.declared.named_entry.NamedEntry.{NamedEntry}
use Rattle.desk_book.specs.OnIntake.{is_same_entry, is_repeated_return, unless_repeated, was_returned, entries_returned_by, resolution_after, resolutions_after}

-- whether the entry is returned, by the parts of the companies
abbrev pub came_back : (List ℕ → List Event) → SentEntry → Bool
came_back parts e = is_returned (parts e.company) e.reference e.index

-- the entry that an item names, with whether it is returned
abbrev pub named_by : (SentEntry → Bool) → Option SentEntry → Option NamedEntry
named_by back found = option_map (λ e. record { entry = e; returned = back e }) found

-- by these parts, the returned entries are those from before the file and these of it
abbrev pub IsBackAfter : (SentEntry → Bool) → List SentEntry → (List ℕ → List Event) → Type 0
IsBackAfter before earlier parts = (e : SentEntry) → came_back parts e ≡ (before e || list_any (is_same_entry e) earlier)

-- ---- one item

again_same : (parts : List ℕ → List Event) (before : SentEntry → Bool) (earlier : List SentEntry) (e : SentEntry) (item : ItemFacts) (event : Event)
    → IsBackAfter before earlier parts → event_of e item ≡ Some event
    → history.is_repeated_return (parts e.company) event ≡ is_repeated_return earlier (before e) (record { entry = e; event = event })
again_same parts before earlier e item event back gives =
    event_holds (λ event. history.is_repeated_return (parts e.company) event ≡ is_repeated_return earlier (before e) (record { entry = e; event = event })) e item event gives
    (λ code information within. back e)
    (λ code text. refl)

pub entry_named : (before : SentEntry → Bool) (found : Option SentEntry) → option_map (λ n. n.entry) (named_by before found) ≡ found
entry_named before None = refl
entry_named before (Some e) = refl

outcome_same : (odfi : List ℕ) (sent : List SentEntry) (parts : List ℕ → List Event) (before : SentEntry → Bool) (earlier : List SentEntry) (item : ItemFacts)
    → IsBackAfter before earlier parts
    → history.resolution parts (resolve odfi sent item) ≡ resolution_after earlier item (named_by before (named_entry odfi sent item))
outcome_same odfi sent parts before earlier item back =
    by (resolve odfi sent item) refl
    ∙ ap (λ (found : Option SentEntry). unless_repeated earlier (was_returned (named_by before (named_entry odfi sent item))) (resolve_entry found item)) (sym (entry_named before (named_entry odfi sent item)))
  where
    by : (r : Result ResolvedItem SuspenseReason) → resolve odfi sent item ≡ r
        → history.resolution parts r ≡ unless_repeated earlier (was_returned (named_by before (named_entry odfi sent item))) r
    by (Err why) is = refl
    by (Ok x) is =
        let meeting = meets odfi sent item x is in
        ap (λ (t : Bool). if t then Err AlreadyReturned else Ok x) (again_same parts before earlier x.entry item x.event back meeting.gives)
        ∙ ap (λ (found : Option SentEntry). unless_repeated earlier (was_returned (named_by before found)) (Ok x)) (sym meeting.names)

-- ---- what came back by it

one_more : (o : Option TakenReturn) (t : Bool) (r : TakenReturn) → is_some (or_else o (if t then Some r else None)) ≡ (t || is_some o)
one_more None true r = refl
one_more None false r = refl
one_more (Some t) true r = refl
one_more (Some t) false r = refl

either_turned : (a b c : Bool) → a || (b || c) ≡ b || (a || c)
either_turned true true c = refl
either_turned true false c = refl
either_turned false b c = refl

-- an event of an entry of the company brings back the entry that it returns
back_by_event : (P : List Event) (before : Bool) (earlier : List SentEntry) (e x : SentEntry) (item : ItemFacts) (event : Event)
    → event_of x item ≡ Some event → bytes_eq e.company x.company ≡ true
    → is_returned P e.reference e.index ≡ (before || list_any (is_same_entry e) earlier)
    → is_returned (event ∷ P) e.reference e.index ≡ (before || list_any (is_same_entry e) (entries_returned_by (Ok (record { entry = x; event = event })) ++ earlier))
back_by_event P before earlier e x item event gives own back =
    event_holds (λ event. is_returned (event ∷ P) e.reference e.index ≡ (before || list_any (is_same_entry e) (entries_returned_by (Ok (record { entry = x; event = event })) ++ earlier))) x item event gives
    (λ code information within.
    one_more (return_of P e.reference e.index None) (bytes_eq x.reference e.reference && x.index == e.index) (new_return P code None)
    ∙ (λ i. (texts_turned x.reference e.reference i && numbers_turned x.index e.index i) || back i)
    ∙ either_turned (bytes_eq e.reference x.reference && e.index == x.index) before (list_any (is_same_entry e) earlier)
    ∙ ap (λ (t : Bool). before || ((t && bytes_eq e.reference x.reference && e.index == x.index) || list_any (is_same_entry e) earlier)) (sym own))
    (λ code text. back)

-- and none of another company
none_by_event : (before : Bool) (earlier : List SentEntry) (e x : SentEntry) (item : ItemFacts) (event : Event)
    → event_of x item ≡ Some event → bytes_eq e.company x.company ≡ false
    → (before || list_any (is_same_entry e) earlier) ≡ (before || list_any (is_same_entry e) (entries_returned_by (Ok (record { entry = x; event = event })) ++ earlier))
none_by_event before earlier e x item event gives other =
    event_holds (λ event. (before || list_any (is_same_entry e) earlier) ≡ (before || list_any (is_same_entry e) (entries_returned_by (Ok (record { entry = x; event = event })) ++ earlier))) x item event gives
    (λ code information within. ap (λ (t : Bool). before || ((t && bytes_eq e.reference x.reference && e.index == x.index) || list_any (is_same_entry e) earlier)) (sym other))
    (λ code text. refl)

back_more : (odfi : List ℕ) (sent : List SentEntry) (parts : List ℕ → List Event) (before : SentEntry → Bool) (earlier : List SentEntry) (item : ItemFacts)
    → IsBackAfter before earlier parts
    → IsBackAfter before (entries_returned_by (history.resolution parts (resolve odfi sent item)) ++ earlier) (λ c. item_event c (parts c) (resolve odfi sent item) ++ parts c)
back_more odfi sent parts before earlier item back e = by (resolve odfi sent item) refl where
  own : (x : ResolvedItem) → event_of x.entry item ≡ Some x.event → bytes_eq e.company x.entry.company ≡ true → (t : Bool)
      → is_returned ((if true && not t then x.event ∷ [] else []) ++ parts e.company) e.reference e.index
      ≡ (before e || list_any (is_same_entry e) (entries_returned_by (if t then Err AlreadyReturned else Ok x) ++ earlier))
  own x gives same true = back e
  own x gives same false = back_by_event (parts e.company) (before e) earlier e x.entry item x.event gives same (back e)

  other : (x : ResolvedItem) → event_of x.entry item ≡ Some x.event → bytes_eq e.company x.entry.company ≡ false → (t : Bool)
      → is_returned (parts e.company) e.reference e.index ≡ (before e || list_any (is_same_entry e) (entries_returned_by (if t then Err AlreadyReturned else Ok x) ++ earlier))
  other x gives differ true = back e
  other x gives differ false = back e ∙ none_by_event (before e) earlier e x.entry item x.event gives differ

  by : (r : Result ResolvedItem SuspenseReason) → resolve odfi sent item ≡ r
      → is_returned (item_event e.company (parts e.company) r ++ parts e.company) e.reference e.index
      ≡ (before e || list_any (is_same_entry e) (entries_returned_by (history.resolution parts r) ++ earlier))
  by (Err why) is = back e
  by (Ok x) is =
      let gives = (meets odfi sent item x is).gives in
      elim (cases_Bool (bytes_eq x.entry.company e.company)) [
        | inl same ↦
            let company : x.entry.company ≡ e.company = (bytes_eq-Decides x.entry.company e.company).0 same in
            ap (λ (t : Bool). is_returned ((if t && not (history.is_repeated_return (parts e.company) x.event) then x.event ∷ [] else []) ++ parts e.company) e.reference e.index) same
            ∙ own x gives (texts_turned e.company x.entry.company ∙ same) (history.is_repeated_return (parts e.company) x.event)
            ∙ ap (λ (c : List ℕ). before e || list_any (is_same_entry e) (entries_returned_by (if history.is_repeated_return (parts c) x.event then Err AlreadyReturned else Ok x) ++ earlier)) (sym company)
        | inr differ ↦
            ap (λ (t : Bool). is_returned ((if t && not (history.is_repeated_return (parts e.company) x.event) then x.event ∷ [] else []) ++ parts e.company) e.reference e.index) differ
            ∙ other x gives (texts_turned e.company x.entry.company ∙ differ) (history.is_repeated_return (parts x.entry.company) x.event)
      ]

-- ---- all items

pub outcomes_same : (odfi : List ℕ) (sent : List SentEntry) (before : SentEntry → Bool) (items : List ItemFacts) (parts : List ℕ → List Event) (earlier : List SentEntry)
    → IsBackAfter before earlier parts
    → history.resolutions odfi sent parts items ≡ resolutions_after earlier (map (λ item. (item, named_by before (named_entry odfi sent item))) items)
outcomes_same odfi sent before [] parts earlier back = refl
outcomes_same odfi sent before (item ∷ items) parts earlier back =
    let next : List ℕ → List Event = λ c. item_event c (parts c) (resolve odfi sent item) ++ parts c in
    let rest = map (λ item. (item, named_by before (named_entry odfi sent item))) items in
    ap (λ (os : List (Result ResolvedItem SuspenseReason)). history.resolution parts (resolve odfi sent item) ∷ os)
    (outcomes_same odfi sent before items next (entries_returned_by (history.resolution parts (resolve odfi sent item)) ++ earlier) (back_more odfi sent parts before earlier item back))
    ∙ ap (λ (o : Result ResolvedItem SuspenseReason). o ∷ resolutions_after (entries_returned_by o ++ earlier) rest) (outcome_same odfi sent parts before earlier item back)
