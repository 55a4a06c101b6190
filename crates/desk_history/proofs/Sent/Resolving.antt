-- The facts about a file's item that gives an event.
use Rattle.std.proofs.Common.{◌≡◌, ℕ, ◌+◌, ◌-◌, ◌*◌, ◌==◌, nat_le, List, [], ◌∷◌, ◌++◌, Bool, true, false, not, ◌&&◌, refl, sym, ap, ◌∙◌, subst, append_assoc, inl, inr, if◌then◌else◌, Option, Some, None, option_map, Result, Ok, Err, bytes_eq}
use Rattle.std.proofs.lemmas.Bool.{cases_Bool, and_parts, not-true, leb-true}
use Rattle.ach_fields.specs.Characters.{is_digit}
use Rattle.ach_files.specs.declared.facts.ItemFacts.{ItemFacts}
use Rattle.ach_files.specs.declared.facts.ReturnOrChange.{ReturnOrChange}
use Rattle.ach_files.specs.declared.facts.ReturnOrChange.TheVariants as kinds
use Rattle.desk_rules.specs.ReturnCodes.{IsCode, code_of}
use Rattle.desk_history.specs.declared.operations.SuspenseReason.{SuspenseReason}
use Rattle.desk_history.specs.declared.operations.SuspenseReason.TheVariants.{NoTrace, Differs, CodeOutside}
use Rattle.desk_history.specs.declared.sent_entry.SentEntry.{SentEntry}
use Rattle.desk_history.specs.Words.{some_or, holds_or}
use Rattle.desk_history.specs.Part.{Event, Returned, Changed}
use Rattle.desk_history.specs.Resolve.{◌>>=◌, ResolvedItem, named_entry, agrees, is_change_code, event_of, resolve, is_repeated_return, item_event, item_events}

-- an item that meets its entry
pub record Meets (odfi : List ℕ) (sent : List SentEntry) (item : ItemFacts) (x : ResolvedItem) : Type 0 where
  pub names : named_entry odfi sent item ≡ Some x.entry
  pub agree : agrees x.entry item ≡ true
  pub gives : event_of x.entry item ≡ Some x.event

pub meets : (odfi : List ℕ) (sent : List SentEntry) (item : ItemFacts) (x : ResolvedItem) → resolve odfi sent item ≡ Ok x → Meets odfi sent item x
meets odfi sent item x h = by_name (named_entry odfi sent item) refl h where
  by_event : (e : SentEntry) (o : Option Event) → (some_or CodeOutside o >>= (λ event. Ok (record { entry = e; event = event }))) ≡ Ok x → (e ≡ x.entry) × (o ≡ Some x.event)
  by_event e None k = cc
  by_event e (Some event) k =
      let same : record { entry = e; event = event } ≡ x = cc in
      (ap (λ (y : ResolvedItem). y.entry) same, ap (λ (y : ResolvedItem). Some y.event) same)

  by_test : (e : SentEntry) (b : Bool) → agrees e item ≡ b → named_entry odfi sent item ≡ Some e
      → (holds_or Differs b >>= (λ _. some_or CodeOutside (event_of e item) >>= (λ event. Ok (record { entry = e; event = event })))) ≡ Ok x → Meets odfi sent item x
  by_test e false agree names k = cc
  by_test e true agree names k =
      let both = by_event e (event_of e item) k in
      record {
        names = names ∙ ap Some both.0;
        agree = ap (λ (y : SentEntry). agrees y item) (sym both.0) ∙ agree;
        gives = ap (λ (y : SentEntry). event_of y item) (sym both.0) ∙ both.1;
      }

  by_name : (o : Option SentEntry) → named_entry odfi sent item ≡ o
      → (some_or NoTrace o >>= (λ e. holds_or Differs (agrees e item) >>= (λ _. some_or CodeOutside (event_of e item) >>= (λ event. Ok (record { entry = e; event = event }))))) ≡ Ok x
      → Meets odfi sent item x
  by_name None names k = cc
  by_name (Some e) names k = by_test e (agrees e item) refl names k

-- ---- its event

within : (b : Bool) (n code : ℕ) → (b ≡ true → IsCode n) → (if b then Some n else None) ≡ Some code → IsCode code
within true n code in_range h = subst IsCode (let e : n ≡ code = let k : Some n ≡ Some code = h in cc in e) (in_range refl)
within false n code in_range h = cc

-- a code is one of R01 to R29
pub code_within : (text : List ℕ) (code : ℕ) → code_of text ≡ Some code → IsCode code
code_within [] code h = cc
code_within (r ∷ []) code h = cc
code_within (r ∷ tens ∷ []) code h = cc
code_within (r ∷ tens ∷ ones ∷ []) code h =
    let n = 10 * (tens - 48) + (ones - 48) in
    within (r == 82 && is_digit tens && is_digit ones && nat_le 1 n && nat_le n 29) n code
    (λ yes'.
    let last = and_parts (r == 82 && is_digit tens && is_digit ones && nat_le 1 n) (nat_le n 29) yes' in
    let some = and_parts (r == 82 && is_digit tens && is_digit ones) (nat_le 1 n) last.0 in
    (leb-true 1 n some.1, leb-true n 29 last.1))
    h
code_within (r ∷ tens ∷ ones ∷ more ∷ rest) code h = cc

-- An event is a return or a change of the entry, so what holds of both holds of it.
pub event_holds : (P : Event → Type 0) (e : SentEntry) (item : ItemFacts) (event : Event) → event_of e item ≡ Some event
    → ((code : ℕ) (information : List ℕ) → IsCode code → P (Returned e.reference e.index code information))
    → ((code text : List ℕ) → P (Changed e.reference e.index code text))
    → P event
event_holds P e item event h on_return on_change = by_kind item.return_or_change h where
  by_code : (information : List ℕ) (o : Option ℕ) → code_of item.code ≡ o → option_map (λ code. Returned e.reference e.index code information) o ≡ Some event → P event
  by_code information None is k = cc
  by_code information (Some code) is k =
      subst P (let q : Returned e.reference e.index code information ≡ event = cc in q) (on_return code information (code_within item.code code is))

  by_change : (b : Bool) (text : List ℕ) → (if b then Some (Changed e.reference e.index item.code text) else None) ≡ Some event → P event
  by_change true text k = subst P (let q : Changed e.reference e.index item.code text ≡ event = cc in q) (on_change item.code text)
  by_change false text k = cc

  by_kind : (kind : ReturnOrChange) → event_of e (record item { return_or_change = kind }) ≡ Some event → P event
  by_kind (kinds.Return information) k = by_code information (code_of item.code) refl k
  by_kind (kinds.Change text) k = by_change (is_change_code item.code) text k

-- ---- what an item gives to a company

-- the entry that an item names, if it gives the company an event
pub record Gives (c : List ℕ) (P : List Event) (odfi : List ℕ) (sent : List SentEntry) (item : ItemFacts) (x : ResolvedItem) : Type 0 where
  pub meeting : Meets odfi sent item x
  pub own : bytes_eq x.entry.company c ≡ true
  pub first : is_repeated_return P x.event ≡ false

-- what holds of no event and of each one that an item gives, holds of what it gives
pub given_holds : (M : List Event → Type 0) (c : List ℕ) (P : List Event) (odfi : List ℕ) (sent : List SentEntry) (item : ItemFacts)
    → M [] → ((x : ResolvedItem) → Gives c P odfi sent item x → M (x.event ∷ [])) → M (item_event c P (resolve odfi sent item))
given_holds M c P odfi sent item none some = by (resolve odfi sent item) refl where
  by : (r : Result ResolvedItem SuspenseReason) → resolve odfi sent item ≡ r → M (item_event c P r)
  by (Err why) is = none
  by (Ok x) is = elim (cases_Bool (bytes_eq x.entry.company c && not (is_repeated_return P x.event))) [
    | inl yes' ↦
        let both = and_parts (bytes_eq x.entry.company c) (not (is_repeated_return P x.event)) yes' in
        subst (λ (b : Bool). M (if b then x.event ∷ [] else [])) (sym yes')
        (some x (record { meeting = meets odfi sent item x is; own = both.0; first = not-true (is_repeated_return P x.event) both.1 }))
    | inr no' ↦ subst (λ (b : Bool). M (if b then x.event ∷ [] else [])) (sym no') none
  ]

-- what returns and changes leave as it was stays through the items of a file
pub items_keep : {A : Type 0} (f : List Event → A)
    → ((reference : List ℕ) (index code : ℕ) (information : List ℕ) (P : List Event) → f (Returned reference index code information ∷ P) ≡ f P)
    → ((reference : List ℕ) (index : ℕ) (code text : List ℕ) (P : List Event) → f (Changed reference index code text ∷ P) ≡ f P)
    → (odfi : List ℕ) (sent : List SentEntry) (c : List ℕ) (items : List ItemFacts) (P : List Event) → f (item_events odfi sent c items P ++ P) ≡ f P
items_keep f on_return on_change odfi sent c [] P = refl
items_keep f on_return on_change odfi sent c (item ∷ items) P =
    let event = item_event c P (resolve odfi sent item) in
    ap f (append_assoc (item_events odfi sent c items (event ++ P)) event P)
    ∙ items_keep f on_return on_change odfi sent c items (event ++ P)
    ∙ given_holds (λ es. f (es ++ P) ≡ f P) c P odfi sent item refl
    (λ x gives. event_holds (λ e. f (e ∷ P) ≡ f P) x.entry item x.event gives.meeting.gives (λ code information _. on_return x.entry.reference x.entry.index code information P) (λ code text. on_change x.entry.reference x.entry.index code text P))
