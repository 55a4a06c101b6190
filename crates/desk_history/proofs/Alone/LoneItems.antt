-- The item that a desk that serves one company alone is given in the place of another: it names the same entry.
use Rattle.std.proofs.Common.{◌≡◌, ℕ, suc, zero, ◌+◌, ◌-◌, ◌*◌, ◌/◌, ◌%◌, ◌≤◌, List, [], ◌∷◌, ◌++◌, length, map, reverse, Bool, true, false, cond, ◌&&◌, ◌||◌, refl, sym, ap, ◌∙◌, subst, inl, inr, arith, if◌then◌else◌, ◌==◌, nat_le, bytes_eq, Option, Some, None, option_map, is_some, Ok, filter, find, codes}
use Rattle.std.specs.List.{list_any, range_with_len}
use Rattle.std.proofs.lemmas.Bool.{cases_Bool, and_parts, and_from, eq-eqb, eqb-true, le-leb, false_from_ne_true}
use Rattle.std.proofs.lemmas.List.{same_from_push, reverse-append, length-map}
use Rattle.std.proofs.lemmas.Map.Views.{any-filter_same}
use Rattle.std.proofs.lemmas.Slice.Eq.{bytes_eq-Decides}
use Rattle.ach_fields.specs.Characters.{is_digit}
use Rattle.ach_fields.specs.Laws.{NumbersAndDigits}
use Rattle.ach_fields.specs.Routing.{dfi_of}
use Rattle.ach_fields.specs.Trace.{trace_text}
use Rattle.ach_files.specs.declared.facts.ItemFacts.{ItemFacts}
use Rattle.desk_plan.specs.Sequences.{IsNumbered}
use Rattle.ach_fields.specs.Trace.{most_sequence}
use Rattle.desk_rules.specs.ReturnCodes.{IsCode, code_of, code_text}
use Rattle.desk_history.specs.declared.operations.SuspenseReason.TheVariants.{NoTrace, Differs, CodeOutside}
use Rattle.desk_history.specs.declared.sent_entry.SentEntry.{SentEntry}
use Rattle.desk_history.specs.Words.{some_or, holds_or}
use Rattle.desk_history.specs.Part.{Returned, Changed}
use Rattle.desk_history.specs.Sendings.{sent_sequence}
use Rattle.desk_history.specs.Resolve.{◌>>=◌, has_trace, returned_transaction, receiving_dfi, is_change_code, resolve, agrees, event_of}
use Rattle.desk_rules.specs.Fields.{sec_text}
use Rattle.desk_history.specs.Alone.{is_entry, return_item, change_item}
use Rattle.desk_history.proofs.Basics.Elements.{same_text}
use Rattle.desk_history.proofs.Acceptance.Growing.{found_passes, any_found}
use Rattle.desk_history.proofs.Alone.LoneCuts.{map-reverse, unnumbered, is_entry_of}
use Rattle.desk_history.proofs.Traces.TracesOfCuts.{same_sequence}

-- ---- numbered entries

-- the n-th entry has sequence n
abbrev pub InOrder : List SentEntry → Type 0
InOrder [] = Unit {0}
InOrder (e ∷ es) = (e.sequence ≡ length es + 1) × InOrder es

range_push : (a n : ℕ) → range_with_len a (suc n) ≡ range_with_len a n ++ (a + n) ∷ []
range_push a zero = let e : a ≡ a + 0 = omega arith in ap (λ m. m ∷ []) e
range_push a (suc n) = let e : a + 1 + n ≡ a + suc n = omega arith in ap (λ (l : List ℕ). a ∷ l) (range_push (a + 1) n ∙ ap (λ m. range_with_len (a + 1) n ++ m ∷ []) e)

abbrev sequences : List SentEntry → List ℕ
sequences es = map (λ e. e.sequence) (map sent_sequence es)

from_sequences : (es : List SentEntry) → reverse (sequences es) ≡ range_with_len 1 (length es) → InOrder es
from_sequences [] h = tt
from_sequences (e ∷ es) h =
    let parts = same_from_push (reverse (sequences es)) (range_with_len 1 (length es)) e.sequence (1 + length es) (sym (reverse-append (e.sequence ∷ []) (sequences es)) ∙ h ∙ range_push 1 (length es)) in
    (omega (arith, parts.1), from_sequences es parts.0)

pub in_order : (es : List SentEntry) → IsNumbered (map sent_sequence es) → InOrder es
in_order es h =
    from_sequences es (sym (map-reverse (λ e. e.sequence) (map sent_sequence es)) ∙ h.in_order ∙ ap (range_with_len 1) (length-map es sent_sequence))

-- an entry that is found is named by its trace
found_traced : NumbersAndDigits → (odfi : List ℕ) (p : SentEntry → Bool) (es : List SentEntry) → InOrder es → length es ≤ most_sequence → (e : SentEntry) → find p es ≡ Some e
    → (e.sequence ≤ length es) × (find (has_trace odfi (trace_text (dfi_of odfi) e.sequence)) es ≡ Some e)
found_traced law odfi p [] order few e found = cc
found_traced law odfi p (y ∷ ys) order few e found = elim (cases_Bool (p y)) [
  | inl here ↦
      let some : Some y ≡ Some e = ap (λ (b : Bool). cond b (Some y) (find p ys)) (sym here) ∙ found in
      let same : y ≡ e = cc in
      let is : y.sequence ≡ length ys + 1 = order.0 in
      subst (λ (x : SentEntry). (x.sequence ≤ suc (length ys)) × (find (has_trace odfi (trace_text (dfi_of odfi) x.sequence)) (y ∷ ys) ≡ Some x)) same
      (omega arith, ap (λ (b : Bool). cond b (Some y) (find (has_trace odfi (trace_text (dfi_of odfi) y.sequence)) ys)) (same_text (trace_text (dfi_of odfi) y.sequence)))
  | inr other ↦
      let rest = found_traced law odfi p ys order.1 (omega arith) e (ap (λ (b : Bool). cond b (Some y) (find p ys)) (sym other) ∙ found) in
      let is : y.sequence ≡ length ys + 1 = order.0 in
      let low : e.sequence ≤ length ys = rest.0 in
      let differ : has_trace odfi (trace_text (dfi_of odfi) e.sequence) y ≡ false =
      false_from_ne_true _ (λ has.
      let same = same_sequence law (dfi_of odfi) y.sequence e.sequence (omega arith) (omega arith)
      ((bytes_eq-Decides (trace_text (dfi_of odfi) y.sequence) (trace_text (dfi_of odfi) e.sequence)).0 has) in
      omega (arith, same)) in
      (omega arith, ap (λ (b : Bool). cond b (Some y) (find (has_trace odfi (trace_text (dfi_of odfi) e.sequence)) ys)) differ ∙ rest.1)
]

-- ---- the company's entry

any-unnumbered : (c reference : List ℕ) (index : ℕ) (es : List SentEntry) → list_any (is_entry c reference index) (map unnumbered es) ≡ list_any (is_entry c reference index) es
any-unnumbered c reference index [] = refl
any-unnumbered c reference index (e ∷ es) = ap (λ (b : Bool). is_entry c reference index e || b) (any-unnumbered c reference index es)

own_entry : (c reference : List ℕ) (index : ℕ) (e : SentEntry) → is_entry c reference index e ≡ true → (e.company ≡ c) × (e.reference ≡ reference) × (e.index ≡ index)
own_entry c reference index e h =
    let two = and_parts (bytes_eq e.company c && bytes_eq e.reference reference) (e.index == index) h in
    let one = and_parts (bytes_eq e.company c) (bytes_eq e.reference reference) two.0 in
    ((bytes_eq-Decides e.company c).0 one.0, (bytes_eq-Decides e.reference reference).0 one.1, eqb-true e.index index two.1)

-- what the whole desk sent of the company is among its own entries
pub among_own : (c reference : List ℕ) (index : ℕ) (es : List SentEntry) → list_any (is_entry c reference index) es ≡ true → list_any (is_entry c reference index) (filter (is_entry_of c) (map unnumbered es)) ≡ true
among_own c reference index es h =
    any-filter_same (is_entry c reference index) (is_entry_of c) true (λ e own. (bytes_eq-Decides e.company c).1 (own_entry c reference index e own).0) (map unnumbered es)
    ∙ any-unnumbered c reference index es
    ∙ h

-- an entry of the lone desk
pub record IsThere (odfi c reference : List ℕ) (index : ℕ) (es : List SentEntry) : Type 0 where
  pub entry : SentEntry
  pub found : find (is_entry c reference index) es ≡ Some entry
  pub company : entry.company ≡ c
  pub called : entry.reference ≡ reference
  pub numbered : entry.index ≡ index
  pub traced : find (has_trace odfi (trace_text (dfi_of odfi) entry.sequence)) es ≡ Some entry

pub there : NumbersAndDigits → (odfi c reference : List ℕ) (index : ℕ) (es : List SentEntry) → InOrder es → length es ≤ most_sequence
    → list_any (is_entry c reference index) (map unnumbered es) ≡ true → IsThere odfi c reference index es
there law odfi c reference index es order few some =
    by (find (is_entry c reference index) es) refl (sym (any_found (is_entry c reference index) es) ∙ sym (any-unnumbered c reference index es) ∙ some)
  where
    by : (o : Option SentEntry) → find (is_entry c reference index) es ≡ o → is_some o ≡ true → IsThere odfi c reference index es
    by None found h = cc
    by (Some e) found h =
        let is = own_entry c reference index e (found_passes (is_entry c reference index) es e found) in
        record { entry = e; found = found; company = is.0; called = is.1; numbered = is.2; traced = (found_traced law odfi (is_entry c reference index) es order few e found).1 }

-- ---- the resolutions of the items

is_known : (n : ℕ) → 1 ≤ n → n ≤ 29 → code_of (code_text n) ≡ Some n
is_known n some few =
    let tens : is_digit (48 + n / 10) ≡ true = and_from _ _ (le-leb 48 (48 + n / 10) (omega arith)) (le-leb (48 + n / 10) 57 (omega arith)) in
    let ones : is_digit (48 + n % 10) ≡ true = and_from _ _ (le-leb 48 (48 + n % 10) (omega arith)) (le-leb (48 + n % 10) 57 (omega arith)) in
    let value : 10 * (48 + n / 10 - 48) + (48 + n % 10 - 48) ≡ n = omega arith in
    let low : nat_le 1 n ≡ true = le-leb 1 n some in
    let high : nat_le n 29 ≡ true = le-leb n 29 few in
    (λ i. if (82 == 82) && tens i && ones i && nat_le 1 (value i) && nat_le (value i) 29 then Some (value i) else None)
    ∙ (λ i. if low i && high i then Some n else None)

pub resolves_return : (odfi : List ℕ) (es : List SentEntry) (e : SentEntry) (code : ℕ) (information : List ℕ) → IsCode code → find (has_trace odfi (trace_text (dfi_of odfi) e.sequence)) es ≡ Some e
    → resolve odfi es (return_item odfi code information e) ≡ Ok (record { entry = e; event = Returned e.reference e.index code information })
resolves_return odfi es e code information is traced =
    ap (λ (o : Option SentEntry). some_or NoTrace o >>= (λ e'. holds_or Differs (agrees e' item) >>= (λ _. some_or CodeOutside (event_of e' item) >>= (λ event. Ok (record { entry = e'; event = event }))))) traced
    ∙ ap (λ (b : Bool). holds_or Differs b >>= (λ _. some_or CodeOutside (event_of e item) >>= (λ event. Ok (record { entry = e; event = event })))) agree
    ∙ ap (λ (o : Option ℕ). some_or CodeOutside (option_map (λ code. Returned e.reference e.index code information) o) >>= (λ event. Ok (record { entry = e; event = event }))) (is_known code is.0 is.1)
  where
    item : ItemFacts
    item = return_item odfi code information e

    agree : agrees e (return_item odfi code information e) ≡ true
    agree =
        and_from _ _ (and_from _ _ (and_from _ _ (same_text (sec_text e.sec)) (eq-eqb (returned_transaction e) (returned_transaction e) refl)) (same_text (receiving_dfi e))) (eq-eqb e.entry.cents e.entry.cents refl)

pub resolves_change : (odfi : List ℕ) (es : List SentEntry) (e : SentEntry) (code text : List ℕ) → is_change_code code ≡ true → find (has_trace odfi (trace_text (dfi_of odfi) e.sequence)) es ≡ Some e
    → resolve odfi es (change_item odfi code text e) ≡ Ok (record { entry = e; event = Changed e.reference e.index code text })
resolves_change odfi es e code text is traced =
    ap (λ (o : Option SentEntry). some_or NoTrace o >>= (λ e'. holds_or Differs (agrees e' item) >>= (λ _. some_or CodeOutside (event_of e' item) >>= (λ event. Ok (record { entry = e'; event = event }))))) traced
    ∙ ap (λ (b : Bool). holds_or Differs b >>= (λ _. some_or CodeOutside (event_of e item) >>= (λ event. Ok (record { entry = e; event = event })))) agree
    ∙ ap (λ (b : Bool). some_or CodeOutside (if b then Some (Changed e.reference e.index code text) else None) >>= (λ event. Ok (record { entry = e; event = event }))) is
  where
    item : ItemFacts
    item = change_item odfi code text e

    agree : agrees e (change_item odfi code text e) ≡ true
    agree =
        and_from _ _ (and_from _ _ (and_from _ _ (same_text (codes "COR")) (eq-eqb (returned_transaction e) (returned_transaction e) refl)) (same_text (receiving_dfi e))) refl
