-- Entries that are not returned.
use Rattle.std.proofs.Common.{◌≡◌, ℕ, List, [], ◌∷◌, Bool, true, false, ◌&&◌, ◌==◌, refl, ap, ◌∙◌, inl, inr, if◌then◌else◌}
use Rattle.std.specs.Prelude.{Option, Some, None, option_and_then, is_some, bytes_eq}
use Rattle.std.proofs.lemmas.Bool.{cases_Bool}
use Rattle.std.proofs.lemmas.Slice.Eq.{bytes_eq-Decides}
use Rattle.desk_history.specs.Words.{or_else}
use Rattle.desk_history.specs.Part.{Event, DaySet, HolidaysSet, Registered, Limited, Asked, CutMade, Returned, Changed}
use Rattle.desk_history.specs.State.{TakenReturn, new_return, return_of, is_returned}
use Rattle.desk_history.specs.Accepted.{settlement_day}
use Rattle.desk_history.specs.Reports.{settlement_under}
use Rattle.desk_history.specs.Possible.{IsSentEntry, IsPossible}
use Rattle.desk_history.proofs.Acceptance.Growing.{settled_under_stays}
use Rattle.desk_history.proofs.Acceptance.Linked.{originals}

-- what settles under no day after an event did not before it
none_before : (e : Event) (P : List Event) (reference : List ℕ) → settlement_under (e ∷ P) reference ≡ None → settlement_under P reference ≡ None
none_before e P reference none = at (settlement_under P reference) refl where
  at : (o : Option ℕ) → settlement_under P reference ≡ o → o ≡ None
  at None is = refl
  at (Some on) is = let stays : settlement_under (e ∷ P) reference ≡ Some on = settled_under_stays e P reference on (originals P) is in cc

-- a returned entry has another reference
returned_other : (P : List Event) (reference r : List ℕ) (i : ℕ) → settlement_under P reference ≡ None → IsSentEntry P r i → bytes_eq r reference ≡ false
returned_other P reference r i none sent = elim (cases_Bool (bytes_eq r reference)) [
  | inl own ↦
      let same : r ≡ reference = (bytes_eq-Decides r reference).0 own in
      let settles : settlement_under P r ≡ Some sent.on = ap (option_and_then (settlement_day P)) sent.called ∙ sent.sent in
      let never : settlement_under P r ≡ None = ap (settlement_under P) same ∙ none in
      cc
  | inr other ↦ other
]

no_second : (o : Option TakenReturn) (b c : Bool) (t : TakenReturn) → o ≡ None → b ≡ false → or_else o (if b && c then Some t else None) ≡ None
no_second o b c t none other = rw (none, other) refl

-- what has not settled has no return
pub none_returned : (P : List Event) (reference : List ℕ) (index : ℕ) (on : Option ℕ) → IsPossible P → settlement_under P reference ≡ None → return_of P reference index on ≡ None
none_returned [] reference index on possible none = refl
none_returned (Returned r i code information ∷ P) reference index on possible none =
    no_second (return_of P reference index on) (bytes_eq r reference) (i == index) (new_return P code on)
    (none_returned P reference index on possible.1 none) (returned_other P reference r i none possible.0.of)
none_returned (DaySet d ∷ P) reference index on possible none = none_returned P reference index on possible.1 (none_before (DaySet d) P reference none)
none_returned (HolidaysSet days ∷ P) reference index on possible none = none_returned P reference index on possible.1 (none_before (HolidaysSet days) P reference none)
none_returned (Registered name digest l ∷ P) reference index on possible none = none_returned P reference index on possible.1 (none_before (Registered name digest l) P reference none)
none_returned (Limited l ∷ P) reference index on possible none = none_returned P reference index on possible.1 (none_before (Limited l) P reference none)
none_returned (Asked r ∷ P) reference index on possible none = none_returned P reference index on possible.1 (none_before (Asked r) P reference none)
none_returned (CutMade ∷ P) reference index on possible none = none_returned P reference index on possible.1 (none_before CutMade P reference none)
none_returned (Changed r i code text ∷ P) reference index on possible none = none_returned P reference index on possible.1 (none_before (Changed r i code text) P reference none)

-- ---- whether an entry came back does not turn on the day on which it settled

alike : (o p : Option TakenReturn) (b : Bool) (t u : TakenReturn) → is_some o ≡ is_some p → is_some (or_else o (if b then Some t else None)) ≡ is_some (or_else p (if b then Some u else None))
alike None None true t u same = refl
alike None None false t u same = refl
alike (Some x) (Some y) b t u same = refl
alike None (Some y) b t u same = absurd (cc)
alike (Some x) None b t u same = absurd (cc)

pub returned_whenever : (P : List Event) (reference : List ℕ) (index : ℕ) (on later : Option ℕ) → is_some (return_of P reference index on) ≡ is_some (return_of P reference index later)
returned_whenever [] reference index on later = refl
returned_whenever (Returned r i code information ∷ P) reference index on later =
    alike (return_of P reference index on) (return_of P reference index later) (bytes_eq r reference && i == index) (new_return P code on) (new_return P code later) (returned_whenever P reference index on later)
returned_whenever (DaySet d ∷ P) reference index on later = returned_whenever P reference index on later
returned_whenever (HolidaysSet days ∷ P) reference index on later = returned_whenever P reference index on later
returned_whenever (Registered name digest l ∷ P) reference index on later = returned_whenever P reference index on later
returned_whenever (Limited l ∷ P) reference index on later = returned_whenever P reference index on later
returned_whenever (Asked r ∷ P) reference index on later = returned_whenever P reference index on later
returned_whenever (CutMade ∷ P) reference index on later = returned_whenever P reference index on later
returned_whenever (Changed r i code text ∷ P) reference index on later = returned_whenever P reference index on later

not_some : (o : Option TakenReturn) → is_some o ≡ false → o ≡ None
not_some None h = refl
not_some (Some t) h = cc

-- an entry that no return names
pub not_returned : (P : List Event) (reference : List ℕ) (index : ℕ) (on : Option ℕ) → is_returned P reference index ≡ false → return_of P reference index on ≡ None
not_returned P reference index on none = not_some (return_of P reference index on) (returned_whenever P reference index on None ∙ none)
