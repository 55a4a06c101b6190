-- Printing values one after the other.
use Rattle.std.proofs.Common.{◌≡◌, ℕ, suc, ◌+◌, ◌<◌, ◌≤◌, true, false, List, [], ◌∷◌, ◌++◌, map, length, drop, take, get_or, Option, Some, None, ap, sym, ◌∙◌, refl, arith, append_assoc, drop-cons, length-append, length-drop, ◌-◌, inl, inr, take_all}
use Rattle.std.specs.Prelude.{nat_lt, nat_le, ◌^◌}
use Rattle.std.specs.List.{list_all, sum_by}
use Rattle.std.proofs.lemmas.Bool.{cases_Bool, and_parts, and_from, le-leb, ltb-false, le-ltb, leb-true}
use Rattle.std.proofs.lemmas.List.{append-nil, drop_all, length-take-le}
use borrow.Rule.Slice.PartMut.{put_mid}
use Rattle.std.proofs.lemmas.List.Sums.{sum_by-cons}
use Rattle.ach_fields.specs.Characters.{is_printable}
use Rattle.ach_fields.specs.declared.fault.FieldFault.{FieldFault}
use Rattle.ach_records.specs.declared.row.Field.{Field}
use Rattle.ach_records.specs.Print.{Value, Constant, Number, Words, value_fits, value_fault, value_bytes, row_fits, row_text, row_fault, first_of}
use Rattle.ach_records.specs.Row.{value_of, field_width}

-- ---- a row whose values have no fault fits

number_fits : (w n : ℕ) → value_fault (Number w n) ≡ None → value_fits (Number w n) ≡ true
number_fits w n h =
    elim (cases_Bool (nat_lt n (10 ^ w))) [
      | inl p ↦ p
      | inr p ↦ let k : ◌≡◌ {A = Option FieldFault} _ None = rw p at h in absurd cc
    ]

words_fit : (w : ℕ) (t : List ℕ) → value_fault (Words w t) ≡ None → value_fits (Words w t) ≡ true
words_fit w t h =
    elim (cases_Bool (nat_lt w (length t))) [
      | inl p ↦ let k : ◌≡◌ {A = Option FieldFault} _ None = rw p at h in absurd cc
      | inr p ↦ elim (cases_Bool (list_all is_printable t)) [
        | inl q ↦ and_from _ _ (le-leb _ _ (ltb-false w (length t) p)) q
        | inr q ↦ let k : ◌≡◌ {A = Option FieldFault} _ None = rw (p, q) at h in absurd cc
      ]
    ]

pub value_fits_if : (v : Value) → value_fault v ≡ None → value_fits v ≡ true
value_fits_if (Constant text) h = refl
value_fits_if (Number w n) h = number_fits w n h
value_fits_if (Words w t) h = words_fit w t h

first_none : (a b : Option FieldFault) → first_of a b ≡ None → (a ≡ None) × (b ≡ None)
first_none (Some f) b h = absurd cc
first_none None b h = (refl, h)

pub row_fits_if : (vs : List Value) → row_fault vs ≡ None → row_fits vs ≡ true
unfolding row_fault row_fits
row_fits_if [] h = refl
row_fits_if (v ∷ vs) h =
    let p = first_none (value_fault v) (row_fault vs) h in
    and_from _ _ (value_fits_if v p.0) (row_fits_if vs p.1)

-- ---- a row with a fault does not fit

words_sound : (w : ℕ) (t : List ℕ) → value_fits (Words w t) ≡ true → value_fault (Words w t) ≡ None
words_sound w t h =
    let p = and_parts (nat_le (length t) w) (list_all is_printable t) h in
    let q : nat_lt w (length t) ≡ false = le-ltb w (length t) (leb-true _ _ p.0) in
    rw (q, p.1) refl

number_sound : (w n : ℕ) → value_fits (Number w n) ≡ true → value_fault (Number w n) ≡ None
number_sound w n h = rw h refl

pub value_sound : (v : Value) → value_fits v ≡ true → value_fault v ≡ None
value_sound (Constant text) h = refl
value_sound (Number w n) h = number_sound w n h
value_sound (Words w t) h = words_sound w t h

pub row_sound : (vs : List Value) → row_fits vs ≡ true → row_fault vs ≡ None
unfolding row_fault row_fits
row_sound [] h = refl
row_sound (v ∷ vs) h =
    let p = and_parts _ _ h in
    ap (λ (f : Option FieldFault). first_of f (row_fault vs)) (value_sound v p.0) ∙ row_sound vs p.1

pub refused_row : (vs : List Value) (f : FieldFault) → row_fault vs ≡ Some f → row_fits vs ≡ false
refused_row vs f h =
    elim (cases_Bool (row_fits vs)) [
      | inl p ↦ let k : ◌≡◌ {A = Option FieldFault} None (Some f) = sym (row_sound vs p) ∙ h in absurd cc
      | inr p ↦ p
    ]

-- ---- one field more

rest_is : (fields : List Field) (i : ℕ) (x : Field) → i < length fields → x ≡ get_or fields i x → drop i fields ≡ x ∷ drop (i + 1) fields
rest_is fields i x lt is =
    let one : suc i ≡ i + 1 = omega arith in
    drop-cons fields i x lt ∙ (λ k. sym is k ∷ drop (one k) fields)

pub text_on : (old new : List ℕ) (fields : List Field) (i : ℕ) (x : Field) (whole : List ℕ) → i < length fields → x ≡ get_or fields i x
    → new ≡ old ++ value_bytes (value_of x)
    → old ++ row_text (map value_of (drop i fields)) ≡ whole → new ++ row_text (map value_of (drop (i + 1) fields)) ≡ whole
unfolding row_text
text_on old new fields i x whole lt is e h =
    let v = value_bytes (value_of x) in
    let rest = row_text (map value_of (drop (i + 1) fields)) in
    let split : row_text (map value_of (drop i fields)) ≡ v ++ rest = ap (λ (fs : List Field). row_text (map value_of fs)) (rest_is fields i x lt is) in
    ap (λ (l : List ℕ). l ++ rest) e ∙ append_assoc old v rest ∙ ap (λ (l : List ℕ). old ++ l) (sym split) ∙ h

pub fault_on : (fields : List Field) (i : ℕ) (x : Field) (f : Option FieldFault) → i < length fields → x ≡ get_or fields i x → value_fault (value_of x) ≡ f
    → row_fault (map value_of (drop i fields)) ≡ first_of f (row_fault (map value_of (drop (i + 1) fields)))
unfolding row_fault
fault_on fields i x f lt is e =
    ap (λ (fs : List Field). row_fault (map value_of fs)) (rest_is fields i x lt is)
    ∙ ap (λ (g : Option FieldFault). first_of g (row_fault (map value_of (drop (i + 1) fields)))) e

widths_on : (fields : List Field) (i : ℕ) (x : Field) → i < length fields → x ≡ get_or fields i x
    → sum_by field_width (drop i fields) ≡ field_width x + sum_by field_width (drop (i + 1) fields)
widths_on fields i x lt is = ap (sum_by field_width) (rest_is fields i x lt is) ∙ sum_by-cons field_width x (drop (i + 1) fields)

pub widths_step : (at w : ℕ) (fields : List Field) (i : ℕ) (x : Field) → i < length fields → x ≡ get_or fields i x → w ≡ field_width x
    → at + sum_by field_width (drop i fields) ≡ 94 → at + w + sum_by field_width (drop (i + 1) fields) ≡ 94
widths_step at w fields i x lt is e h = omega (arith, widths_on fields i x lt is, e, h)

-- the line keeps its length
pub put_long : (line out : List ℕ) (at w k : ℕ) (fields : List Field) (i : ℕ) (x : Field) → i < length fields → x ≡ get_or fields i x → w ≡ field_width x
    → at + sum_by field_width (drop i fields) ≡ 94 → length line ≡ 94 → length out ≡ w → k ≡ w → length (put_mid at k line out) ≡ 94
put_long line out at w k fields i x lt is e h long same kw =
    let step : at + w + sum_by field_width (drop (i + 1) fields) ≡ 94 = widths_step at w fields i x lt is e h in
    let after : length (drop k (drop at line)) ≡ length line - at - k = length-drop k (drop at line) ∙ ap (λ n. n - k) (length-drop at line) in
    let prefix : length (take at line) ≡ at = length-take-le at line (omega (arith, step, long)) in
    length-append (take at line) (out ++ drop k (drop at line)) ∙ omega (arith, length-append out (drop k (drop at line)), after, prefix, step, long, same, kw)

-- ---- no field left

pub text_done : (line : List ℕ) (fields : List Field) (i at : ℕ) (whole : List ℕ) → length fields ≤ i → length line ≡ 94
    → at + sum_by field_width (drop i fields) ≡ 94 → take at line ++ row_text (map value_of (drop i fields)) ≡ whole → line ≡ whole
unfolding row_text
text_done line fields i at whole le len widths h =
    let none : drop i fields ≡ [] = drop_all i fields le in
    let end : at + 0 ≡ 94 = ap (λ (fs : List Field). at + sum_by field_width fs) (sym none) ∙ widths in
    let all : take at line ≡ line = take_all at line (omega (arith, end)) in
    let bare : take at line ++ row_text (map value_of (drop i fields)) ≡ take at line ++ [] = ap (λ (fs : List Field). take at line ++ row_text (map value_of fs)) none in
    sym all ∙ sym (append-nil (take at line)) ∙ sym bare ∙ h

pub fault_done : (fields : List Field) (i : ℕ) (f : Option FieldFault) → length fields ≤ i → row_fault (map value_of (drop i fields)) ≡ f → f ≡ None
unfolding row_fault
fault_done fields i f le h = sym h ∙ ap (λ (fs : List Field). row_fault (map value_of fs)) (drop_all i fields le)
