-- A text is a record of some kind exactly where it has no fault.
use Rattle.std.proofs.Common.{◌≡◌, ℕ, ◌+◌, ◌≤◌, Bool, true, not, cond, List, [], ◌∷◌, Option, Some, None, length, refl, ap, arith, inl, inr}
use Rattle.std.specs.Prelude.{nat_lt, option_map}
use Rattle.std.specs.Option.{option_or}
use Rattle.std.specs.List.{list_all, prefix_len, position, position_or_len}
use Rattle.std.proofs.lemmas.Bool.{cases_Bool, ltb-false, le-ltb, and_parts, and_from}
use Rattle.ach_fields.specs.Characters.{is_digit, is_printable}
use Rattle.ach_records.specs.Layout.{part, digit_fields}
use Rattle.ach_records.specs.Record.{IsRecord, kind_of, has_digits, is_record_kind}
use Rattle.ach_records.specs.View.{bad_digit, bad_byte, digit_fault, kind_fault, view_fault}
use Rattle.ach_records.specs.declared.fault.RecordFault.TheVariants as faults
use Rattle.ach_records.specs.declared.Kind.{Kind}
use Rattle.ach_records.specs.declared.Kind.TheVariants as kinds

all_of_prefix : (p : ℕ → Bool) (xs : List ℕ) → length xs ≤ prefix_len (λ x. not (not (p x))) xs → list_all p xs ≡ true
all_of_prefix p [] le = refl
all_of_prefix p (x ∷ xs) le =
    elim (cases_Bool (p x)) [
      | inl e ↦ let rest : length xs ≤ prefix_len (λ y. not (not (p y))) xs = omega (arith, rw e at le) in rw (e, all_of_prefix p xs rest) refl
      | inr e ↦ absurd (omega (arith, rw e at le))
    ]

no_position : (n m : ℕ) → ◌≡◌ {A = Option ℕ} (cond (nat_lt n m) (Some n) None) None → m ≤ n
no_position n m e =
    elim (cases_Bool (nat_lt n m)) [
      | inl lt ↦ let h : ◌≡◌ {A = Option ℕ} (Some n) None = rw lt at e in absurd cc
      | inr ge ↦ ltb-false n m ge
    ]

pub all_if_none : (p : ℕ → Bool) (xs : List ℕ) → position (λ x. not (p x)) xs ≡ None → list_all p xs ≡ true
all_if_none p xs e = all_of_prefix p xs (no_position (position_or_len (λ x. not (p x)) xs) (length xs) e)

prefix_of_all : (p : ℕ → Bool) (xs : List ℕ) → list_all p xs ≡ true → length xs ≤ prefix_len (λ x. not (not (p x))) xs
prefix_of_all p [] h = omega arith
prefix_of_all p (x ∷ xs) h =
    let q = and_parts (p x) (list_all p xs) h in
    rw q.0 (omega (arith, prefix_of_all p xs q.1))

pub none_if_all : (p : ℕ → Bool) (xs : List ℕ) → list_all p xs ≡ true → position (λ x. not (p x)) xs ≡ None
none_if_all p xs h = rw (le-ltb (position_or_len (λ x. not (p x)) xs) (length xs) (prefix_of_all p xs h)) refl

-- ---- options

map_none : {A B : Type 0} (f : A → B) (o : Option A) → option_map f o ≡ None → o ≡ None
map_none f (Some x) h = absurd cc
map_none f None h = refl

or_none : {A : Type 0} (o p : Option A) → option_or o p ≡ None → (o ≡ None) × (p ≡ None)
or_none (Some x) p h = absurd cc
or_none None p h = (refl, h)

-- ---- digits

abbrev fields_pass : List (ℕ × ℕ) → List ℕ → Bool
fields_pass fs text = list_all (λ f. list_all is_digit (part f.0 f.1 text)) fs

digits_if_no_fault : (fs : List (ℕ × ℕ)) (text : List ℕ) → digit_fault fs text ≡ None → fields_pass fs text ≡ true
unfolding digit_fault
digits_if_no_fault [] text h = refl
digits_if_no_fault (f ∷ fs) text h =
    let p = or_none (bad_digit f.0 f.1 text) (digit_fault fs text) h in
    and_from _ _ (all_if_none is_digit (part f.0 f.1 text) (map_none (λ i. f.0 + i + 1) _ p.0)) (digits_if_no_fault fs text p.1)

no_fault_if_digits : (fs : List (ℕ × ℕ)) (text : List ℕ) → fields_pass fs text ≡ true → digit_fault fs text ≡ None
unfolding digit_fault
no_fault_if_digits [] text h = refl
no_fault_if_digits (f ∷ fs) text h =
    let p = and_parts (list_all is_digit (part f.0 f.1 text)) (fields_pass fs text) h in
    rw (none_if_all is_digit (part f.0 f.1 text) p.0) (no_fault_if_digits fs text p.1)

-- ---- records

known_kind : (kind : Kind) (text : List ℕ) → kind_fault kind text ≡ None → (is_record_kind kind ≡ true) × (digit_fault (digit_fields kind) text ≡ None)
known_kind kinds.Other text h = absurd cc
known_kind kinds.OtherAddenda text h = absurd cc
known_kind kinds.FileHeader text h = (refl, map_none faults.BadNumber _ h)
known_kind kinds.BatchHeader text h = (refl, map_none faults.BadNumber _ h)
known_kind kinds.Entry text h = (refl, map_none faults.BadNumber _ h)
known_kind kinds.Addenda05 text h = (refl, map_none faults.BadNumber _ h)
known_kind kinds.Change98 text h = (refl, map_none faults.BadNumber _ h)
known_kind kinds.Return99 text h = (refl, map_none faults.BadNumber _ h)
known_kind kinds.BatchControl text h = (refl, map_none faults.BadNumber _ h)
known_kind kinds.FileControl text h = (refl, map_none faults.BadNumber _ h)
known_kind kinds.Filler text h = (refl, map_none faults.BadNumber _ h)

pub is_record : (text : List ℕ) → length text ≡ 94 → view_fault text ≡ None → IsRecord (kind_of text) text
unfolding view_fault has_digits
is_record text len h =
    let p = or_none (option_map faults.BadByte (bad_byte text)) (kind_fault (kind_of text) text) h in
    let k = known_kind (kind_of text) text p.1 in
    record {
      known = k.0;
      len = len;
      printable = all_if_none is_printable text (map_none (λ i. i + 1) _ (map_none faults.BadByte _ p.0));
      kind_is = refl;
      digits = digits_if_no_fault (digit_fields (kind_of text)) text k.1;
    }

kind_passes : (kind : Kind) (text : List ℕ) → is_record_kind kind ≡ true → digit_fault (digit_fields kind) text ≡ None → kind_fault kind text ≡ None
kind_passes kinds.Other text k h = absurd cc
kind_passes kinds.OtherAddenda text k h = absurd cc
kind_passes kinds.FileHeader text k h = ap (option_map faults.BadNumber) h
kind_passes kinds.BatchHeader text k h = ap (option_map faults.BadNumber) h
kind_passes kinds.Entry text k h = ap (option_map faults.BadNumber) h
kind_passes kinds.Addenda05 text k h = ap (option_map faults.BadNumber) h
kind_passes kinds.Change98 text k h = ap (option_map faults.BadNumber) h
kind_passes kinds.Return99 text k h = ap (option_map faults.BadNumber) h
kind_passes kinds.BatchControl text k h = ap (option_map faults.BadNumber) h
kind_passes kinds.FileControl text k h = ap (option_map faults.BadNumber) h
kind_passes kinds.Filler text k h = ap (option_map faults.BadNumber) h

pub no_fault : (kind : Kind) (text : List ℕ) → IsRecord kind text → view_fault text ≡ None
unfolding view_fault has_digits
no_fault kind text r =
    let none = none_if_all is_printable text r.printable in
    let passes = kind_passes kind text r.known (no_fault_if_digits (digit_fields kind) text r.digits) in
    rw (none, r.kind_is) passes
