-- Values that fields say.
use Rattle.std.proofs.Common.{◌≡◌, ℕ, zero, suc, ◌+◌, ◌-◌, ◌*◌, ◌<◌, ◌≤◌, ◌^◌, true, List, [], ◌∷◌, ◌++◌, map, length, take, replicate, refl, sym, ap, ◌∙◌, arith, subst, length-append}
use Rattle.std.specs.Prelude.{nat_le}
use Rattle.std.specs.List.{list_all}
use Rattle.std.proofs.lemmas.Bool.{and_parts, and_from, ltb-true, lt-ltb, leb-true, le-leb}
use Rattle.std.proofs.lemmas.List.{take_all}
use Rattle.std.proofs.lemmas.List.Folds.{list_all-append}
use Rattle.std.proofs.lemmas.Nat.{pow-add}
use Rattle.ach_fields.specs.Characters.{is_printable}
use Rattle.ach_fields.specs.Digits.{number, digits, AreDigits}
use Rattle.ach_fields.specs.Text.{with_blanks_after}
use Rattle.ach_fields.proofs.Digits.{length-digits, number-digits, AreDigits-digits, digits-number, number_more, digit_at}
use Rattle.ach_fields.proofs.Texts.{length-with_blanks_after}
use Rattle.ach_records.specs.Layout.{fields_of}
use Rattle.ach_records.specs.Record.{IsRecord}
use Rattle.ach_records.specs.Print.{Value, Constant, Number, Words, value_bytes, value_fits, row_fits, row_text}
use Rattle.ach_records.specs.Laws.{Says, SayAll, Spells, text_of_fields}
use Rattle.ach_records.specs.declared.Kind.{Kind}
use Rattle.ach_records.proofs.Cuts.{fields_joined}

-- ---- what is printed says the value

says : (v : Value) → value_fits v ≡ true → Says v (value_bytes v)
says (Constant text) h = refl
says (Number w n) h = record { long = length-digits w n; digits = AreDigits-digits w n; value = number-digits w n (ltb-true n (10 ^ w) h) }
says (Words w t) h = (length-with_blanks_after w t (leb-true _ _ ((and_parts (nat_le (length t) w) (list_all is_printable t) h).0)), refl)

pub say_all : (vs : List Value) → row_fits vs ≡ true → SayAll vs (map value_bytes vs)
unfolding row_fits
say_all [] h = tt
say_all (v ∷ vs) h = let p = and_parts (value_fits v) (list_all value_fits vs) h in (says v p.0, say_all vs p.1)

-- ---- what says the value is printed

nothing : (s : List ℕ) → number (take 0 s) < 10 ^ 0
unfolding number
nothing s = omega arith

-- a number of k digits is below the k-th power of ten
pub number_below : (k : ℕ) (s : List ℕ) → k ≤ length s → AreDigits s → number (take k s) < 10 ^ k
number_below zero s le h = nothing s
number_below (suc k) s le h =
    let one : suc k ≡ k + 1 = omega arith in
    let lt : k < length s = omega arith in
    let d = digit_at s k h lt in
    let more = number_more s k lt in
    let below = number_below k s (omega arith) h in
    let ten : 10 ^ (k + 1) ≡ 10 ^ k * 10 = pow-add 10 k 1 in
    let step : number (take (k + 1) s) < 10 ^ (k + 1) = omega (arith, more, below, ten, d.0, d.1) in
    subst (λ (n : ℕ). number (take n s) < 10 ^ n) (sym one) step

number_bytes : (w n : ℕ) (bytes : List ℕ) → Spells w n bytes → (n < 10 ^ w) × (digits w n ≡ bytes)
number_bytes w n bytes s =
    let all : take (length bytes) bytes ≡ bytes = take_all (length bytes) bytes (omega arith) in
    let below : number (take (length bytes) bytes) < 10 ^ length bytes = number_below (length bytes) bytes (omega arith) s.digits in
    let there : number bytes < 10 ^ length bytes = subst (λ (l : List ℕ). number l < 10 ^ length bytes) all below in
    (subst (λ (k : ℕ). k < 10 ^ w) s.value (subst (λ (k : ℕ). number bytes < 10 ^ k) s.long there), (λ i. digits (sym s.long i) (sym s.value i)) ∙ digits-number bytes s.digits)

words_bytes : (w : ℕ) (t bytes : List ℕ) → length bytes ≡ w → bytes ≡ with_blanks_after w t → list_all is_printable bytes ≡ true → value_fits (Words w t) ≡ true
unfolding with_blanks_after
words_bytes w t bytes long e h =
    let len : length (t ++ replicate (w - length t) 32) ≡ w = ap length (sym e) ∙ long in
    let short : length t ≤ w = omega (arith, len, length-append t (replicate (w - length t) 32)) in
    let both : list_all is_printable (t ++ replicate (w - length t) 32) ≡ true = ap (list_all is_printable) (sym e) ∙ h in
    let parts = and_parts (list_all is_printable t) (list_all is_printable (replicate (w - length t) 32)) (sym (list_all-append is_printable t (replicate (w - length t) 32)) ∙ both) in
    and_from _ _ (le-leb (length t) w short) parts.0

said : (v : Value) (bytes : List ℕ) → Says v bytes → list_all is_printable bytes ≡ true → (value_fits v ≡ true) × (value_bytes v ≡ bytes)
said (Constant text) bytes s h = (refl, sym s)
said (Number w n) bytes s h = let p = number_bytes w n bytes s in (lt-ltb n (10 ^ w) p.0, p.1)
said (Words w t) bytes s h = (words_bytes w t bytes s.0 s.1 h, sym s.1)

all_said : (vs : List Value) (fs : List (List ℕ)) → SayAll vs fs → list_all is_printable (text_of_fields fs) ≡ true → (row_fits vs ≡ true) × (row_text vs ≡ text_of_fields fs)
unfolding row_fits row_text
all_said [] [] s h = (refl, refl)
all_said [] (f ∷ fs) s h = absurd s
all_said (v ∷ vs) [] s h = absurd s
all_said (v ∷ vs) (f ∷ fs) s h =
    let parts = and_parts (list_all is_printable f) (list_all is_printable (text_of_fields fs)) (sym (list_all-append is_printable f (text_of_fields fs)) ∙ h) in
    let one = said v f s.0 parts.0 in
    let rest = all_said vs fs s.1 parts.1 in
    (and_from _ _ one.0 rest.0, λ i. one.1 i ++ rest.1 i)

pub viewed_is_printed : (kind : Kind) (text : List ℕ) (values : List Value) → IsRecord kind text → SayAll values (fields_of kind text) → (row_fits values ≡ true) × (row_text values ≡ text)
viewed_is_printed kind text values r s =
    let whole = fields_joined kind text r in
    let p = all_said values (fields_of kind text) s (ap (list_all is_printable) whole ∙ r.printable) in
    (p.0, p.1 ∙ whole)
