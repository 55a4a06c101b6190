-- The text of a row: its fields by position, its digits and its characters.
use Rattle.std.proofs.Common.{◌≡◌, ℕ, zero, suc, ◌-◌, ◌<◌, ◌^◌, Bool, true, false, List, [], ◌∷◌, ◌++◌, length, replicate, take, Option, Some, None, ap, sym, ◌∙◌, refl, arith, length-append, get_or, take_at}
use Rattle.std.specs.List.{list_all, sum_by, flat_map}
use Rattle.std.proofs.lemmas.Bool.{and_parts, and_from, leb-true, ltb-true, le-leb}
use Rattle.std.proofs.lemmas.List.{append-nil, drop_at}
use Rattle.std.proofs.lemmas.List.Sums.{sum_by-cons}
use Rattle.std.proofs.lemmas.List.Folds.{list_all-append}
use Rattle.std.proofs.lemmas.List.Concat.{flat_map-append}
use Rattle.ach_fields.specs.Characters.{is_digit, is_printable}
use Rattle.ach_fields.specs.Digits.{number, digits, AreDigits}
use Rattle.ach_fields.specs.Text.{with_blanks_after}
use Rattle.ach_fields.proofs.Digits.{length-digits, number-digits, AreDigits-digits, digit_bounds}
use Rattle.ach_fields.proofs.Texts.{length-with_blanks_after}
use Rattle.ach_records.specs.Layout.{part}
use Rattle.ach_records.specs.Print.{Value, Constant, Number, Words, width_of, value_bytes, value_fits, row_fits, row_text, number_or_blanks}

-- a field in its place
pub part_is : (before text after : List ℕ) (from width : ℕ) → length before ≡ from → length text ≡ width → part from width (before ++ (text ++ after)) ≡ text
unfolding part
part_is before text after from width e f = ap (take width) (drop_at before (text ++ after) from e) ∙ take_at text after width f

-- each field of a row that has a text has one
pub fit_in : (vs : List Value) (i : ℕ) → row_fits vs ≡ true → value_fits (get_or vs i (Constant [])) ≡ true
unfolding row_fits
fit_in [] i h = refl
fit_in (v ∷ vs) zero h = (and_parts _ _ h).0
fit_in (v ∷ vs) (suc i) h = fit_in vs i ((and_parts _ _ h).1)

-- fields in the midst of a row, by position
pub part_of_row : (before mid after : List Value) (from width : ℕ) → length (row_text before) ≡ from → length (row_text mid) ≡ width → part from width (row_text (before ++ (mid ++ after))) ≡ row_text mid
unfolding row_text
part_of_row before mid after from width e f =
    let one : flat_map value_bytes (before ++ (mid ++ after)) ≡ flat_map value_bytes before ++ (flat_map value_bytes mid ++ flat_map value_bytes after)
    = flat_map-append value_bytes before (mid ++ after) ∙ ap (λ (l : List ℕ). flat_map value_bytes before ++ l) (flat_map-append value_bytes mid after) in
    ap (part from width) one ∙ part_is (flat_map value_bytes before) (flat_map value_bytes mid) (flat_map value_bytes after) from width e f

pub value_len : (v : Value) → value_fits v ≡ true → length (value_bytes v) ≡ width_of v
value_len (Constant text) h = refl
value_len (Number width n) h = length-digits width n
value_len (Words width text) h = length-with_blanks_after width text (leb-true _ _ ((and_parts _ _ h).0))

pub row_len : (vs : List Value) → row_fits vs ≡ true → length (row_text vs) ≡ sum_by width_of vs
unfolding row_fits row_text
row_len [] h = refl
row_len (v ∷ vs) h =
    let p = and_parts (value_fits v) (list_all value_fits vs) h in
    length-append (value_bytes v) (flat_map value_bytes vs) ∙ omega (arith, value_len v p.0, row_len vs p.1, sum_by-cons width_of v vs)

fits_append : (a b : List Value) → row_fits (a ++ b) ≡ true → (row_fits a ≡ true) × (row_fits b ≡ true)
unfolding row_fits
fits_append a b h = and_parts _ _ (sym (list_all-append value_fits a b) ∙ h)

-- the fields in one part of a row
pub part_at : (before mid after : List Value) (from width : ℕ) → row_fits (before ++ (mid ++ after)) ≡ true → sum_by width_of before ≡ from → sum_by width_of mid ≡ width →
    part from width (row_text (before ++ (mid ++ after))) ≡ row_text mid
part_at before mid after from width h e f =
    let p = fits_append before (mid ++ after) h in
    let q = fits_append mid after p.1 in
    part_of_row before mid after from width (row_len before p.0 ∙ e) (row_len mid q.0 ∙ f)

-- one field of it
pub field_at : (before : List Value) (v : Value) (after : List Value) (from width : ℕ) → row_fits (before ++ (v ∷ after)) ≡ true → sum_by width_of before ≡ from → width_of v ≡ width →
    part from width (row_text (before ++ (v ∷ after))) ≡ value_bytes v
unfolding row_text
field_at before v after from width h e f = part_at before (v ∷ []) after from width h e (sum_by-cons width_of v [] ∙ omega (arith, f)) ∙ append-nil (value_bytes v)

-- a number of it
pub number_in : (before : List Value) (width n : ℕ) (after : List Value) (from : ℕ) → row_fits (before ++ (Number width n ∷ after)) ≡ true → sum_by width_of before ≡ from →
    number (part from width (row_text (before ++ (Number width n ∷ after)))) ≡ n
number_in before width n after from h e =
    let p = fits_append before (Number width n ∷ after) h in
    let lt : n < 10 ^ width = ltb-true n (10 ^ width) (fit_in (Number width n ∷ after) 0 p.1) in
    ap number (field_at before (Number width n) after from width h e refl) ∙ number-digits width n lt

-- a field of digits
abbrev pub is_number : Value → Bool
is_number (Constant text) = list_all is_digit text
is_number (Number width n) = true
is_number (Words width text) = false

pub value_digits : (v : Value) → is_number v ≡ true → list_all is_digit (value_bytes v) ≡ true
value_digits (Constant text) h = h
value_digits (Number width n) h = AreDigits-digits width n
value_digits (Words width text) h = absurd cc

pub row_digits : (vs : List Value) → list_all is_number vs ≡ true → list_all is_digit (row_text vs) ≡ true
unfolding row_text
row_digits [] h = refl
row_digits (v ∷ vs) h =
    let p = and_parts (is_number v) (list_all is_number vs) h in
    list_all-append is_digit (value_bytes v) (flat_map value_bytes vs) ∙ and_from _ _ (value_digits v p.0) (row_digits vs p.1)

-- digits in the midst of a row
pub digits_at : (before mid after : List Value) (from width : ℕ) → row_fits (before ++ (mid ++ after)) ≡ true → sum_by width_of before ≡ from → sum_by width_of mid ≡ width → list_all is_number mid ≡ true →
    AreDigits (part from width (row_text (before ++ (mid ++ after))))
digits_at before mid after from width h e f g = rw (part_at before mid after from width h e f) (row_digits mid g)

-- ---- printable

abbrev pub is_plain : Value → Bool
is_plain (Constant text) = list_all is_printable text
is_plain _ = true

digit_printable : (b : ℕ) → is_digit b ≡ true → is_printable b ≡ true
digit_printable b h = let d = digit_bounds b h in and_from _ _ (le-leb 32 b (omega (arith, d.0))) (le-leb b 126 (omega (arith, d.1)))

digits_printable : (text : List ℕ) → list_all is_digit text ≡ true → list_all is_printable text ≡ true
digits_printable [] h = refl
digits_printable (b ∷ text) h = let p = and_parts (is_digit b) (list_all is_digit text) h in and_from _ _ (digit_printable b p.0) (digits_printable text p.1)

blanks_printable : (n : ℕ) → list_all is_printable (replicate n 32) ≡ true
blanks_printable zero = refl
blanks_printable (suc n) = blanks_printable n

words_printable : (width : ℕ) (text : List ℕ) → list_all is_printable text ≡ true → list_all is_printable (with_blanks_after width text) ≡ true
unfolding with_blanks_after
words_printable width text h = list_all-append is_printable text (replicate (width - length text) 32) ∙ and_from _ _ h (blanks_printable (width - length text))

value_printable : (v : Value) → value_fits v ≡ true → is_plain v ≡ true → list_all is_printable (value_bytes v) ≡ true
value_printable (Constant text) h p = p
value_printable (Number width n) h p = digits_printable (digits width n) (AreDigits-digits width n)
value_printable (Words width text) h p = words_printable width text ((and_parts _ _ h).1)

pub row_printable : (vs : List Value) → row_fits vs ≡ true → list_all is_plain vs ≡ true → list_all is_printable (row_text vs) ≡ true
unfolding row_fits row_text
row_printable [] h p = refl
row_printable (v ∷ vs) h p =
    let q = and_parts _ _ h in
    let r = and_parts (is_plain v) (list_all is_plain vs) p in
    list_all-append is_printable (value_bytes v) (flat_map value_bytes vs) ∙ and_from _ _ (value_printable v q.0 r.0) (row_printable vs q.1 r.1)

pub width_number_or_blanks : (width : ℕ) (o : Option ℕ) → width_of (number_or_blanks width o) ≡ width
width_number_or_blanks width (Some n) = refl
width_number_or_blanks width None = refl

pub plain_number_or_blanks : (width : ℕ) (o : Option ℕ) → is_plain (number_or_blanks width o) ≡ true
plain_number_or_blanks width (Some n) = refl
plain_number_or_blanks width None = refl
