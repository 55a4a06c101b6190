-- A printed record is viewed as its kind, with its fields.
use Rattle.std.proofs.Common.{◌≡◌, ℕ, ◌+◌, ◌==◌, Bool, true, false, ◌&&◌, List, [], ◌∷◌, ◌++◌, map, length, slice_index, refl, subst, sym, ap, ◌∙◌}
use Rattle.std.specs.List.{list_all, flat_map, sum_by}
use Rattle.std.proofs.lemmas.Bool.{and_parts, and_from}
use Rattle.std.proofs.lemmas.List.Sums.{sum_by-cons}
use Rattle.std.proofs.lemmas.List.Folds.{list_all-append}
use Rattle.std.proofs.lemmas.List.Concat.{flat_map-append}
use Rattle.ach_fields.specs.Characters.{is_digit}
use Rattle.ach_fields.specs.Text.{with_blanks_after}
use Rattle.ach_records.specs.Layout.{Column, Class, Fixed, Digits, Text, Blank, layout, part, fields_from, fields_of, digit_fields_from, with_digits}
use Rattle.ach_records.specs.Record.{kind_of, kind_by_first, addenda_kind, has_digits, is_record_kind}
use Rattle.ach_records.specs.Print.{Value, Constant, Number, Words, width_of, value_bytes, value_fits, row_fits, row_text, file_header_row, batch_header_row, entry_row, addenda05_row, change98_row, return99_row, batch_control_row, file_control_row, filler_row}
use Rattle.ach_records.specs.Laws.{SayAll, IsViewedIfPrinted, PrintedIsViewed, widths, text_of_fields}
use Rattle.ach_records.specs.declared.Kind.{Kind}
use Rattle.ach_records.specs.declared.Kind.TheVariants as kinds
use Rattle.ach_records.specs.declared.print.FileHeaderText.{FileHeaderText}
use Rattle.ach_records.specs.declared.print.BatchHeaderText.{BatchHeaderText}
use Rattle.ach_records.specs.declared.print.EntryText.{EntryText}
use Rattle.ach_records.specs.declared.print.Addenda05Text.{Addenda05Text}
use Rattle.ach_records.specs.declared.print.Change98Text.{Change98Text}
use Rattle.ach_records.specs.declared.print.Return99Text.{Return99Text}
use Rattle.ach_records.specs.declared.print.BatchControlText.{BatchControlText}
use Rattle.ach_records.specs.declared.print.FileControlText.{FileControlText}
use Rattle.ach_records.proofs.Texts.{value_len, row_len, row_printable, is_plain, is_number, value_digits, width_number_or_blanks, plain_number_or_blanks}
use Rattle.ach_records.proofs.Cuts.{fields_cut, widths_sum}
use Rattle.ach_records.proofs.Said.{say_all}

-- ---- the fields of a row

bytes_long : (vs : List Value) → row_fits vs ≡ true → map length (map value_bytes vs) ≡ map width_of vs
unfolding row_fits
bytes_long [] h = refl
bytes_long (v ∷ vs) h =
    let p = and_parts (value_fits v) (list_all value_fits vs) h in
    (λ i. value_len v p.0 i ∷ bytes_long vs p.1 i)

joined_is : (vs : List Value) → text_of_fields (map value_bytes vs) ≡ row_text vs
unfolding row_text
joined_is [] = refl
joined_is (v ∷ vs) = ap (λ (l : List ℕ). value_bytes v ++ l) (joined_is vs)

row_fields : (kind : Kind) (vs : List Value) → row_fits vs ≡ true → map width_of vs ≡ widths kind → fields_of kind (row_text vs) ≡ map value_bytes vs
row_fields kind vs h w = ap (fields_of kind) (sym (joined_is vs)) ∙ fields_cut kind (map value_bytes vs) (bytes_long vs h ∙ w)

-- ---- its digit fields

abbrev needs_number : Class → Value → Bool
needs_number Digits v = is_number v
needs_number _ v = true

-- each column of digits has a number
abbrev numbers_fit : List Column → List Value → Bool
numbers_fit [] vs = true
numbers_fit (c ∷ cs) [] = true
numbers_fit (c ∷ cs) (v ∷ vs) = needs_number c.class v && numbers_fit cs vs

abbrev digits_pass : List (ℕ × ℕ) → List ℕ → Bool
digits_pass fs text = list_all (λ f. list_all is_digit (part f.0 f.1 text)) fs

with_more : (class : Class) (from width : ℕ) (rest : List (ℕ × ℕ)) (text : List ℕ) (v : Value) → part from width text ≡ value_bytes v → needs_number class v ≡ true
    → digits_pass rest text ≡ true → digits_pass (with_digits class from width rest) text ≡ true
with_more (Fixed t) from width rest text v e n h = h
with_more Digits from width rest text v e n h = and_from _ _ (ap (list_all is_digit) e ∙ value_digits v n) h
with_more Text from width rest text v e n h = h
with_more Blank from width rest text v e n h = h

parts_of : (x y : List ℕ) (xs ys : List (List ℕ)) → ◌≡◌ {A = List (List ℕ)} (x ∷ xs) (y ∷ ys) → (x ≡ y) × (xs ≡ ys)
parts_of x y xs ys h = (cc, cc)

digits_in : (cs : List Column) (from : ℕ) (text : List ℕ) (vs : List Value) → fields_from from cs text ≡ map value_bytes vs → numbers_fit cs vs ≡ true
    → digits_pass (digit_fields_from from cs) text ≡ true
digits_in [] from text vs e n = refl
digits_in (c ∷ cs) from text [] e n = absurd cc
digits_in (c ∷ cs) from text (v ∷ vs) e n =
    let p = parts_of (part from c.width text) (value_bytes v) (fields_from (from + c.width) cs text) (map value_bytes vs) e in
    let q = and_parts (needs_number c.class v) (numbers_fit cs vs) n in
    with_more c.class from c.width (digit_fields_from (from + c.width) cs) text v p.0 q.0 (digits_in cs (from + c.width) text vs p.1 q.1)

-- ---- a row by its table

widths_total : (vs : List Value) (cs : List Column) → map width_of vs ≡ map (λ c. c.width) cs → sum_by width_of vs ≡ sum_by (λ c. c.width) cs
widths_total [] [] e = refl
widths_total [] (c ∷ cs) e = absurd cc
widths_total (v ∷ vs) [] e = absurd cc
widths_total (v ∷ vs) (c ∷ cs) e =
    let one : width_of v ≡ c.width = cc in
    let rest : map width_of vs ≡ map (λ d. d.width) cs = cc in
    sum_by-cons width_of v vs ∙ (λ i. one i + widths_total vs cs rest i) ∙ sym (sum_by-cons (λ (d : Column). d.width) c cs)

record Suits (kind : Kind) (vs : List Value) : Type 0 where
  known : is_record_kind kind ≡ true
  wide : map width_of vs ≡ widths kind
  plain : list_all is_plain vs ≡ true
  numbers : numbers_fit (layout kind) vs ≡ true
  kind_is : kind_of (row_text vs) ≡ kind

viewed : (kind : Kind) (vs : List Value) → Suits kind vs → IsViewedIfPrinted kind vs
unfolding has_digits
viewed kind vs s h =
    let fields = row_fields kind vs h s.wide in
    record {
      is_record = record {
        known = s.known;
        len = row_len vs h ∙ widths_total vs (layout kind) s.wide ∙ widths_sum kind s.known;
        printable = row_printable vs h s.plain;
        kind_is = s.kind_is;
        digits = digits_in (layout kind) 0 (row_text vs) vs fields s.numbers;
      };
      fields = subst (SayAll vs) (sym fields) (say_all vs h);
    }

-- ---- the nine rows

abbrev nine : ℕ → Bool
nine b = b == 57

and_false : (b : Bool) → (b && false) ≡ false
and_false true = refl
and_false false = refl

-- a row that ends in blanks is not a filler
ends_blank : (vs : List Value) → list_all nine (row_text (vs ++ Words 39 [] ∷ [])) ≡ false
unfolding row_text with_blanks_after
ends_blank vs =
    let last : list_all nine (flat_map value_bytes (Words 39 [] ∷ [])) ≡ false = refl in
    ap (list_all nine) (flat_map-append value_bytes vs (Words 39 [] ∷ []))
    ∙ list_all-append nine (flat_map value_bytes vs) (flat_map value_bytes (Words 39 [] ∷ []))
    ∙ ap (λ (b : Bool). list_all nine (flat_map value_bytes vs) && b) last
    ∙ and_false (list_all nine (flat_map value_bytes vs))

file_header : (h : FileHeaderText) → Suits kinds.FileHeader (file_header_row h)
unfolding kind_of kind_by_first row_text
file_header h = record {
  known = refl;
  wide = λ i. 1 ∷ 2 ∷ 10 ∷ 10 ∷ 6 ∷ width_number_or_blanks 4 h.time i ∷ 1 ∷ 3 ∷ 2 ∷ 1 ∷ 23 ∷ 23 ∷ 8 ∷ [];
  plain = ap (λ b. b && true) (plain_number_or_blanks 4 h.time);
  numbers = refl;
  kind_is = refl;
}

batch_header : (h : BatchHeaderText) → Suits kinds.BatchHeader (batch_header_row h)
unfolding kind_of kind_by_first row_text
batch_header h = record {
  known = refl;
  wide = λ i. 1 ∷ 3 ∷ 16 ∷ 20 ∷ 10 ∷ 3 ∷ 10 ∷ 6 ∷ 6 ∷ width_number_or_blanks 3 h.settlement i ∷ 1 ∷ 8 ∷ 7 ∷ [];
  plain = ap (λ b. b && true) (plain_number_or_blanks 3 h.settlement);
  numbers = refl;
  kind_is = refl;
}

entry : (e : EntryText) → Suits kinds.Entry (entry_row e)
unfolding kind_of kind_by_first row_text
entry e = record { known = refl; wide = refl; plain = refl; numbers = refl; kind_is = refl }

addenda05 : (a : Addenda05Text) → Suits kinds.Addenda05 (addenda05_row a)
unfolding kind_of kind_by_first addenda_kind row_text
addenda05 a = record { known = refl; wide = refl; plain = refl; numbers = refl; kind_is = refl }

change98 : (c : Change98Text) → Suits kinds.Change98 (change98_row c)
unfolding kind_of kind_by_first addenda_kind row_text
change98 c = record { known = refl; wide = refl; plain = refl; numbers = refl; kind_is = refl }

return99 : (r : Return99Text) → Suits kinds.Return99 (return99_row r)
unfolding kind_of kind_by_first addenda_kind row_text
return99 r = record { known = refl; wide = refl; plain = refl; numbers = refl; kind_is = refl }

batch_control : (c : BatchControlText) → Suits kinds.BatchControl (batch_control_row c)
unfolding kind_of kind_by_first row_text
batch_control c = record { known = refl; wide = refl; plain = refl; numbers = refl; kind_is = refl }

prefix : FileControlText → List Value
prefix c = Constant (57 ∷ []) ∷ Number 6 c.batches ∷ Number 6 c.blocks ∷ Number 8 c.count ∷ Number 10 c.hash ∷ Number 12 c.debits ∷ Number 12 c.credits ∷ []

not_nines : (c : FileControlText) → list_all nine (row_text (file_control_row c)) ≡ false
unfolding prefix
not_nines c = ends_blank (prefix c)

first_nine : (c : FileControlText) → kind_by_first (slice_index (row_text (file_control_row c)) 0) (row_text (file_control_row c)) ≡ kinds.FileControl
unfolding kind_by_first row_text
first_nine c = refl

file_control : (c : FileControlText) → Suits kinds.FileControl (file_control_row c)
unfolding kind_of
file_control c = record { known = refl; wide = refl; plain = refl; numbers = refl; kind_is = rw (not_nines c) (first_nine c) }

filler : Suits kinds.Filler filler_row
unfolding kind_of row_text
filler = record { known = refl; wide = refl; plain = refl; numbers = refl; kind_is = refl }

pub printed_is_viewed : PrintedIsViewed
printed_is_viewed = record {
  file_header = λ h. viewed kinds.FileHeader (file_header_row h) (file_header h);
  batch_header = λ h. viewed kinds.BatchHeader (batch_header_row h) (batch_header h);
  entry = λ e. viewed kinds.Entry (entry_row e) (entry e);
  addenda05 = λ a. viewed kinds.Addenda05 (addenda05_row a) (addenda05 a);
  change98 = λ c. viewed kinds.Change98 (change98_row c) (change98 c);
  return99 = λ r. viewed kinds.Return99 (return99_row r) (return99 r);
  batch_control = λ c. viewed kinds.BatchControl (batch_control_row c) (batch_control c);
  file_control = λ c. viewed kinds.FileControl (file_control_row c) (file_control c);
  filler = viewed kinds.Filler filler_row filler;
}
