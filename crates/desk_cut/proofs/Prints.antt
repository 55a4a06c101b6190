-- Each field of what a cut sends has a text.
use Rattle.std.proofs.Common.{◌≡◌, ◌≤◌, ◌<◌, ◌^◌, ℕ, Bool, true, false, List, [], ◌∷◌, length, refl, arith, inl, inr}
use Rattle.std.specs.Prelude.{nat_le, nat_lt, if◌then◌else◌, ◌&&◌, ◌==◌}
use Rattle.std.specs.List.{list_all}
use Rattle.std.proofs.lemmas.Bool.{and_parts, and_from, or_cases, le-leb, leb-true, lt-ltb, eqb-true}
use Rattle.ach_fields.proofs.Digits.{digit_bounds}
use Rattle.ach_fields.specs.Characters.{is_digit, is_id_character, is_printable}
use Rattle.ach_fields.specs.Names.{is_id}
use Rattle.ach_fields.specs.Routing.{is_routing, most_dfi}
use Rattle.ach_fields.specs.Text.{is_short_text, is_trimmed}
use Rattle.ach_fields.specs.Trace.{is_trace, sequence_in, most_sequence}
use Rattle.ach_fields.specs.Ymd.{is_date_text, spells_date}
use Rattle.ach_records.specs.declared.print.BatchHeaderText.{BatchHeaderText}
use Rattle.ach_records.specs.declared.print.FileHeaderText.{FileHeaderText}
use Rattle.ach_records.specs.Print.{Words, value_fits, row_fits, file_header_row, batch_header_row, addenda05_row}
use Rattle.ach_records.specs.declared.print.Addenda05Text.{Addenda05Text}
use Rattle.ach_files.specs.declared.outgoing.OutgoingEntry.{OutgoingEntry}
use Rattle.ach_files.specs.Outgoing.{AllFit, addenda_rows, entry_rows, entry_fits}
use Rattle.desk_rules.specs.Fields.{most_entry_cents}

-- ---- characters

all_weaker : (p q : ℕ → Bool) → ((c : ℕ) → p c ≡ true → q c ≡ true) → (s : List ℕ) → list_all p s ≡ true → list_all q s ≡ true
all_weaker p q f [] h = refl
all_weaker p q f (c ∷ s) h = let t = and_parts (p c) (list_all p s) h in and_from _ _ (f c t.0) (all_weaker p q f s t.1)

digit_printable : (c : ℕ) → is_digit c ≡ true → is_printable c ≡ true
digit_printable c h = let d = digit_bounds c h in and_from _ _ (le-leb 32 c (omega (arith, d.0))) (le-leb c 126 (omega (arith, d.1)))

pub id_printable : (c : ℕ) → is_id_character c ≡ true → is_printable c ≡ true
id_printable c h = elim (or_cases (is_digit c) (nat_le 65 c && nat_le c 90) h) [
  | inl digit ↦ digit_printable c digit
  | inr letter ↦ let t = and_parts (nat_le 65 c) (nat_le c 90) letter in
      let low = leb-true 65 c t.0 in let high = leb-true c 90 t.1 in
      and_from _ _ (le-leb 32 c (omega (arith, low))) (le-leb c 126 (omega (arith, high)))
]

-- ---- fields

words_fit : (width : ℕ) (s : List ℕ) → length s ≤ width → list_all is_printable s ≡ true → value_fits (Words width s) ≡ true
words_fit width s short printable = and_from _ _ (le-leb (length s) width short) printable

digits_fit : (width : ℕ) (s : List ℕ) → length s ≤ width → list_all is_digit s ≡ true → value_fits (Words width s) ≡ true
digits_fit width s short digits = words_fit width s short (all_weaker is_digit is_printable digit_printable s digits)

text_fits : (width : ℕ) (s : List ℕ) → is_short_text width s ≡ true → value_fits (Words width s) ≡ true
text_fits width s h =
    let t = and_parts (nat_le (length s) width) (is_trimmed s && list_all is_printable s) h in
    and_from _ _ t.0 (and_parts (is_trimmed s) (list_all is_printable s) t.1).1

id_fits : (s : List ℕ) → is_id s ≡ true → value_fits (Words 10 s) ≡ true
id_fits s h =
    let t = and_parts (nat_le 1 (length s)) (nat_le (length s) 10 && list_all is_id_character s) h in
    let u = and_parts (nat_le (length s) 10) (list_all is_id_character s) t.1 in
    and_from _ _ u.0 (all_weaker is_id_character is_printable id_printable s u.1)

routing_fits : (s : List ℕ) → is_routing s ≡ true → value_fits (Words 10 (32 ∷ s)) ≡ true
routing_fits s h =
    let t = and_parts (length s == 9) _ h in
    let nine : length s ≡ 9 = eqb-true (length s) 9 t.0 in
    let digits = (and_parts (list_all is_digit s) _ t.1).0 in
    words_fit 10 (32 ∷ s) (omega (arith, nine)) (and_from _ _ refl (all_weaker is_digit is_printable digit_printable s digits))

date_fits : (s : List ℕ) → is_date_text s ≡ true → value_fits (Words 6 s) ≡ true
date_fits s h =
    let t = and_parts (length s == 6) (list_all is_digit s && spells_date s) h in
    let six : length s ≡ 6 = eqb-true (length s) 6 t.0 in
    digits_fit 6 s (omega (arith, six)) (and_parts (list_all is_digit s) (spells_date s) t.1).0

trace_fits : (s : List ℕ) → is_trace s ≡ true → value_fits (Words 15 s) ≡ true
trace_fits s h =
    let t = and_parts (length s == 15) (list_all is_digit s) h in
    let fifteen : length s ≡ 15 = eqb-true (length s) 15 t.0 in
    digits_fit 15 s (omega (arith, fifteen)) t.1

below : (n m : ℕ) → n < m → nat_lt n m ≡ true
below n m lt = lt-ltb n m lt

indicator_fits : (b : Bool) → nat_lt (if b then 1 else 0) 10 ≡ true
indicator_fits true = refl
indicator_fits false = refl

-- ---- rows

pub record HasTexts (e : OutgoingEntry) : Type 0 where
  pub transaction : e.transaction < 100
  pub dfi : e.dfi ≤ most_dfi
  pub check_digit : e.check_digit < 10
  pub account : is_short_text 17 e.account.now ≡ true
  pub cents : e.cents ≤ most_entry_cents
  pub identification : is_short_text 15 e.identification.now ≡ true
  pub name : is_short_text 22 e.name.now ≡ true
  pub trace : is_trace e.trace ≡ true
  pub addenda : AllFit (addenda_rows e.trace e.addenda)

pub entry_prints : (e : OutgoingEntry) → HasTexts e → entry_fits e ≡ true
unfolding entry_fits entry_rows row_fits
entry_prints e h =
    let transaction = h.transaction in
    let dfi = h.dfi in
    let check_digit = h.check_digit in
    let cents = h.cents in
    and_from _ _
    (and_from _ _ (below e.transaction (10 ^ 2) (omega (arith, transaction)))
    (and_from _ _ (below e.dfi (10 ^ 8) (omega (arith, dfi)))
    (and_from _ _ (below e.check_digit (10 ^ 1) (omega (arith, check_digit)))
    (and_from _ _ (text_fits 17 e.account.now h.account)
    (and_from _ _ (below e.cents (10 ^ 10) (omega (arith, cents)))
    (and_from _ _ (text_fits 15 e.identification.now h.identification)
    (and_from _ _ (text_fits 22 e.name.now h.name)
    (and_from _ _ (indicator_fits _)
    (and_from _ _ (trace_fits e.trace h.trace) refl)))))))))
    h.addenda

pub addenda_prints : (a : Addenda05Text) → is_short_text 80 a.information.now ≡ true → sequence_in a.trace ≤ most_sequence → AllFit (addenda05_row a ∷ [])
unfolding row_fits
addenda_prints a text sequence =
    and_from _ _ (and_from _ _ (text_fits 80 a.information.now text) (and_from _ _ (below (sequence_in a.trace) (10 ^ 7) (omega (arith, sequence))) refl)) refl

pub record HasHeaderTexts (h : BatchHeaderText) : Type 0 where
  pub service_class : h.service_class < 1000
  pub company_name : is_short_text 16 h.company_name.now ≡ true
  pub company : is_id h.company.now ≡ true
  pub sec : value_fits (Words 3 h.sec.now) ≡ true
  pub description : is_short_text 10 h.description.now ≡ true
  pub effective : is_date_text h.effective ≡ true
  pub odfi : h.odfi ≤ most_dfi
  pub number : h.number ≤ 1000

pub batch_header_prints : (h : BatchHeaderText) → HasHeaderTexts h → h.settlement ≡ Rattle.std.specs.Prelude.None → row_fits (batch_header_row h) ≡ true
unfolding row_fits
batch_header_prints h t none =
    let service_class = t.service_class in
    let odfi = t.odfi in
    let number = t.number in
    rw none (
    and_from _ _ (below h.service_class (10 ^ 3) (omega (arith, service_class)))
    (and_from _ _ (text_fits 16 h.company_name.now t.company_name)
    (and_from _ _ (id_fits h.company.now t.company)
    (and_from _ _ t.sec
    (and_from _ _ (text_fits 10 h.description.now t.description)
    (and_from _ _ (date_fits h.effective t.effective)
    (and_from _ _ (below h.odfi (10 ^ 8) (omega (arith, odfi)))
    (and_from _ _ (below h.number (10 ^ 7) (omega (arith, number))) refl)))))))
    )

pub record HasFileTexts (h : FileHeaderText) : Type 0 where
  pub destination : is_routing h.destination ≡ true
  pub origin : is_routing h.origin ≡ true
  pub date : is_date_text h.date ≡ true
  pub one : length h.modifier.now ≡ 1
  pub modifier : list_all is_printable h.modifier.now ≡ true
  pub destination_name : is_short_text 23 h.destination_name.now ≡ true
  pub origin_name : is_short_text 23 h.origin_name.now ≡ true

pub file_header_prints : (h : FileHeaderText) → HasFileTexts h → h.time ≡ Rattle.std.specs.Prelude.None → row_fits (file_header_row h) ≡ true
unfolding row_fits
file_header_prints h t none =
    let one = t.one in
    rw none (
    and_from _ _ (routing_fits h.destination t.destination)
    (and_from _ _ (routing_fits h.origin t.origin)
    (and_from _ _ (date_fits h.date t.date)
    (and_from _ _ (words_fit 1 h.modifier.now (omega (arith, one)) t.modifier)
    (and_from _ _ (text_fits 23 h.destination_name.now t.destination_name)
    (and_from _ _ (text_fits 23 h.origin_name.now t.origin_name) refl)))))
    )
