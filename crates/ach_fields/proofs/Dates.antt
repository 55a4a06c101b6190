-- Texts of dates.
use Rattle.std.proofs.Common.{◌≡◌, ℕ, ◌≤◌, ◌++◌, true, length, take, drop, take_at, ap, ◌∙◌, arith, length-append, append_assoc}
use Rattle.std.proofs.lemmas.List.{drop_at}
use Rattle.std.proofs.lemmas.List.Folds.{list_all-append}
use Rattle.std.proofs.lemmas.Bool.{and_from, and_parts, eq-eqb, leb-true}
use Rattle.ach_fields.specs.Characters.{is_digit}
use Rattle.ach_fields.specs.Digits.{digits, number}
use Rattle.ach_fields.specs.Ymd.{is_date, date_text, spells_date, is_date_text}
use Rattle.ach_fields.proofs.Digits.{length-digits, AreDigits-digits, number-digits}

-- what the test says
pub record IsDate (yy mm dd : ℕ) : Type 0 where
  pub year : yy ≤ 99
  pub month : mm ≤ 12
  pub day : dd ≤ 31

pub date-parts : (yy mm dd : ℕ) → is_date yy mm dd ≡ true → IsDate yy mm dd
date-parts yy mm dd h =
    let p = and_parts _ _ h in
    let q = and_parts _ _ p.0 in
    record {
      year = leb-true yy 99 q.0;
      month = leb-true mm 12 ((and_parts _ _ q.1).1);
      day = leb-true dd 31 ((and_parts _ _ p.1).1);
    }

spells : (yy mm dd : ℕ) → is_date yy mm dd ≡ true → spells_date (date_text yy mm dd) ≡ true
unfolding spells_date date_text
spells yy mm dd h =
    let p = date-parts yy mm dd h in
    let y = digits 2 yy in
    let m = digits 2 mm in
    let d = digits 2 dd in
    let whole : y ++ m ++ d ≡ y ++ (m ++ d) = append_assoc y m d in
    let yl : length y ≡ 2 = length-digits 2 yy in
    let ml : length m ≡ 2 = length-digits 2 mm in
    let yml : length (y ++ m) ≡ 4 = omega (arith, length-append y m, yl, ml) in
    let year : number (take 2 (y ++ m ++ d)) ≡ yy = ap (λ s. number (take 2 s)) whole ∙ ap number (take_at y (m ++ d) 2 yl) ∙ number-digits 2 yy (omega (arith, p.year)) in
    let after : drop 2 (y ++ m ++ d) ≡ m ++ d = ap (drop 2) whole ∙ drop_at y (m ++ d) 2 yl in
    let month : number (take 2 (drop 2 (y ++ m ++ d))) ≡ mm = ap (λ s. number (take 2 s)) after ∙ ap number (take_at m d 2 ml) ∙ number-digits 2 mm (omega (arith, p.month)) in
    let day : number (drop 4 (y ++ m ++ d)) ≡ dd = ap number (drop_at (y ++ m) d 4 yml) ∙ number-digits 2 dd (omega (arith, p.day)) in
    (λ i. is_date (year i) (month i) (day i)) ∙ h

pub date_text-is_date_text : (yy mm dd : ℕ) → is_date yy mm dd ≡ true → is_date_text (date_text yy mm dd) ≡ true
unfolding date_text
date_text-is_date_text yy mm dd h =
    let long : length (digits 2 yy ++ digits 2 mm ++ digits 2 dd) ≡ 6
    = omega (arith, length-append (digits 2 yy ++ digits 2 mm) (digits 2 dd), length-append (digits 2 yy) (digits 2 mm), length-digits 2 yy, length-digits 2 mm, length-digits 2 dd) in
    let two = list_all-append is_digit (digits 2 yy) (digits 2 mm) ∙ and_from _ _ (AreDigits-digits 2 yy) (AreDigits-digits 2 mm) in
    let plain = list_all-append is_digit (digits 2 yy ++ digits 2 mm) (digits 2 dd) ∙ and_from _ _ two (AreDigits-digits 2 dd) in
    and_from _ _ (eq-eqb _ _ long) (and_from _ _ plain (spells yy mm dd h))
