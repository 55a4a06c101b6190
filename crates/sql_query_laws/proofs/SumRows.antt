-- No two sums have one row, where the first is one of 128 bits.
use Rattle.std.proofs.Common.{◌≡◌, ◌≢◌, ◌<◌, ◌≤◌, ◌⊎◌, inl, inr, ◌+◌, ◌/◌, ◌%◌, ◌^◌, ℕ, zero, suc, ℤ, pos, negsuc, true, false, cond, List, [], ◌∷◌, length, sym, ap, subst, ◌∙◌, arith}
use Rattle.std.proofs.lemmas.Bool.{cases_order}
use Rattle.std.proofs.lemmas.Bool.Decides.{nat_tests}
use Rattle.std.proofs.lemmas.Fmt.{decimal_is_IsNumeral_wide, length-decimal-le_wide}
use Rattle.std.specs.Fmt.{digits, digits_onto, digit_glyph, decimal, signed_decimal}
use borrow.Author.Tests.{ne_eqb}
use Rattle.sqlite_value.specs.Order.{column}
use Rattle.desk_accounts.specs.Balance.{fits_i128}
use Rattle.desk_history.specs.declared.operations.DaySum.{DaySum}
use Rattle.sql_tables.specs.Columns.{decimal_text}
use Rattle.sql_tables.specs.QueryRows.{day_sum_row}
use Rattle.sql_tables.specs.RowRanges.{DaySumFits}
use Rattle.sql_query_laws.proofs.Injective.{text_in, number_in}

some : (k : ℕ) → 1 ≤ 10 ^ k
some zero = omega arith
some (suc k) = let h = some k in omega arith

long : (k n : ℕ) (acc : List ℕ) → 10 ^ k ≤ n → length (digits_onto k 10 false n acc) ≡ k + length acc
long zero n acc h = omega arith
long (suc k) n acc h =
    let p = some k in
    let more : n / 10 ≢ 0 = λ e. omega arith in
    let rest = long k (n / 10) (digit_glyph false (n % 10) ∷ acc) (omega arith) in
    ap (λ t. length (cond t (digit_glyph false (n % 10) ∷ acc) (digits_onto k 10 false (n / 10) (digit_glyph false (n % 10) ∷ acc)))) (ne_eqb (n / 10) 0 more) ∙ rest ∙ omega arith

-- its text has the 64 digits that it may have
longest : (n : ℕ) → 10 ^ 64 ≤ n → length (decimal n) ≡ 64
unfolding digits
longest n h = long 64 n [] h

short : (n : ℕ) → n ≤ 2 ^ 127 → length (decimal n) ≤ 39
short n h = length-decimal-le_wide 39 n (omega arith) (omega arith) (omega arith)

lengths_differ : (m n : ℕ) → m ≤ 2 ^ 127 → 10 ^ 64 ≤ n → decimal m ≡ decimal n → ⊥
lengths_differ m n small large e = let p = short m small in let q = longest n large in let r = ap length e in omega arith

naturals_apart : (m n : ℕ) → m ≤ 2 ^ 127 → decimal m ≡ decimal n → m ≡ n
naturals_apart m n small e = go (cases_order n (10 ^ 64))
  where
    go : (n ≡ 10 ^ 64) ⊎ ((n < 10 ^ 64) ⊎ (10 ^ 64 < n)) → m ≡ n
    go (inr (inl l)) =
        let p = (decimal_is_IsNumeral_wide m (omega arith)).1 in
        let q = (decimal_is_IsNumeral_wide n l).1 in
        cc
    go (inl same) = absurd (lengths_differ m n small (omega arith) e)
    go (inr (inr l)) = absurd (lengths_differ m n small (omega arith) e)

-- a digit is no minus sign
no_minus : (n : ℕ) (s : List ℕ) → n < 10 ^ 64 → decimal n ≢ 45 ∷ s
no_minus n s small e = omega (arith, Rattle.std.proofs.lemmas.Str.Parse.digit_from_value 45 (subst (λ l. Rattle.std.specs.Str.Parse.AllDigits 10 l) e (decimal_is_IsNumeral_wide n small).0.1).0)

within : (n : ℕ) → fits_i128 (pos n) ≡ true → n ≤ 2 ^ 127
within n h = grind (arith, nat_tests)

within_below : (n : ℕ) → fits_i128 (negsuc n) ≡ true → suc n ≤ 2 ^ 127
within_below n h = grind (arith, nat_tests)

integers_apart : (x y : ℤ) → fits_i128 x ≡ true → signed_decimal x ≡ signed_decimal y → x ≡ y
integers_apart (pos m) (pos n) fits e = ap pos (naturals_apart m n (within m fits) e)
integers_apart (pos m) (negsuc n) fits e = absurd (no_minus m (decimal (suc n)) (let h = within m fits in omega arith) e)
integers_apart (negsuc m) (pos n) fits e = go (cases_order n (10 ^ 64))
  where
    go : (n ≡ 10 ^ 64) ⊎ ((n < 10 ^ 64) ⊎ (10 ^ 64 < n)) → negsuc m ≡ pos n
    go (inr (inl l)) = absurd (no_minus n (decimal (suc m)) l (sym e))
    go (inl same) = absurd (let p = short (suc m) (within_below m fits) in let q = longest n (omega arith) in let r = ap length e in omega arith)
    go (inr (inr l)) = absurd (let p = short (suc m) (within_below m fits) in let q = longest n (omega arith) in let r = ap length e in omega arith)
integers_apart (negsuc m) (negsuc n) fits e = let h = naturals_apart (suc m) (suc n) (within_below m fits) (let k = e in cc) in cc

pub day_sums_apart : (x y : DaySum) → DaySumFits x → day_sum_row x ≡ day_sum_row y → x ≡ y
day_sums_apart x y fits e =
    let day : x.day ≡ y.day = ap (λ r. number_in (column r 0)) e in
    let cents = integers_apart x.cents y.cents fits.1 (ap (λ r. text_in (column r 1)) e) in
    λ i. record { cents = cents i; day = day i }

pub sums_apart : (x y : ℤ) → fits_i128 x ≡ true → decimal_text x ∷ [] ≡ decimal_text y ∷ [] → x ≡ y
sums_apart x y fits e = integers_apart x y fits (ap (λ r. text_in (column r 0)) e)
