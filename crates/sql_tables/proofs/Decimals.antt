-- The decimal text of a number of 128 bits is read back.
use Rattle.std.proofs.Common.{◌≡◌, ◌<◌, ℕ, zero, suc, ℤ, pos, negsuc, neg_ℤ, true, List, ◌∷◌, Result, Ok, subst, ap, ◌∙◌, refl, arith, ◌^◌}
use Rattle.std.specs.Fmt.{decimal, signed_decimal}
use Rattle.std.specs.Int.{w128}
use Rattle.std.specs.Prelude.{IsUtf8}
use Rattle.std.specs.Str.{IsAscii}
use Rattle.std.specs.Str.Parse.{ParsesSigned}
use Rattle.std.proofs.lemmas.Bool.Decides.{nat_tests}
use Rattle.std.proofs.lemmas.Fmt.{decimal_is_IsNumeral_wide, IsAscii-decimal_wide}
use Rattle.std.proofs.lemmas.Result.{Ok-from_Ok_iff}
use Rattle.std.proofs.lemmas.Str.{IsUtf8-from_ascii}
use Rattle.std.proofs.lemmas.Str.Parse.{numerals_by_value, tells_digits, parse_signed_minus, parse_signed_digits}
use Rattle.desk_accounts.specs.Balance.{fits_i128}

short : (n : ℕ) → fits_i128 (pos n) ≡ true → n < 2 ^ 127
short n h = grind (arith, nat_tests)

short_below : (n : ℕ) → fits_i128 (negsuc n) ≡ true → n < 2 ^ 127
short_below n h = grind (arith, nat_tests)

pub parses : {E : Type 0} (z : ℤ) (bs : List ℕ) (r : Result ℤ E) → fits_i128 z ≡ true → bs ≡ signed_decimal z → ParsesSigned w128 10 bs r → r ≡ Ok z
parses (pos n) bs r fits is h =
    let small = short n fits in
    let k = decimal_is_IsNumeral_wide n (omega arith) in
    let read = parse_signed_digits (numerals_by_value _ tells_digits) w128 (decimal n) r (subst (λ l. ParsesSigned w128 10 l r) is h) k.0.1 in
    Ok-from_Ok_iff r _ _ read (k.0.0, omega (arith, k.1, small)) ∙ ap (λ m. Ok (pos m)) k.1
parses (negsuc n) bs r fits is h =
    let small = short_below n fits in
    let k = decimal_is_IsNumeral_wide (suc n) (omega arith) in
    let read = parse_signed_minus (numerals_by_value _ tells_digits) w128 (45 ∷ decimal (suc n)) r (subst (λ l. ParsesSigned w128 10 l r) is h) refl in
    Ok-from_Ok_iff r _ _ read (k.0.1, k.0.0, omega (arith, k.1, small)) ∙ ap (λ m. Ok (neg_ℤ (pos m))) k.1

with_minus : (s : List ℕ) → IsAscii s → IsAscii (45 ∷ s)
with_minus s plain zero = omega arith
with_minus s plain (suc i) = plain i

pub signed_is_utf8 : (z : ℤ) → fits_i128 z ≡ true → IsUtf8 (signed_decimal z)
signed_is_utf8 (pos n) fits = let small = short n fits in IsUtf8-from_ascii (decimal n) (IsAscii-decimal_wide n (omega arith))
signed_is_utf8 (negsuc n) fits =
    let small = short_below n fits in
    let plain = IsAscii-decimal_wide (suc n) (omega arith) in
    IsUtf8-from_ascii (45 ∷ decimal (suc n)) (with_minus (decimal (suc n)) plain)
