-- The number that digits spell, and the digits of a number.
use Rattle.std.proofs.Common.{◌≡◌, ℕ, zero, suc, ◌+◌, ◌-◌, ◌*◌, ◌/◌, ◌%◌, ◌^◌, ◌<◌, ◌≤◌, true, List, [], ◌∷◌, ◌++◌, length, get_or, set, take, drop, refl, sym, ap, ◌∙◌, subst, arith, inl, inr, append_assoc, length-append}
use Rattle.std.proofs.Math.Nat.{add-suc}
use Rattle.std.proofs.Math.Numerals.{suc-eq-add-one}
use Rattle.std.proofs.lemmas.List.{append-nil, drop-set, take_more, take_all}
use Rattle.std.proofs.lemmas.List.Elements.{All-take, All-drop}
use Rattle.std.proofs.lemmas.List.Sums.{fold_more, fold_push, AllPass-from_list_all, list_all-from_AllPass}
use Rattle.std.proofs.lemmas.List.Folds.{list_all_at, list_all-append}
use Rattle.std.proofs.lemmas.Bool.{cases_Bool, and_from, le-leb}
use Rattle.std.proofs.lemmas.Bool.Decides.{nat_tests}
use Rattle.std.proofs.lemmas.Nat.{pow-add}
use Rattle.std.proofs.Math.Nat.{pow-le-pow_right}
use Rattle.ach_fields.specs.Characters.{is_digit}
use Rattle.ach_fields.specs.Digits.{number, digits, AreDigits}

pub digit_bounds : (c : ℕ) → is_digit c ≡ true → (48 ≤ c) × (c ≤ 57)
digit_bounds c h = grind (arith, nat_tests)

pub digit_at : (s : List ℕ) (i : ℕ) → AreDigits s → i < length s → (48 ≤ get_or s i 0) × (get_or s i 0 ≤ 57)
digit_at s i h lt =
    elim (cases_Bool (is_digit (get_or s i 0))) [
      | inl holds ↦ digit_bounds _ holds
      | inr fails ↦ let e = list_all_at is_digit s i 0 lt fails in absurd cc
    ]

pub number_more : (s : List ℕ) (i : ℕ) → i < length s → number (take (i + 1) s) ≡ number (take i s) * 10 + (get_or s i 0 - 48)
unfolding number
number_more s i lt = fold_more (λ n c. n * 10 + (c - 48)) 0 s i 0 lt

pub number_push : (s : List ℕ) (c : ℕ) → number (s ++ c ∷ []) ≡ number s * 10 + (c - 48)
unfolding number
number_push s c = fold_push (λ n c. n * 10 + (c - 48)) 0 s c

-- one digit more: the bound, and room for it in 18 digits
pub bound_more : (n d i len : ℕ) → n < 10 ^ i → 48 ≤ d → d ≤ 57 → i < len → len ≤ 18 → (n * 10 + (d - 48) < 10 ^ (i + 1)) × (n * 10 + (d - 48) < 10 ^ 18)
bound_more n d i len h low high lt short =
    let step : 10 ^ (i + 1) ≡ 10 ^ i * 10 = pow-add 10 i 1 in
    let base : 0 < 10 = omega arith in
    let le : i + 1 ≤ 18 = omega arith in
    let top : 10 ^ (i + 1) ≤ 10 ^ 18 = pow-le-pow_right base le in
    (omega arith, omega arith)

pub AreDigits-take : (k : ℕ) (s : List ℕ) → AreDigits s → AreDigits (take k s)
AreDigits-take k s h = list_all-from_AllPass is_digit _ (All-take (λ c. is_digit c ≡ true) k s (AllPass-from_list_all is_digit s h))

pub AreDigits-drop : (k : ℕ) (s : List ℕ) → AreDigits s → AreDigits (drop k s)
AreDigits-drop k s h = list_all-from_AllPass is_digit _ (All-drop (λ c. is_digit c ≡ true) k s (AllPass-from_list_all is_digit s h))

nothing : number [] ≡ 0
unfolding number
nothing = refl

pub number-digits : (width n : ℕ) → n < 10 ^ width → number (digits width n) ≡ n
unfolding digits
number-digits zero n lt = nothing ∙ omega (arith, lt)
number-digits (suc width) n lt =
    let ten : 10 ^ (width + 1) ≡ 10 ^ width * 10 = pow-add 10 width 1 in
    let one : suc width ≡ width + 1 = omega arith in
    let lt2 : n < 10 ^ width * 10 = subst (λ (k : ℕ). n < k) (ap (λ k. 10 ^ k) one ∙ ten) lt in
    let less : n / 10 < 10 ^ width = omega arith in
    let again = number-digits width (n / 10) less in
    number_push (digits width (n / 10)) (48 + n % 10) ∙ rw again (omega arith)

pub AreDigits-digits : (width n : ℕ) → AreDigits (digits width n)
unfolding digits
AreDigits-digits zero n = refl
AreDigits-digits (suc width) n =
    let d : is_digit (48 + n % 10) ≡ true = and_from _ _ (le-leb 48 (48 + n % 10) (omega arith)) (le-leb (48 + n % 10) 57 (omega arith)) in
    list_all-append is_digit (digits width (n / 10)) ((48 + n % 10) ∷ []) ∙ rw (AreDigits-digits width (n / 10), d) refl

pub length-digits : (width n : ℕ) → length (digits width n) ≡ width
unfolding digits
length-digits zero n = refl
length-digits (suc width) n = omega (arith, length-append (digits width (n / 10)) ((48 + n % 10) ∷ []), length-digits width (n / 10))

-- the digits of a number, the last b of them apart
pub digits-split : (a b m n : ℕ) → n < 10 ^ b → digits (a + b) (m * 10 ^ b + n) ≡ digits a m ++ digits b n
unfolding digits
digits-split a zero m n lt =
    let one : m * 10 ^ 0 + n ≡ m = omega (arith, lt) in
    let none : a + 0 ≡ a = omega arith in
    rw (one, none) (sym (append-nil (digits a m)))
digits-split a (suc b) m n lt =
    let ten : 10 ^ suc b ≡ 10 ^ b * 10 = ap (λ k. 10 ^ k) (suc-eq-add-one b) ∙ pow-add 10 b 1 in
    let less : n / 10 < 10 ^ b = omega (arith, subst (λ (k : ℕ). n < k) ten lt) in
    let whole : m * 10 ^ suc b + n ≡ (m * 10 ^ b) * 10 + n = ap (λ k. m * k + n) ten ∙ omega arith in
    let prefix : (m * 10 ^ suc b + n) / 10 ≡ m * 10 ^ b + n / 10 = ap (λ k. k / 10) whole ∙ omega arith in
    let last : (m * 10 ^ suc b + n) % 10 ≡ n % 10 = ap (λ k. k % 10) whole ∙ omega arith in
    ap (λ k. digits k (m * 10 ^ suc b + n)) (add-suc a b)
    ∙ (λ i. digits (a + b) (prefix i) ++ (48 + last i) ∷ [])
    ∙ ap (λ (s : List ℕ). s ++ (48 + n % 10) ∷ []) (digits-split a b m (n / 10) less)
    ∙ append_assoc (digits a m) (digits b (n / 10)) ((48 + n % 10) ∷ [])

-- the digit before those that are written
pub digit_before : (k rest : ℕ) (field : List ℕ) → k < length field →
    digits k (rest / 10) ++ drop k (set field k (48 + rest % 10)) ≡ digits (suc k) rest ++ drop (k + 1) field
unfolding digits
digit_before k rest field lt =
    ap (λ (s : List ℕ). digits k (rest / 10) ++ s) (drop-set field k (48 + rest % 10) lt)
    ∙ sym (append_assoc (digits k (rest / 10)) ((48 + rest % 10) ∷ []) (drop (k + 1) field))

last_digit : (n c : ℕ) → 48 ≤ c → c ≤ 57 → ((n * 10 + (c - 48)) / 10 ≡ n) × (48 + (n * 10 + (c - 48)) % 10 ≡ c)
last_digit n c low high = (omega arith, omega arith)

written_again : (k : ℕ) (s : List ℕ) → k ≤ length s → AreDigits s → digits k (number (take k s)) ≡ take k s
unfolding digits
written_again zero s le h = refl
written_again (suc k) s le h =
    let lt : k < length s = omega arith in
    let c = get_or s k 0 in
    let d = digit_at s k h lt in
    let one : suc k ≡ k + 1 = suc-eq-add-one k in
    let more : number (take (suc k) s) ≡ number (take k s) * 10 + (c - 48) = ap (λ n. number (take n s)) one ∙ number_more s k lt in
    let parts = last_digit (number (take k s)) c d.0 d.1 in
    (λ i. digits k (more i / 10) ++ (48 + more i % 10) ∷ [])
    ∙ (λ i. digits k (parts.0 i) ++ (parts.1 i) ∷ [])
    ∙ ap (λ (t : List ℕ). t ++ c ∷ []) (written_again k s (omega arith) h)
    ∙ sym (take_more s k 0 lt) ∙ ap (λ n. take n s) (sym one)

-- digits that were read are written again
pub digits-number : (s : List ℕ) → AreDigits s → digits (length s) (number s) ≡ s
digits-number s h =
    let all : take (length s) s ≡ s = take_all (length s) s (omega arith) in
    ap (λ t. digits (length s) (number t)) (sym all) ∙ written_again (length s) s (omega arith) h ∙ all
