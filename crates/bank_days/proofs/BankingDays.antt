-- Counts of banking days, and the one day that reaches a count.
use Rattle.std.proofs.Common.{◌≡◌, ◌≢◌, ℕ, zero, suc, ◌+◌, ◌-◌, ◌*◌, ◌<◌, ◌≤◌, Bool, true, false, ◌==◌, cond, arith, refl, sym, ap, subst, ◌∙◌, inl, inr, List, All, add-zero, get_or, eq-eqb}
use Rattle.std.proofs.Math.Bool.{and-true}
use Rattle.std.proofs.lemmas.List.Folds.{list_any_none}
use Rattle.std.proofs.lemmas.Bool.{cases_lt, cases_Bool, false≢true}
use Rattle.std.proofs.lemmas.Bool.Decides.{nat_tests}
use Rattle.std.specs.List.{list_any}
use Rattle.bank_days.specs.Day.{is_workday, weekday}
use Rattle.bank_days.specs.Calendar.{is_banking, banking_days, first_from, IsNthAfter, nth_after, IsFirstFrom, roll}

-- one day more
days_suc : (hs : List ℕ) (d k : ℕ) → banking_days hs d (suc k) ≡ banking_days hs d k + cond (is_banking hs (d + suc k)) 1 0
unfolding banking_days
days_suc hs d k = refl

pub days_none : (hs : List ℕ) (d : ℕ) → banking_days hs d 0 ≡ 0
unfolding banking_days
days_none hs d = refl

-- a banking day counts, and no other
days_banking : (hs : List ℕ) (d k : ℕ) → is_banking hs (d + suc k) ≡ true → banking_days hs d (suc k) ≡ banking_days hs d k + 1
days_banking hs d k h = days_suc hs d k ∙ ap (λ b. banking_days hs d k + cond b 1 0) h

days_other : (hs : List ℕ) (d k : ℕ) → is_banking hs (d + suc k) ≡ false → banking_days hs d (suc k) ≡ banking_days hs d k
days_other hs d k h = days_suc hs d k ∙ ap (λ b. banking_days hs d k + cond b 1 0) h ∙ add-zero _

days_step : (hs : List ℕ) (d k : ℕ) → banking_days hs d k ≤ banking_days hs d (suc k)
days_step hs d k = rw (days_suc hs d k) (omega arith)

-- counts do not fall
days_mono : (hs : List ℕ) (d j k : ℕ) → j ≤ k → banking_days hs d j ≤ banking_days hs d k
days_mono hs d j zero h = let e : j ≡ 0 = omega arith in rw e (omega arith)
days_mono hs d j (suc k) h =
    elim (cases_lt k j) [
      | inl lt ↦ let e : j ≡ suc k = omega arith in rw e (omega arith)
      | inr le ↦ omega (arith, days_mono hs d j k le, days_step hs d k)
    ]

-- the days before a day and those after it
days_split : (hs : List ℕ) (d j k : ℕ) → banking_days hs d (j + k) ≡ banking_days hs d j + banking_days hs (d + j) k
days_split hs d j zero = let same : j + 0 ≡ j = omega arith in ap (banking_days hs d) same ∙ omega (arith, days_none hs (d + j))
days_split hs d j (suc k) =
    let e : j + suc k ≡ suc (j + k) = omega arith in
    let at : d + suc (j + k) ≡ d + j + suc k = omega arith in
    rw (e, days_suc hs d (j + k), days_suc hs (d + j) k, at, days_split hs d j k) (omega arith)

-- at a banking day the count is higher than at each day before
count_rises : (hs : List ℕ) (d k e : ℕ) → is_banking hs e ≡ true → d < e → k < e → banking_days hs d (k - d) < banking_days hs d (e - d)
count_rises hs d k e banking later before =
    let last : e - d ≡ suc (e - d - 1) = omega arith in
    let at : d + suc (e - d - 1) ≡ e = omega arith in
    let counts : is_banking hs (d + suc (e - d - 1)) ≡ true = rw at banking in
    rw last (omega (arith, days_banking hs d (e - d - 1) counts, days_mono hs d (k - d) (e - d - 1) (omega arith)))

-- no two days are the nth after d
pub only_one : (hs : List ℕ) (d n e f : ℕ) → IsNthAfter hs d n e → IsNthAfter hs d n f → e ≡ f
only_one hs d n e f h k =
    elim (cases_lt e f) [
      | inl lt ↦ absurd (omega (arith, count_rises hs d e f k.banking k.after lt, h.count, k.count))
      | inr le ↦
          elim (cases_lt f e) [
            | inl lt ↦ absurd (omega (arith, count_rises hs d f e h.banking h.after lt, h.count, k.count))
            | inr ge ↦ omega arith
          ]
    ]

-- the first that passes
first_is : (p : ℕ → Bool) (fuel at e : ℕ) → p e ≡ true → ((k : ℕ) → at ≤ k → k < e → p k ≡ false) → at ≤ e → e < at + fuel → first_from p fuel at ≡ e
unfolding first_from
first_is p zero at e pass fail low high = absurd (omega arith)
first_is p (suc fuel) at e pass fail low high =
    elim (cases_lt at e) [
      | inl lt ↦ rw (fail at (omega arith) lt) (first_is p fuel (at + 1) e pass (λ k a b. fail k (omega arith) b) (omega arith) (omega arith))
      | inr le ↦ let same : at ≡ e = omega arith in rw (same, pass) refl
    ]

-- the search finds the nth day after d
pub nth_is : (hs : List ℕ) (d n e : ℕ) → IsNthAfter hs d n e → e ≤ 48211 → nth_after hs d n ≡ e
unfolding nth_after
nth_is hs d n e h le =
    let less : (k : ℕ) → d + 1 ≤ k → k < e → (banking_days hs d (k - d) == n) ≡ false = λ k low high.
    let rises = count_rises hs d k e h.banking h.after high in
    let count = h.count in
    let ne : banking_days hs d (k - d) ≢ n = omega arith in
    grind (arith, nat_tests) in
    first_is (λ k. banking_days hs d (k - d) == n) (48211 - d) (d + 1) e (eq-eqb _ _ h.count) less (omega arith) (omega arith)

-- n steps and one more
pub nth_more : (hs : List ℕ) (d n f e : ℕ) → IsNthAfter hs d n f → IsNthAfter hs f 1 e → IsNthAfter hs d (n + 1) e
nth_more hs d n f e h k =
    let parts : e - d ≡ f - d + (e - f) = omega (arith, h.after, k.after) in
    let mid : d + (f - d) ≡ f = omega (arith, h.after) in
    record {
      after = omega (arith, h.after, k.after);
      banking = k.banking;
      count = rw (parts, days_split hs d (f - d) (e - f), mid, h.count, k.count) refl;
    }

-- where none was counted, none is a banking day
none_banking : (hs : List ℕ) (d k j : ℕ) → banking_days hs d k ≡ 0 → 1 ≤ j → j ≤ k → is_banking hs (d + j) ≡ false
none_banking hs d k zero none low high = absurd (omega arith)
none_banking hs d k (suc j) none low high =
    elim (cases_Bool (is_banking hs (d + suc j))) [
      | inl banking ↦ absurd (omega (arith, days_banking hs d j banking, days_mono hs d (suc j) k high))
      | inr other ↦ other
    ]

-- a day after each one of the list is not in it
unlisted : (hs : List ℕ) (b d : ℕ) → All (λ h. h ≤ b) hs → b < d → list_any (λ h. h == d) hs ≡ false
unlisted hs b d all later =
    list_any_none (λ h. h == d) hs (λ k e h. let le : get_or hs k e ≤ b = all k e h in let ne : get_or hs k e ≢ d = omega arith in grind (arith, nat_tests))

weekend : (hs : List ℕ) (b d : ℕ) → All (λ h. h ≤ b) hs → b < d → is_banking hs d ≡ false → 5 ≤ weekday d
weekend hs b d all later no-banking =
    let off : is_workday d ≡ false = rw (unlisted hs b d all later, and-true) at no-banking in
    grind (arith, nat_tests)

-- of three days after the list one is a banking day
three_days : (hs : List ℕ) (b : ℕ) → All (λ h. h ≤ b) hs → is_banking hs (b + 1) ≡ false → is_banking hs (b + 2) ≡ false → is_banking hs (b + 3) ≡ false → ⊥
three_days hs b all one two three =
    let first = weekend hs b (b + 1) all (omega arith) one in
    let second = weekend hs b (b + 2) all (omega arith) two in
    let third = weekend hs b (b + 3) all (omega arith) three in
    absurd (omega arith)

-- the search for the next banking day after d: none from d + 1 to the day before `at`, and it does not go far
pub record Seeks (hs : List ℕ) (d b at : ℕ) : Type 0 where
  pub later : d < at
  pub soon : at ≤ b + 3
  pub none : banking_days hs d (at - 1 - d) ≡ 0

pub seeks_from : (hs : List ℕ) (d b : ℕ) → d ≤ b → Seeks hs d b (d + 1)
seeks_from hs d b le =
    let nothing : d + 1 - 1 - d ≡ 0 = omega arith in
    record { later = omega arith; soon = omega arith; none = rw nothing (days_none hs d) }

pub seeks_on : (hs : List ℕ) (d b at : ℕ) → All (λ h. h ≤ b) hs → d ≤ b → Seeks hs d b at → is_banking hs at ≡ false → Seeks hs d b (at + 1)
seeks_on hs d b at all le s other =
    let more : at + 1 - 1 - d ≡ suc (at - 1 - d) = omega (arith, s.later) in
    let here : d + suc (at - 1 - d) ≡ at = omega (arith, s.later) in
    let off : is_banking hs (d + suc (at - 1 - d)) ≡ false = rw here other in
    record {
      later = omega (arith, s.later);
      soon = elim (cases_lt at (b + 3)) [
        | inl lt ↦ omega arith
        | inr ge ↦
            let one : d + (b + 1 - d) ≡ b + 1 = omega arith in
            let two : d + (b + 2 - d) ≡ b + 2 = omega arith in
            let three : at ≡ b + 3 = omega (arith, s.soon) in
            let first : is_banking hs (b + 1) ≡ false = rw one at (none_banking hs d (at - 1 - d) (b + 1 - d) s.none (omega arith) (omega arith)) in
            let second : is_banking hs (b + 2) ≡ false = rw two at (none_banking hs d (at - 1 - d) (b + 2 - d) s.none (omega arith) (omega arith)) in
            absurd (three_days hs b all first second (rw three at other))
      ];
      none = rw more (days_other hs d (at - 1 - d) off ∙ s.none);
    }

-- it ends at the next banking day
pub seeks_end : (hs : List ℕ) (d b at : ℕ) → Seeks hs d b at → is_banking hs at ≡ true → IsNthAfter hs d 1 at
seeks_end hs d b at s banking =
    let last : at - d ≡ suc (at - 1 - d) = omega (arith, s.later) in
    let here : d + suc (at - 1 - d) ≡ at = omega (arith, s.later) in
    let counts : is_banking hs (d + suc (at - 1 - d)) ≡ true = rw here banking in
    record { after = s.later; banking = banking; count = rw last (days_banking hs d (at - 1 - d) counts ∙ omega (arith, s.none)) }

-- the n-th banking day after d, and its distance
pub record Found (hs : List ℕ) (d n b : ℕ) : Type 0 where
  pub day : ℕ
  pub nth : IsNthAfter hs d n day
  pub soon : day ≤ b + 3 * n

seek : (hs : List ℕ) (d b fuel at : ℕ) → All (λ h. h ≤ b) hs → d ≤ b → at + fuel ≡ b + 3 → Seeks hs d b at → Found hs d 1 b
seek hs d b zero at all le left s =
    elim (cases_Bool (is_banking hs at)) [
      | inl banking ↦ record { day = at; nth = seeks_end hs d b at s banking; soon = omega (arith, s.soon) }
      | inr other ↦ absurd (omega (arith, (seeks_on hs d b at all le s other).soon))
    ]
seek hs d b (suc fuel) at all le left s =
    elim (cases_Bool (is_banking hs at)) [
      | inl banking ↦ record { day = at; nth = seeks_end hs d b at s banking; soon = omega (arith, s.soon) }
      | inr other ↦ seek hs d b fuel (at + 1) all le (omega arith) (seeks_on hs d b at all le s other)
    ]

next_found : (hs : List ℕ) (d b : ℕ) → All (λ h. h ≤ b) hs → d ≤ b → Found hs d 1 b
next_found hs d b all le = seek hs d b (b + 2 - d) (d + 1) all le (omega arith) (seeks_from hs d b le)

-- there is an nth banking day after each day
nth_found : (hs : List ℕ) (d b n : ℕ) → All (λ h. h ≤ b) hs → d ≤ b → Found hs d (suc n) b
nth_found hs d b zero all le = next_found hs d b all le
nth_found hs d b (suc n) all le =
    let before = nth_found hs d b n all le in
    let far = b + 3 * suc n in
    let one = next_found hs before.day far (λ k e lt. let h : get_or hs k e ≤ b = all k e lt in omega arith) before.soon in
    let count : suc n + 1 ≡ suc (suc n) = omega arith in
    record { day = one.day; nth = subst (λ (m : ℕ). IsNthAfter hs d m one.day) count (nth_more hs d (suc n) before.day one.day before.nth one.nth); soon = omega (arith, one.soon) }

-- the search finds it
pub sought : (hs : List ℕ) (d n b : ℕ) → All (λ h. h ≤ b) hs → d ≤ b → 1 ≤ n → b + 3 * n ≤ 48211 → IsNthAfter hs d n (nth_after hs d n) × (nth_after hs d n ≤ b + 3 * n)
sought hs d zero b all le some near = absurd (omega arith)
sought hs d (suc n) b all le some near =
    let f = nth_found hs d b n all le in
    let same : f.day ≡ nth_after hs d (suc n) = sym (nth_is hs d (suc n) f.day f.nth (omega (arith, f.soon))) in
    (subst (λ (e : ℕ). IsNthAfter hs d (suc n) e) same f.nth, subst (λ (e : ℕ). e ≤ b + 3 * suc n) same f.soon)

-- the nth banking day after a later day is not earlier
pub nth_rises : (hs : List ℕ) (d e n x y : ℕ) → d ≤ e → IsNthAfter hs d n x → IsNthAfter hs e n y → x ≤ y
nth_rises hs d e n x y le h k =
    elim (cases_lt y x) [
      | inr ge ↦ ge
      | inl lt ↦
          let later : d < y = omega (arith, k.after) in
          let parts : y - d ≡ e - d + (y - e) = omega (arith, k.after) in
          let from : d + (e - d) ≡ e = omega arith in
          let sum : banking_days hs d (y - d) ≡ banking_days hs d (e - d) + n = rw (parts, days_split hs d (e - d) (y - e), from, k.count) refl in
          absurd (omega (arith, sum, h.count, count_rises hs d y x h.banking h.after lt))
    ]

-- the next banking day is the first from the day after, and so from a day that is not a banking day
pub first_next : (hs : List ℕ) (d e : ℕ) → IsNthAfter hs d 1 e → is_banking hs d ≡ false → IsFirstFrom hs d e
first_next hs d e h other = record {
  from = omega (arith, h.after);
  banking = h.banking;
  first = λ k le banking.
      elim (cases_lt k e) [
        | inr ge ↦ ge
        | inl lt ↦
            elim (cases_lt d k) [
              | inl later ↦ absurd (omega (arith, count_rises hs d k e h.banking h.after lt, count_rises hs d d k banking later later, h.count))
              | inr here ↦ let same : k ≡ d = omega arith in absurd (false≢true (sym other ∙ ap (is_banking hs) (sym same) ∙ banking))
            ]
      ];
}

pub first_here : (hs : List ℕ) (d : ℕ) → is_banking hs d ≡ true → IsFirstFrom hs d d
first_here hs d banking = record { from = omega arith; banking = banking; first = λ k le other. le }

-- a day is rolled to the first banking day from it on
pub rolled_first : (hs : List ℕ) (d b : ℕ) → All (λ h. h ≤ b) hs → d ≤ b → b + 3 ≤ 48211 → IsFirstFrom hs d (roll hs d) × (roll hs d ≤ b + 3)
rolled_first hs d b all le near =
    elim (cases_Bool (is_banking hs d)) [
      | inl banking ↦ rw banking (first_here hs d banking, omega arith)
      | inr other ↦
          let next = sought hs d 1 b all le (omega arith) (omega arith) in
          rw other (first_next hs d (nth_after hs d 1) next.0 other, omega (arith, next.1))
    ]
