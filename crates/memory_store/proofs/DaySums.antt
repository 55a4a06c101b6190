-- The effect of one more line on an account's sums by value day.
use Rattle.std.proofs.Common.{◌≡◌, ℕ, suc, ◌+◌, ◌<◌, ◌≤◌, inl, inr, Bool, true, false, List, [], ◌∷◌, map, ℤ, pos, ◌+ℤ◌, slice_index, refl, ap, ◌∙◌, arith, sym, subst}
use Rattle.std.specs.Prelude.{if◌then◌else◌, cond, Option, Some, None, unwrap_or}
use Rattle.std.specs.BTreeMap.{insert_entry, is_at}
use Rattle.std.specs.Cmp.{unsigned_tied}
use Rattle.std.specs.Map.{lookup}
use Rattle.std.specs.Ordering.{nat_cmp, is_eq, match_ordering}
use Rattle.std.specs.declared.cmp.Ordering.{Ordering}
use Rattle.std.specs.declared.cmp.Ordering.TheVariants.{Less, Equal, Greater}
use Rattle.std.specs.List.Sorted.{IsStrictlyIncreasing}
use Rattle.std.proofs.lemmas.Bool.{cases_order, eq-eqb, ne_eqb}
use Rattle.std.proofs.lemmas.Bool.Decides.{nat_tests}
use Rattle.std.proofs.lemmas.Int.{ints}
use Rattle.desk_accounts.specs.declared.account.Account.{Account}
use Rattle.desk_accounts.specs.declared.posting.Posting.{Posting}
use Rattle.desk_accounts.specs.Posting.{same_account}
use Rattle.desk_accounts.specs.Balance.{lines_of, lines_on, total, with_day, value_days, day_sums}
use Rattle.desk_accounts.specs.Laws.{BalancesByDay}
use Rattle.desk_accounts.proofs.Sums.{sum_front}
use Rattle.memory_store.specs.Finds.{with_sum}

-- none of them is the number
abbrev Apart : ℕ → List ℕ → Type 0
Apart x [] = Unit {0}
Apart x (d ∷ days) = (x ≡ d → ⊥) × Apart x days

below_apart : (x d : ℕ) → x < d → x ≡ d → ⊥
below_apart x d lt e = omega arith

increasing_tail : (low : ℕ) (days : List ℕ) → IsStrictlyIncreasing (low ∷ days) → IsStrictlyIncreasing days
increasing_tail low days h k b =
    let next : suc k + 1 ≡ suc (k + 1) = omega arith in
    subst (λ (n : ℕ). slice_index days k < slice_index (low ∷ days) n) next (h (suc k) (omega arith))

apart_above : (x low : ℕ) (days : List ℕ) → x ≤ low → IsStrictlyIncreasing (low ∷ days) → Apart x days
apart_above x low [] le h = tt
apart_above x low (d ∷ days) le h =
    let up : low < d = h 0 (omega arith) in
    let less : x < d = omega arith in
    let most : x ≤ d = omega arith in
    (below_apart x d less, apart_above x d days most (increasing_tail low (d ∷ days) h))

with_same : (day d : ℕ) (days : List ℕ) → day ≡ d → with_day day (d ∷ days) ≡ d ∷ days
with_same day d days h = grind (arith, nat_tests)

with_lower : (day d : ℕ) (days : List ℕ) → day < d → with_day day (d ∷ days) ≡ day ∷ d ∷ days
with_lower day d days h = grind (arith, nat_tests)

with_higher : (day d : ℕ) (days : List ℕ) → d < day → with_day day (d ∷ days) ≡ d ∷ with_day day days
with_higher day d days h = grind (arith, nat_tests)

-- a number that is not among days with one more is not that one, and not among the others
apart_with : (x day : ℕ) (days : List ℕ) → Apart x (with_day day days) → (x ≡ day → ⊥) × Apart x days
apart_with x day [] h = h
apart_with x day (d ∷ days) h = elim (cases_order day d) [
  | inl same ↦ let k = rw (with_same day d days same) at h in ((λ e. k.0 (e ∙ same)), k)
  | inr apart ↦ elim apart [
    | inl lower ↦ let k = rw (with_lower day d days lower) at h in (k.0, k.1)
    | inr higher ↦ let k = rw (with_higher day d days higher) at h in let more = apart_with x day days k.1 in (more.0, (k.0, more.1))
  ]
]

-- ---- sums

sum_same : (day d : ℕ) (cents sum : ℤ) (rows : List (ℕ × ℤ)) → day ≡ d → with_sum day cents ((d, sum) ∷ rows) ≡ (d, sum +ℤ cents) ∷ rows
sum_same day d cents sum rows h = grind (arith, nat_tests)

sum_lower : (day d : ℕ) (cents sum : ℤ) (rows : List (ℕ × ℤ)) → day < d → with_sum day cents ((d, sum) ∷ rows) ≡ (day, cents) ∷ (d, sum) ∷ rows
sum_lower day d cents sum rows h = grind (arith, nat_tests)

sum_higher : (day d : ℕ) (cents sum : ℤ) (rows : List (ℕ × ℤ)) → d < day → with_sum day cents ((d, sum) ∷ rows) ≡ (d, sum) ∷ with_sum day cents rows
sum_higher day d cents sum rows h = grind (arith, nat_tests)

abbrev by_day : (ℕ → ℤ) → List ℕ → List (ℕ × ℤ)
by_day sum days = map (λ d. (d, sum d)) days

-- sums before and after an amount is added to a day
module _ (f g : ℕ → ℤ) (day : ℕ) (cents : ℤ) (others : (d : ℕ) → (day ≡ d → ⊥) → f d ≡ g d) (own : f day +ℤ cents ≡ g day) where
  apart_same : (days : List ℕ) → Apart day days → by_day f days ≡ by_day g days
  apart_same [] h = refl
  apart_same (d ∷ days) h = λ i. (d, others d h.0 i) ∷ apart_same days h.1 i

  first : f day ≡ pos 0 → cents ≡ g day
  first none = let e : cents ≡ pos 0 +ℤ cents = omega (arith, ints) in e ∙ ap (λ (z : ℤ). z +ℤ cents) (sym none) ∙ own

  sums_with : (days : List ℕ) → IsStrictlyIncreasing days → (Apart day days → f day ≡ pos 0) → with_sum day cents (by_day f days) ≡ by_day g (with_day day days)
  sums_with [] h none = ap (λ (z : ℤ). (day, z) ∷ []) (first (none tt))
  sums_with (d ∷ days) h none = elim (cases_order day d) [
    | inl same ↦
        sum_same day d cents (f d) (by_day f days) same
        ∙ (λ i. (d, (ap (λ n. f n +ℤ cents) (sym same) ∙ own ∙ ap g same) i) ∷ apart_same days (apart_above day d days (omega arith) h) i)
        ∙ ap (by_day g) (sym (with_same day d days same))
    | inr apart ↦ elim apart [
      | inl lower ↦
          let away : Apart day (d ∷ days) = (below_apart day d lower, apart_above day d days (omega arith) h) in
          sum_lower day d cents (f d) (by_day f days) lower
          ∙ (λ i. (day, first (none away) i) ∷ apart_same (d ∷ days) away i)
          ∙ ap (by_day g) (sym (with_lower day d days lower))
      | inr higher ↦
          let differ : day ≡ d → ⊥ = λ e. below_apart d day higher (sym e) in
          sum_higher day d cents (f d) (by_day f days) higher
          ∙ (λ i. (d, others d differ i) ∷ sums_with days (increasing_tail d days h) (λ away. none (differ, away)) i)
          ∙ ap (by_day g) (sym (with_higher day d days higher))
    ]
  ]

-- ---- one sum in a map by days

-- a day without a key has no value
no_sum : (day : ℕ) (rows : List (ℕ × ℤ)) → Apart day (map (λ row. row.0) rows) → lookup (is_at (nat_cmp day)) rows ≡ None
no_sum day [] h = refl
no_sum day (row ∷ rows) h = ap (λ (b : Bool). cond b (Some row.1) (lookup (is_at (nat_cmp day)) rows)) (unsigned_tied day row.0 ∙ ne_eqb day row.0 h.0) ∙ no_sum day rows h.1

-- the sum of the day is written with the amount more
pub summed : (rows : List (ℕ × ℤ)) (day : ℕ) (cents : ℤ) → IsStrictlyIncreasing (map (λ row. row.0) rows)
    → insert_entry nat_cmp rows day (unwrap_or (lookup (is_at (nat_cmp day)) rows) (pos 0) +ℤ cents) ≡ with_sum day cents rows
summed [] day cents h = let e : pos 0 +ℤ cents ≡ cents = omega (arith, ints) in ap (λ (z : ℤ). (day, z) ∷ []) e
summed (row ∷ rows) day cents h =
    let days : List ℕ = map (λ (r : ℕ × ℤ). r.0) rows in
    elim (cases_order day row.0) [
      | inl same ↦
          let tied : nat_cmp day row.0 ≡ Equal = grind (arith, nat_tests) in
          ap (λ (o : Ordering). let v = unwrap_or (cond (is_eq o) (Some row.1) (lookup (is_at (nat_cmp day)) rows)) (pos 0) +ℤ cents in match_ordering o ((day, v) ∷ row ∷ rows) ((row.0, v) ∷ rows) (row ∷ insert_entry nat_cmp rows day v)) tied
          ∙ sym (sum_same day row.0 cents row.1 rows same)
      | inr apart ↦ elim apart [
        | inl lower ↦
            let below : nat_cmp day row.0 ≡ Less = grind (arith, nat_tests) in
            let away : Apart day days = apart_above day row.0 days (omega arith) h in
            let e : pos 0 +ℤ cents ≡ cents = omega (arith, ints) in
            ap (λ (o : Ordering). let v = unwrap_or (cond (is_eq o) (Some row.1) (lookup (is_at (nat_cmp day)) rows)) (pos 0) +ℤ cents in match_ordering o ((day, v) ∷ row ∷ rows) ((row.0, v) ∷ rows) (row ∷ insert_entry nat_cmp rows day v)) below
            ∙ ap (λ (o : Option ℤ). (day, unwrap_or o (pos 0) +ℤ cents) ∷ row ∷ rows) (no_sum day rows away)
            ∙ ap (λ (z : ℤ). (day, z) ∷ row ∷ rows) e
            ∙ sym (sum_lower day row.0 cents row.1 rows lower)
        | inr higher ↦
            let above : nat_cmp day row.0 ≡ Greater = grind (arith, nat_tests) in
            ap (λ (o : Ordering). let v = unwrap_or (cond (is_eq o) (Some row.1) (lookup (is_at (nat_cmp day)) rows)) (pos 0) +ℤ cents in match_ordering o ((day, v) ∷ row ∷ rows) ((row.0, v) ∷ rows) (row ∷ insert_entry nat_cmp rows day v)) above
            ∙ ap (λ (more : List (ℕ × ℤ)). row ∷ more) (summed rows day cents (increasing_tail row.0 days h))
            ∙ sym (sum_higher day row.0 cents row.1 rows higher)
      ]
    ]

-- ---- lines

total_front : (line : Posting) (lines : List Posting) → total lines +ℤ line.cents ≡ total (line ∷ lines)
total_front line lines = let front = sum_front (λ (x : Posting). x.cents) line lines in omega (arith, ints)

-- a day that is not a value day has no line
no_line : (x : ℕ) (lines : List Posting) → Apart x (value_days lines) → lines_on x lines ≡ []
no_line x [] h = refl
no_line x (line ∷ lines) h =
    let away = apart_with x line.value_day (value_days lines) h in
    ap (λ (b : Bool). if b then line ∷ lines_on x lines else lines_on x lines) (ne_eqb line.value_day x (λ e. away.0 (sym e)))
    ∙ no_line x lines away.1

abbrev sum_on : List Posting → ℕ → ℤ
sum_on lines day = total (lines_on day lines)

line_sums : (line : Posting) (lines : List Posting) → IsStrictlyIncreasing (value_days lines) → with_sum line.value_day line.cents (by_day (sum_on lines) (value_days lines)) ≡ by_day (sum_on (line ∷ lines)) (value_days (line ∷ lines))
line_sums line lines ascending =
    sums_with (sum_on lines) (sum_on (line ∷ lines)) line.value_day line.cents
    (λ d differ. ap (λ (b : Bool). total (if b then line ∷ lines_on d lines else lines_on d lines)) (sym (ne_eqb line.value_day d differ)))
    (total_front line (lines_on line.value_day lines)
    ∙ ap (λ (b : Bool). total (if b then line ∷ lines_on line.value_day lines else lines_on line.value_day lines)) (sym (eq-eqb line.value_day line.value_day refl)))
    (value_days lines) ascending (λ away. ap total (no_line line.value_day lines away))

days_of_rows : (sum : ℕ → ℤ) (days : List ℕ) → map (λ (row : ℕ × ℤ). row.0) (by_day sum days) ≡ days
days_of_rows sum [] = refl
days_of_rows sum (d ∷ days) = ap (λ more. d ∷ more) (days_of_rows sum days)

-- one more line before the others, of the account or of another
pub own_line : BalancesByDay → (account : Account) (line : Posting) (lines : List Posting) → same_account line.account account ≡ true →
    with_sum line.value_day line.cents (day_sums account lines) ≡ day_sums account (line ∷ lines)
own_line law account line lines own =
    let ours : List Posting = lines_of account lines in
    line_sums line ours (subst IsStrictlyIncreasing (days_of_rows (sum_on ours) (value_days ours)) (law.ascending account lines))
    ∙ ap (λ (b : Bool). let ls : List Posting = if b then line ∷ ours else ours in by_day (sum_on ls) (value_days ls)) (sym own)

pub other_line : (account : Account) (line : Posting) (lines : List Posting) → same_account line.account account ≡ false → day_sums account lines ≡ day_sums account (line ∷ lines)
other_line account line lines other =
    ap (λ (b : Bool). let ls : List Posting = if b then line ∷ lines_of account lines else lines_of account lines in by_day (sum_on ls) (value_days ls)) (sym other)
