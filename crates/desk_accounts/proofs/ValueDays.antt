-- The value days of lines, ascending.
use Rattle.std.proofs.Common.{◌≡◌, ℕ, zero, suc, ◌+◌, ◌<◌, ◌≤◌, ◌⊎◌, inl, inr, cond, ◌==◌, List, [], ◌∷◌, length, map, slice_index, ℤ, refl, ap, ◌∙◌, arith, sym, subst}
use Rattle.std.specs.List.{All, count_by}
use Rattle.std.specs.List.Sorted.{IsStrictlyIncreasing}
use Rattle.std.proofs.lemmas.Bool.{cases_order, cases_eq}
use Rattle.std.proofs.lemmas.Bool.Decides.{nat_tests}
use Rattle.std.proofs.lemmas.List.Elements.{All-nil, All-cons, All-head, All-tail, All-map, All-weaker}
use Rattle.std.proofs.lemmas.List.Sums.{sum_by-cons}
use Rattle.desk_accounts.specs.declared.account.Account.{Account}
use Rattle.desk_accounts.specs.declared.posting.Posting.{Posting}
use Rattle.desk_accounts.specs.Balance.{lines_of, lines_on, total, with_day, value_days, day_sums, AreDaySums}

-- ascending numbers, the first of them above another
abbrev Above : ℕ → List ℕ → Type 0
Above low [] = Unit {0}
Above low (d ∷ days) = (low < d) × Above d days

abbrev Ascend : List ℕ → Type 0
Ascend [] = Unit {0}
Ascend (d ∷ days) = Above d days

with_same : (day d : ℕ) (days : List ℕ) → day ≡ d → with_day day (d ∷ days) ≡ d ∷ days
with_same day d days h = grind (arith, nat_tests)

with_lower : (day d : ℕ) (days : List ℕ) → day < d → with_day day (d ∷ days) ≡ day ∷ d ∷ days
with_lower day d days h = grind (arith, nat_tests)

with_higher : (day d : ℕ) (days : List ℕ) → d < day → with_day day (d ∷ days) ≡ d ∷ with_day day days
with_higher day d days h = grind (arith, nat_tests)

-- a number at or below all others is not among them
count_above : (x low : ℕ) (days : List ℕ) → x ≤ low → Above low days → count_by (λ e. x == e) days ≡ 0
count_above x low [] p h = refl
count_above x low (d ∷ days) p h =
    let below : x < d = let q = h.0 in omega arith in
    let more = count_above x d days (omega arith) h.1 in
    let front = sum_by-cons (λ e. cond (x == e) 1 0) d days in
    grind (arith, nat_tests)

-- how often a number occurs among days with one more
count_at : (x day d : ℕ) (days : List ℕ) → Above d days → (count_by (λ e. x == e) (with_day day days) ≡ cond (x == day) 1 (count_by (λ e. x == e) days))
    → (day ≡ d) ⊎ ((day < d) ⊎ (d < day)) → (x ≡ day) ⊎ (x ≡ day → ⊥)
    → count_by (λ e. x == e) (with_day day (d ∷ days)) ≡ cond (x == day) 1 (count_by (λ e. x == e) (d ∷ days))
count_at x day d days h more (inl same) (inl is) =
    let front = sum_by-cons (λ e. cond (x == e) 1 0) d days in
    let rest = count_above x d days (omega arith) h in
    rw (with_same day d days same) (grind (arith, nat_tests))
count_at x day d days h more (inl same) (inr other) = rw (with_same day d days same) (grind (arith, nat_tests))
count_at x day d days h more (inr (inl lower)) (inl is) =
    let front = sum_by-cons (λ e. cond (x == e) 1 0) day (d ∷ days) in
    let rest = count_above x day (d ∷ days) (omega arith) (lower, h) in
    rw (with_lower day d days lower) (grind (arith, nat_tests))
count_at x day d days h more (inr (inl lower)) (inr other) =
    let front = sum_by-cons (λ e. cond (x == e) 1 0) day (d ∷ days) in
    rw (with_lower day d days lower) (grind (arith, nat_tests))
count_at x day d days h more (inr (inr higher)) (inl is) =
    let front = sum_by-cons (λ e. cond (x == e) 1 0) d (with_day day days) in
    rw (with_higher day d days higher) (grind (arith, nat_tests))
count_at x day d days h more (inr (inr higher)) (inr other) =
    let front = sum_by-cons (λ e. cond (x == e) 1 0) d (with_day day days) in
    let back = sum_by-cons (λ e. cond (x == e) 1 0) d days in
    rw (with_higher day d days higher) (grind (arith, nat_tests))

above_ascends : (d : ℕ) (days : List ℕ) → Above d days → Ascend days
above_ascends d [] h = tt
above_ascends d (e ∷ days) h = h.1

count_with : (x day : ℕ) (days : List ℕ) → Ascend days → count_by (λ e. x == e) (with_day day days) ≡ cond (x == day) 1 (count_by (λ e. x == e) days)
count_with x day [] h = let front = sum_by-cons (λ e. cond (x == e) 1 0) day [] in grind (arith, nat_tests)
count_with x day (d ∷ days) h = count_at x day d days h (count_with x day days (above_ascends d days h)) (cases_order day d) (cases_eq x day)

-- days stay ascending
above_at : (low day d : ℕ) (days : List ℕ) → low < day → Above low (d ∷ days) → (d < day → Above d (with_day day days)) → (day ≡ d) ⊎ ((day < d) ⊎ (d < day)) → Above low (with_day day (d ∷ days))
above_at low day d days p h more (inl same) = rw (with_same day d days same) h
above_at low day d days p h more (inr (inl lower)) = rw (with_lower day d days lower) (p, (lower, h.1))
above_at low day d days p h more (inr (inr higher)) = rw (with_higher day d days higher) (h.0, more higher)

above_with : (low day : ℕ) (days : List ℕ) → low < day → Above low days → Above low (with_day day days)
above_with low day [] p h = (p, tt)
above_with low day (d ∷ days) p h = above_at low day d days p h (λ q. above_with d day days q h.1) (cases_order day d)

ascend_at : (day d : ℕ) (days : List ℕ) → Above d days → (day ≡ d) ⊎ ((day < d) ⊎ (d < day)) → Ascend (with_day day (d ∷ days))
ascend_at day d days h (inl same) = rw (with_same day d days same) h
ascend_at day d days h (inr (inl lower)) = rw (with_lower day d days lower) (lower, h)
ascend_at day d days h (inr (inr higher)) = rw (with_higher day d days higher) (above_with d day days higher h)

ascend_with : (day : ℕ) (days : List ℕ) → Ascend days → Ascend (with_day day days)
ascend_with day [] h = tt
ascend_with day (d ∷ days) h = ascend_at day d days h (cases_order day d)

value_days_ascend : (lines : List Posting) → Ascend (value_days lines)
value_days_ascend [] = tt
value_days_ascend (line ∷ lines) = ascend_with line.value_day (value_days lines) (value_days_ascend lines)

-- each line has its value day among them, once
value_days_once : (lines : List Posting) → All (λ line. count_by (λ e. line.value_day == e) (value_days lines) ≡ 1) lines
value_days_once [] = All-nil (λ line. count_by (λ e. line.value_day == e) [] ≡ 1)
value_days_once (line ∷ lines) =
    let days = value_days lines in
    let asc = value_days_ascend lines in
    All-cons (λ l. count_by (λ e. l.value_day == e) (with_day line.value_day days) ≡ 1) line lines
    (let n = count_with line.value_day line.value_day days asc in grind (arith, nat_tests))
    (All-weaker (λ l. count_by (λ e. l.value_day == e) days ≡ 1) (λ l. count_by (λ e. l.value_day == e) (with_day line.value_day days) ≡ 1)
    (λ l one. let n = count_with l.value_day line.value_day days asc in grind (arith, nat_tests)) lines (value_days_once lines))

-- a fact on each of the days
all_at : (P : ℕ → Type 0) (day d : ℕ) (days : List ℕ) → P day → All P (d ∷ days) → All P (with_day day days) → (day ≡ d) ⊎ ((day < d) ⊎ (d < day)) → All P (with_day day (d ∷ days))
all_at P day d days p h more (inl same) = rw (with_same day d days same) h
all_at P day d days p h more (inr (inl lower)) = rw (with_lower day d days lower) (All-cons P day (d ∷ days) p h)
all_at P day d days p h more (inr (inr higher)) = rw (with_higher day d days higher) (All-cons P d (with_day day days) (All-head P d days h) more)

all_with : (P : ℕ → Type 0) (day : ℕ) (days : List ℕ) → P day → All P days → All P (with_day day days)
all_with P day [] p h = All-cons P day [] p h
all_with P day (d ∷ days) p h = all_at P day d days p h (all_with P day days p (All-tail P d days h)) (cases_order day d)

-- each of the days has a line
value_days_filled : (lines : List Posting) → All (λ day. 1 ≤ count_by (λ (line : Posting). line.value_day == day) lines) (value_days lines)
value_days_filled [] = All-nil (λ day. 1 ≤ count_by (λ (line : Posting). line.value_day == day) [])
value_days_filled (line ∷ lines) =
    all_with (λ day. 1 ≤ count_by (λ (l : Posting). l.value_day == day) (line ∷ lines)) line.value_day (value_days lines)
    (let n = sum_by-cons (λ (l : Posting). cond (l.value_day == line.value_day) 1 0) line lines in grind (arith, nat_tests))
    (All-weaker (λ day. 1 ≤ count_by (λ (l : Posting). l.value_day == day) lines) (λ day. 1 ≤ count_by (λ (l : Posting). l.value_day == day) (line ∷ lines))
    (λ day some. let n = sum_by-cons (λ (l : Posting). cond (l.value_day == day) 1 0) line lines in omega arith) (value_days lines) (value_days_filled lines))

-- the days of rows
count_rows : (x : ℕ) (sum : ℕ → ℤ) (days : List ℕ) → count_by (λ (row : ℕ × ℤ). x == row.0) (map (λ day. (day, sum day)) days) ≡ count_by (λ e. x == e) days
count_rows x sum [] = refl
count_rows x sum (d ∷ days) =
    let more = count_rows x sum days in
    let rows = sum_by-cons (λ (row : ℕ × ℤ). cond (x == row.0) 1 0) (d, sum d) (map (λ day. (day, sum day)) days) in
    let front = sum_by-cons (λ e. cond (x == e) 1 0) d days in
    omega arith

days_of_rows : (sum : ℕ → ℤ) (days : List ℕ) → map (λ (row : ℕ × ℤ). row.0) (map (λ day. (day, sum day)) days) ≡ days
days_of_rows sum [] = refl
days_of_rows sum (d ∷ days) = ap (λ more. d ∷ more) (days_of_rows sum days)

increasing_above : (low : ℕ) (days : List ℕ) → Above low days → (k : ℕ) → k + 1 < length (low ∷ days) → slice_index (low ∷ days) k < slice_index (low ∷ days) (k + 1)
increasing_above low [] h k b = absurd (omega arith)
increasing_above low (d ∷ days) h zero b = h.0
increasing_above low (d ∷ days) h (suc k) b =
    let next : suc k + 1 ≡ suc (k + 1) = omega arith in
    rw next (increasing_above d days h.1 k (omega arith))

increasing : (days : List ℕ) → Ascend days → IsStrictlyIncreasing days
increasing [] h k b = absurd (omega arith)
increasing (d ∷ days) h k b = increasing_above d days h k b

pub day_sums_are : (account : Account) (postings : List Posting) → AreDaySums account postings (day_sums account postings)
day_sums_are account postings =
    let lines = lines_of account postings in
    let sum : ℕ → ℤ = λ day. total (lines_on day lines) in
    record {
      once = All-weaker (λ line. count_by (λ e. line.value_day == e) (value_days lines) ≡ 1) (λ line. count_by (λ row. line.value_day == row.0) (day_sums account postings) ≡ 1)
          (λ line one. count_rows line.value_day sum (value_days lines) ∙ one) lines (value_days_once lines);
      sums = All-map (λ row. row.1 ≡ total (lines_on row.0 lines)) (λ day. (day, sum day)) (value_days lines) (λ k d b. refl);
    }

pub day_sums_ascend : (account : Account) (postings : List Posting) → IsStrictlyIncreasing (map (λ row. row.0) (day_sums account postings))
day_sums_ascend account postings =
    let lines = lines_of account postings in
    subst IsStrictlyIncreasing (sym (days_of_rows (λ day. total (lines_on day lines)) (value_days lines))) (increasing (value_days lines) (value_days_ascend lines))

pub day_sums_filled : (account : Account) (postings : List Posting) → All (λ row. 1 ≤ count_by (λ line. line.value_day == row.0) (lines_of account postings)) (day_sums account postings)
day_sums_filled account postings =
    let lines = lines_of account postings in
    All-map (λ row. 1 ≤ count_by (λ line. line.value_day == row.0) lines) (λ day. (day, total (lines_on day lines))) (value_days lines) (value_days_filled lines)
