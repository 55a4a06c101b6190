-- Balances by lines and by days.
use Rattle.std.proofs.lemmas.Bool.{cases_lt}
use Rattle.std.proofs.Common.{◌≤◌, ◌⊎◌, inl, inr, Some, None, subst, ◌≡◌, ℕ, ◌+◌, ◌<◌, ◌&&◌, true, false, cond, Bool, if◌then◌else◌, nat_le, List, take, get_or, length, ℤ, pos, ◌+ℤ◌, ◌∙◌, sym, refl, ap, arith}
use Rattle.std.proofs.lemmas.List.Sums.{fold_more}
use Rattle.desk_accounts.specs.declared.account.Account.{Account}
use Rattle.desk_accounts.specs.declared.posting.Posting.{Posting}
use Rattle.desk_accounts.specs.Posting.{same_account}
use Rattle.desk_accounts.specs.Sums.{sum_of}
use Rattle.desk_accounts.specs.Balance.{lines_of, balance, days_balance, fits_i128, SumLeaves}
use Rattle.desk_accounts.proofs.Sums.{sum_passing}

-- what a line adds to the balance of an account on a day
abbrev pub share : Account → ℕ → Posting → ℤ
share account day line = cond (same_account line.account account) (cond (nat_le line.value_day day) line.cents (pos 0)) (pos 0)

-- the balance is the sum of what each line adds
pub balance_is : (account : Account) (day : ℕ) (lines : List Posting) → balance account day lines ≡ sum_of (share account day) lines
balance_is account day lines =
    sum_passing (λ line. line.cents) (λ line. nat_le line.value_day day) (lines_of account lines)
    ∙ sum_passing (λ line. cond (nat_le line.value_day day) line.cents (pos 0)) (λ line. same_account line.account account) lines

joined : (a b : Bool) (z : ℤ) → cond a (cond b z (pos 0)) (pos 0) ≡ (if a && b then z else pos 0)
joined true b z = refl
joined false b z = refl

-- the balance with one more line
pub balance_more : (account : Account) (day : ℕ) (lines : List Posting) (i : ℕ) (d : Posting) → i < length lines →
    balance account day (take (i + 1) lines) ≡ balance account day (take i lines)
    +ℤ (if same_account (get_or lines i d).account account && nat_le (get_or lines i d).value_day day then (get_or lines i d).cents else pos 0)
balance_more account day lines i d h =
    let line = get_or lines i d in
    balance_is account day (take (i + 1) lines)
    ∙ (fold_more (λ sum x. sum +ℤ share account day x) (pos 0) lines i d h
    ∙ (ap (λ s. s +ℤ share account day line) (sym (balance_is account day (take i lines)))
    ∙ ap (λ s. balance account day (take i lines) +ℤ s) (joined (same_account line.account account) (nat_le line.value_day day) line.cents)))

-- the balance of rows with one row more
pub days_balance_more : (day : ℕ) (rows : List (ℕ × ℤ)) (i : ℕ) (d : ℕ × ℤ) → i < length rows →
    days_balance day (take (i + 1) rows) ≡ days_balance day (take i rows) +ℤ (if nat_le (get_or rows i d).0 day then (get_or rows i d).1 else pos 0)
days_balance_more day rows i d h =
    let f : ℕ × ℤ → ℤ = λ row. cond (nat_le row.0 day) row.1 (pos 0) in
    sum_passing (λ row. row.1) (λ row. nat_le row.0 day) (take (i + 1) rows)
    ∙ (fold_more (λ sum x. sum +ℤ f x) (pos 0) rows i d h
    ∙ ap (λ s. s +ℤ f (get_or rows i d)) (sym (sum_passing (λ row. row.1) (λ row. nat_le row.0 day) (take i rows))))

-- a sum that fits, or none
none_fits : (b : Bool) (z : ℤ) → (if b then Some z else None) ≡ None → b ≡ false
none_fits true z h = cc
none_fits false z h = refl

some_fits : (b : Bool) (z w : ℤ) → (if b then Some z else None) ≡ Some w → (b ≡ true) × (z ≡ w)
some_fits true z w h = (refl, cc)
some_fits false z w h = cc

-- a row's cents on a day
abbrev pub row_share : ℕ → ℕ × ℤ → ℤ
row_share day row = if nat_le row.0 day then row.1 else pos 0

-- the sum of the rows with one more, if it fits, or the point at which it leaves the range
pub row_leaves : (day : ℕ) (rows : List (ℕ × ℤ)) (i : ℕ) (d : ℕ × ℤ) (sum : ℤ) → i < length rows → sum ≡ days_balance day (take i rows)
    → (if fits_i128 (sum +ℤ row_share day (get_or rows i d)) then Some (sum +ℤ row_share day (get_or rows i d)) else None) ≡ None → SumLeaves day rows
row_leaves day rows i d sum h so_far r =
    record {
      first = i + 1;
      within = omega arith;
      leaves = rw (days_balance_more day rows i d h, ← so_far) (none_fits (fits_i128 (sum +ℤ row_share day (get_or rows i d))) (sum +ℤ row_share day (get_or rows i d)) r);
    }

pub row_more : (day : ℕ) (rows : List (ℕ × ℤ)) (i : ℕ) (d : ℕ × ℤ) (sum next : ℤ) → i < length rows → sum ≡ days_balance day (take i rows)
    → (if fits_i128 (sum +ℤ row_share day (get_or rows i d)) then Some (sum +ℤ row_share day (get_or rows i d)) else None) ≡ Some next
    → (next ≡ days_balance day (take (i + 1) rows)) × (fits_i128 (days_balance day (take (i + 1) rows)) ≡ true)
row_more day rows i d sum next h so_far r =
    let both = some_fits (fits_i128 (sum +ℤ row_share day (get_or rows i d))) (sum +ℤ row_share day (get_or rows i d)) next r in
    let whole : days_balance day (take (i + 1) rows) ≡ sum +ℤ row_share day (get_or rows i d) = rw (days_balance_more day rows i d h, ← so_far) refl in
    (sym both.1 ∙ sym whole, rw whole both.0)

fits_at : (day : ℕ) (rows : List (ℕ × ℤ)) (i : ℕ) → ((first : ℕ) → first ≤ i → fits_i128 (days_balance day (take first rows)) ≡ true)
    → fits_i128 (days_balance day (take (i + 1) rows)) ≡ true → (first : ℕ) → first ≤ i + 1 → (i < first) ⊎ (first ≤ i) → fits_i128 (days_balance day (take first rows)) ≡ true
fits_at day rows i before now first h (inl over) = subst (λ n. fits_i128 (days_balance day (take n rows)) ≡ true) (omega arith) now
fits_at day rows i before now first h (inr within) = before first within

-- one more first row, or one of those before
pub fits_more : (day : ℕ) (rows : List (ℕ × ℤ)) (i : ℕ) → ((first : ℕ) → first ≤ i → fits_i128 (days_balance day (take first rows)) ≡ true)
    → fits_i128 (days_balance day (take (i + 1) rows)) ≡ true → (first : ℕ) → first ≤ i + 1 → fits_i128 (days_balance day (take first rows)) ≡ true
fits_more day rows i before now first h = fits_at day rows i before now first h (cases_lt i first)
