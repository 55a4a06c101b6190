-- Balances from the sums by value day.
use Rattle.std.proofs.Common.{◌≡◌, ℕ, Bool, true, false, cond, ◌==◌, nat_le, List, slice_index_or, ℤ, pos, refl, ap, ◌∙◌, arith, sym}
use Rattle.std.proofs.lemmas.Bool.Decides.{nat_tests}
use Rattle.desk_accounts.specs.declared.account.Account.{Account}
use Rattle.desk_accounts.specs.declared.posting.Posting.{Posting}
use Rattle.desk_accounts.specs.Balance.{lines_of, lines_on, total, balance, days_balance, AreDaySums}
use Rattle.desk_accounts.specs.Sums.{sum_of}
use Rattle.desk_accounts.proofs.Sums.{sum_passing, sum_agree, sum_by_keys, sum_zero}

-- a condition on a whole sum is one on each amount
sum_if : {X : Type 0} (b : Bool) (amount : X → ℤ) (xs : List X) → cond b (sum_of amount xs) (pos 0) ≡ sum_of (λ x. cond b (amount x) (pos 0)) xs
sum_if true amount xs = refl
sum_if false amount xs = sym (sum_zero xs)

-- a row's day is by a day exactly where the lines of the row are
one_day : (v r day : ℕ) (cents : ℤ) → cond (nat_le r day) (cond (v == r) cents (pos 0)) (pos 0) ≡ cond (v == r) (cond (nat_le v day) cents (pos 0)) (pos 0)
one_day v r day cents = grind (arith, nat_tests)

-- what a row adds is what its lines add
row_adds : (day r : ℕ) (sum : ℤ) (lines : List Posting) → sum ≡ total (lines_on r lines) →
    cond (nat_le r day) sum (pos 0) ≡ sum_of (λ line. cond (line.value_day == r) (cond (nat_le line.value_day day) line.cents (pos 0)) (pos 0)) lines
row_adds day r sum lines h =
    let amount : Posting → ℤ = λ line. cond (line.value_day == r) line.cents (pos 0) in
    ap (λ s. cond (nat_le r day) s (pos 0)) (h ∙ sum_passing (λ line. line.cents) (λ line. line.value_day == r) lines)
    ∙ (sum_if (nat_le r day) amount lines
    ∙ sum_agree (λ line. cond (nat_le r day) (amount line) (pos 0)) (λ line. cond (line.value_day == r) (cond (nat_le line.value_day day) line.cents (pos 0)) (pos 0)) lines
    (λ i d b. let line = slice_index_or lines i d in one_day line.value_day r day line.cents))

pub balance_by_days : (account : Account) (postings : List Posting) (rows : List (ℕ × ℤ)) (day : ℕ) → AreDaySums account postings rows
    → days_balance day rows ≡ balance account day postings
balance_by_days account postings rows day h =
    let lines = lines_of account postings in
    let amount : Posting → ℤ = λ line. cond (nat_le line.value_day day) line.cents (pos 0) in
    sum_passing (λ row. row.1) (λ row. nat_le row.0 day) rows
    ∙ (sum_agree (λ row. cond (nat_le row.0 day) row.1 (pos 0)) (λ row. sum_of (λ line. cond (line.value_day == row.0) (amount line) (pos 0)) lines) rows
    (λ i d b. let row = slice_index_or rows i d in row_adds day row.0 row.1 lines (h.sums i d b))
    ∙ (sum_by_keys (λ row line. line.value_day == row.0) amount rows lines h.once
    ∙ sym (sum_passing (λ line. line.cents) (λ line. nat_le line.value_day day) lines)))
