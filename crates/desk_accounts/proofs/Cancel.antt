-- Pairs sum to zero.
use Rattle.std.proofs.Common.{◌≡◌, ℕ, Bool, true, false, cond, nat_le, List, [], ◌∷◌, slice_index_or, ℤ, pos, neg_ℤ, ◌+ℤ◌, refl, ap, ◌∙◌, arith}
use Rattle.std.proofs.lemmas.Int.{ints}
use Rattle.desk_accounts.specs.declared.account.Account.{Account}
use Rattle.desk_accounts.specs.declared.posting.Posting.{Posting}
use Rattle.desk_accounts.specs.Posting.{same_account, opposite}
use Rattle.desk_accounts.specs.Balance.{lines_until, total, balance}
use Rattle.desk_accounts.specs.Laws.{pairs, AreAccountsOf}
use Rattle.desk_accounts.specs.Sums.{sum_of}
use Rattle.desk_accounts.proofs.Sums.{sum_front, sum_passing, sum_agree, sum_by_keys}
use Rattle.desk_accounts.proofs.Lines.{share, balance_is}

-- what a line adds to the sum of all on a day
abbrev valued : ℕ → Posting → ℤ
valued day line = cond (nat_le line.value_day day) line.cents (pos 0)

one_pair : (b : Bool) (cents more : ℤ) → cond b cents (pos 0) +ℤ (cond b (neg_ℤ cents) (pos 0) +ℤ more) ≡ more
one_pair true cents more = omega (arith, ints)
one_pair false cents more = omega (arith, ints)

pairs_sum : (day : ℕ) (lines : List Posting) → sum_of (valued day) (pairs lines) ≡ pos 0
pairs_sum day [] = refl
pairs_sum day (line ∷ lines) =
    sum_front (valued day) line (opposite line ∷ pairs lines)
    ∙ (ap (λ s. valued day line +ℤ s) (sum_front (valued day) (opposite line) (pairs lines))
    ∙ (one_pair (nat_le line.value_day day) line.cents (sum_of (valued day) (pairs lines))
    ∙ pairs_sum day lines))

pub lines_cancel : (lines : List Posting) (day : ℕ) → total (lines_until day (pairs lines)) ≡ pos 0
lines_cancel lines day = sum_passing (λ line. line.cents) (λ line. nat_le line.value_day day) (pairs lines) ∙ pairs_sum day lines

pub accounts_cancel : (accounts : List Account) (lines : List Posting) (day : ℕ) → AreAccountsOf accounts (pairs lines)
    → sum_of (λ account. balance account day (pairs lines)) accounts ≡ pos 0
accounts_cancel accounts lines day h =
    sum_agree (λ account. balance account day (pairs lines)) (λ account. sum_of (share account day) (pairs lines)) accounts
    (λ i d b. balance_is (slice_index_or accounts i d) day (pairs lines))
    ∙ (sum_by_keys (λ account line. same_account line.account account) (valued day) accounts (pairs lines) h
    ∙ pairs_sum day lines)
