-- Laws of accounts.
use Rattle.std.specs.Prelude.{◌≡◌, ◌≤◌, ℕ, ◌==◌, List, map, ℤ, pos}
use Rattle.std.specs.List.{All, count_by, flat_map}
use Rattle.std.specs.List.Sorted.{IsStrictlyIncreasing}
use Rattle.desk_accounts.specs.declared.account.Account.{Account}
use Rattle.desk_accounts.specs.declared.posting.Posting.{Posting}
use Rattle.desk_accounts.specs.Posting.{same_account, with_opposite}
use Rattle.desk_accounts.specs.Balance.{lines_of, lines_until, total, balance, days_balance, day_sums, AreDaySums}
use Rattle.desk_accounts.specs.Sums.{sum_of}

-- lines, each with its opposite after it
abbrev pub pairs : List Posting → List Posting
pairs lines = flat_map with_opposite lines

-- each line is of one of these accounts, and of one only
abbrev pub AreAccountsOf : List Account → List Posting → Type 0
AreAccountsOf accounts postings = All (λ line. count_by (λ account. same_account line.account account) accounts ≡ 1) postings

-- what is posted in pairs sums to zero on each day, over all lines and over the balances of all accounts
pub record PairsCancel : Type 0 where
  pub lines : (lines : List Posting) (day : ℕ) → total (lines_until day (pairs lines)) ≡ pos 0
  pub accounts : (accounts : List Account) (lines : List Posting) (day : ℕ) → AreAccountsOf accounts (pairs lines)
      → sum_of (λ account. balance account day (pairs lines)) accounts ≡ pos 0

-- the sums of an account's lines by value day give its balance on each day
pub record BalancesByDay : Type 0 where
  pub balance : (account : Account) (postings : List Posting) (rows : List (ℕ × ℤ)) (day : ℕ) → AreDaySums account postings rows
      → days_balance day rows ≡ balance account day postings
  pub sums : (account : Account) (postings : List Posting) → AreDaySums account postings (day_sums account postings)
  pub ascending : (account : Account) (postings : List Posting) → IsStrictlyIncreasing (map (λ row. row.0) (day_sums account postings))
  pub days : (account : Account) (postings : List Posting)
      → All (λ row. 1 ≤ count_by (λ line. line.value_day == row.0) (lines_of account postings)) (day_sums account postings)
