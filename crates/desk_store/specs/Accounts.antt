-- The reads of an account.
use Rattle.std.specs.Prelude.{ℕ, ℤ, List}
use Rattle.desk_accounts.specs.declared.account.Account.{Account}
use Rattle.desk_accounts.specs.declared.posting.Posting.{Posting}
use Rattle.desk_accounts.specs.Balance.{lines_of, day_sums}
use Rattle.desk_book.specs.Book.{Book}

-- its lines, in the order in which they came
abbrev pub postings_of : Account → Book → List Posting
postings_of account b = lines_of account b.postings

-- the sums of its lines by value day
abbrev pub balances_of : Account → Book → List (ℕ × ℤ)
balances_of account b = day_sums account b.postings
