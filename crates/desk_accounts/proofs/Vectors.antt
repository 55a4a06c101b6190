-- The definitions on a sample: a credit of 150000 cents and a debit of 2500 that settle on day 20098, and the return of the debit, taken on day 20102.
use Rattle.std.proofs.Common.{◌≡◌, ℕ, true, false, List, [], ◌∷◌, pos, negsuc, refl}
use Rattle.desk_accounts.specs.declared.account.Account.TheVariants.{Company, Operator, Suspense}
use Rattle.desk_accounts.specs.declared.posting.Posting.{Posting}
use Rattle.desk_accounts.specs.Posting.{cut_line, return_line}
use Rattle.desk_accounts.specs.Balance.{balance, days_balance, day_sums}
use Rattle.desk_accounts.specs.Laws.{pairs}

company : List ℕ
company = 77 ∷ 49 ∷ []

credit : List ℕ
credit = 80 ∷ 49 ∷ []

debit : List ℕ
debit = 80 ∷ 50 ∷ []

postings : List Posting
postings = pairs (cut_line company false 150000 20098 credit ∷ cut_line company true 2500 20098 debit ∷ return_line company true 2500 20102 debit 1 ∷ [])

before : balance (Company company) 20097 postings ≡ pos 0
unfolding postings company credit debit
before = refl

settled : balance (Company company) 20098 postings ≡ negsuc 147499
unfolding postings company credit debit
settled = refl

returned : balance (Company company) 20102 postings ≡ negsuc 149999
unfolding postings company credit debit
returned = refl

other : balance Suspense 20102 postings ≡ pos 0
unfolding postings company credit debit
other = refl

operator : day_sums Operator postings ≡ (20098, pos 147500) ∷ (20102, pos 2500) ∷ []
unfolding postings company credit debit
operator = refl

operator_balance : days_balance 20102 (day_sums Operator postings) ≡ pos 150000
unfolding postings company credit debit
operator_balance = refl
