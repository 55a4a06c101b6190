-- The statement of a company, whose balance is made of the sums by value day.
use Rattle.std.proofs.Common.{◌≡◌, ℕ, List, map, ap, sym, ◌∙◌}
use Rattle.std.specs.Prelude.{ℤ, Result, Ok}
use Rattle.desk_rules.specs.declared.bodies.company.Limits.{Limits}
use Rattle.desk_rules.specs.declared.refusals.refusal.Refusal.{Refusal}
use Rattle.desk_rules.specs.declared.refusals.refusal.Refusal.TheVariants.{NoCompany, NoDay}
use Rattle.desk_rules.specs.Chain.{◌>>=◌}
use Rattle.desk_accounts.specs.declared.account.Account.TheVariants as accounts
use Rattle.desk_accounts.specs.declared.posting.Posting.{Posting}
use Rattle.desk_accounts.specs.Balance.{balance, days_balance, day_sums, lines_of}
use Rattle.desk_accounts.specs.Laws.{BalancesByDay}
use Rattle.desk_history.specs.declared.answer.Answer.TheVariants.{Done}
use Rattle.desk_history.specs.declared.answer.Outcome.TheVariants as done
use Rattle.desk_history.specs.declared.reports.Statement.{Statement}
use Rattle.desk_history.specs.Reply.{answer_of}
use Rattle.desk_history.specs.Request as request
use Rattle.desk_history.specs.Words.{some_or}
use Rattle.desk_book.specs.Book.{Book}
use Rattle.desk_book.specs.OnBook.{line_of, reply_on, standing_in, statement_on}

pub of_sums : BalancesByDay → (b : Book) (c : List ℕ) (d : ℕ) (sums : List (ℕ × ℤ)) (own : List Posting) (s : Statement)
    → sums ≡ day_sums (accounts.Company c) b.postings → own ≡ lines_of (accounts.Company c) b.postings
    → s ≡ record { balance = days_balance d sums; day = d; lines = map line_of own } → s ≡ statement_on b c d
of_sums by_day b c d sums own s are_sums are_own is =
    let ps = b.postings in
    let same : days_balance d sums ≡ balance (accounts.Company c) d ps =
    ap (days_balance d) are_sums ∙ by_day.balance (accounts.Company c) ps (day_sums (accounts.Company c) ps) d (by_day.sums (accounts.Company c) ps) in
    is ∙ (λ i. record { balance = same i; day = d; lines = map line_of (are_own i) })

-- who is registered, and has a day, is answered by it
pub answered : (b : Book) (c : List ℕ) (limits : Limits) (d : ℕ) (s : Statement) → some_or NoCompany (standing_in b c).limits ≡ Ok limits → some_or NoDay b.day ≡ Ok d
    → s ≡ statement_on b c d → Done (done.Statement s) ≡ reply_on b c request.Statement
answered b c limits d s has_limits has_day is =
    ap (λ (s : Statement). Done (done.Statement s)) is
    ∙ ap (λ (r : Result ℕ Refusal). answer_of (r >>= (λ d. Ok (done.Statement (statement_on b c d))))) (sym has_day)
    ∙ ap (λ (r : Result Limits Refusal). answer_of (r >>= (λ _. some_or NoDay b.day >>= (λ d. Ok (done.Statement (statement_on b c d)))))) (sym has_limits)
