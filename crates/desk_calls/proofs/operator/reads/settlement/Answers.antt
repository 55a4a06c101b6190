use Rattle.std.proofs.Common.{◌≡◌, ℕ, List, map, sym, ap, ◌∙◌}
use Rattle.std.specs.Prelude.{ℤ, Result, Ok}
use Rattle.desk_rules.specs.declared.refusals.refusal.Refusal.{Refusal}
use Rattle.desk_accounts.specs.declared.account.Account.TheVariants as accounts
use Rattle.desk_accounts.specs.Balance.{balance, days_balance, day_sums}
use Rattle.desk_accounts.specs.Laws.{BalancesByDay}
use Rattle.desk_rules.specs.declared.refusals.refusal.Refusal.TheVariants.{NoDay}
use Rattle.desk_rules.specs.Chain.{◌>>=◌}
use Rattle.desk_history.specs.declared.answer.Answer.TheVariants.{Done}
use Rattle.desk_history.specs.declared.answer.Outcome.TheVariants as done
use Rattle.desk_history.specs.declared.operations.Settlement.{Settlement}
use Rattle.desk_book.specs.Book.{Book}
use Rattle.desk_history.specs.Postings as history
use Rattle.desk_history.specs.Postings.{day_sum}
use Rattle.desk_history.specs.Reply.{answer_of}
use Rattle.desk_history.specs.Words.{some_or}
use Rattle.desk_book.specs.OnOperator.{settlement_answer}
use Rattle.desk_calls.proofs.operator.reads.settlement.Goals as goal

-- the settlement of the sums by value day is that of the lines
of_sums : (by_day : BalancesByDay) (b : Book) (d : ℕ) (rows : List (ℕ × ℤ)) (s : Settlement) → some_or NoDay b.day ≡ Ok d
    → rows ≡ day_sums accounts.Operator b.postings
    → s ≡ record { balance = days_balance d rows; day = d; days = map day_sum rows }
    → Done (done.Settlement s) ≡ settlement_answer b
of_sums by_day b d rows s is_day are_sums is =
    let ps = b.postings in
    let same_balance : days_balance d rows ≡ balance accounts.Operator d ps =
    ap (days_balance d) are_sums ∙ by_day.balance accounts.Operator ps (day_sums accounts.Operator ps) d (by_day.sums accounts.Operator ps) in
    ap (λ (s : Settlement). Done (done.Settlement s)) is
    ∙ (λ i. Done (done.Settlement (record { balance = same_balance i; day = d; days = map day_sum (are_sums i) })))
    ∙ ap (λ (r : Result ℕ Refusal). answer_of (r >>= (λ d. Ok (done.Settlement (history.settlement ps d))))) (sym is_day)

pub returns : goal.returns
returns g c =
    record {
      before = λ clean. c.desk_day.ensures.before (c.balances_of.ensures.before clean);
      answers = λ clean b held.
          let day_read = c.in_ok-day.ensures.read (c.balances_of.ensures.before clean) b held in
          let rows_read = c.in_ok-rows.ensures.read clean b day_read.1 in
          (of_sums c.balances_by_day.ensures b c.in-Ok.day c.deref.result.now c.in_ok-settlement.settlement (sym day_read.0 ∙ c.in-Ok.is) (c.deref.ensures.value ∙ rows_read.0) c.in_ok-settlement.ensures, rows_read.1);
      left = λ clean kept may. c.desk_day.ensures.left (c.balances_of.ensures.before clean) kept (c.balances_of.ensures.left clean kept may);
    }
