-- The answers to a company, from what the book has of it.
use Rattle.std.specs.Prelude.{ℕ, List, [], map, find, zip, option_map, unwrap_or, Result, Ok, Err}
use Rattle.std.specs.List.{enumerate_from}
use Rattle.desk_accounts.specs.declared.account.Account.TheVariants as accounts
use Rattle.desk_accounts.specs.declared.posting.Posting.{Posting}
use Rattle.desk_accounts.specs.Balance.{balance, lines_of}
use Rattle.desk_rules.specs.declared.refusals.refusal.Refusal as rules
use Rattle.desk_rules.specs.declared.refusals.refusal.Refusal.TheVariants.{NoCompany, NoDay}
use Rattle.desk_rules.specs.Chain.{◌>>=◌}
use Rattle.desk_history.specs.declared.answer.Answer.{Answer}
use Rattle.desk_history.specs.declared.answer.Outcome.{Outcome}
use Rattle.desk_history.specs.declared.answer.Outcome.TheVariants as done
use Rattle.desk_history.specs.declared.reports.SubmissionReport.{SubmissionReport}
use Rattle.desk_history.specs.declared.reports.StatementLine.{StatementLine}
use Rattle.desk_history.specs.declared.reports.Statement.{Statement}
use Rattle.desk_book.specs.declared.row.Row.{Row}
use Rattle.desk_book.specs.Book.{Book}
use Rattle.desk_history.specs.Operator.{has_id}
use Rattle.desk_history.specs.Reply.{answer_of}
use Rattle.desk_history.specs.Reports.{receipt, report, reported_entry, day_rates, exposure}
use Rattle.desk_history.specs.Request as request
use Rattle.desk_history.specs.Request.{Request}
use Rattle.desk_book.specs.Standing.{Standing, row_under, facts_in, submission_row, retry_row}
use Rattle.desk_history.specs.Words.{some_or}

-- what a company's requests are judged by
abbrev pub standing_in : Book → List ℕ → Standing
standing_in b c = record {
  limits = option_map (λ k. k.limits) (find (has_id c) b.companies);
  day = b.day;
  holidays = b.holidays;
  rows = b.rows c;
}

-- a submission with the states of its entries
abbrev pub row_report : Row → SubmissionReport
row_report row = report row.content row.order row.retry (map reported_entry (enumerate_from 1 (zip row.content.entries row.states)))

-- a line of a company's account as its statement has it
abbrev pub line_of : Posting → StatementLine
line_of p = record { cause = p.cause; cents = p.cents; day = p.value_day; index = p.idx; reference = unwrap_or p.reference [] }

abbrev pub statement_on : Book → (company : List ℕ) → (day : ℕ) → Statement
statement_on b c d = record {
  balance = balance (accounts.Company c) d b.postings;
  day = d;
  lines = map line_of (lines_of (accounts.Company c) b.postings);
}

abbrev pub receipt_of : Result Row rules.Refusal → Result Outcome rules.Refusal
receipt_of (Ok row) = Ok (done.Submitted (receipt row.content row.order))
receipt_of (Err why) = Err why

-- the outcome of a request, or its first refusal
abbrev pub outcome_on : Book → List ℕ → Request → Result Outcome rules.Refusal
outcome_on b c (request.Submit d) = receipt_of (submission_row (standing_in b c) d)
outcome_on b c (request.Retry d) = receipt_of (retry_row (standing_in b c) d)
outcome_on b c (request.LookUp reference) = do
  _ ← some_or NoCompany (standing_in b c).limits
  Ok (done.Found (option_map row_report (row_under (b.rows c) reference)))
outcome_on b c request.Returns = do
  _ ← some_or NoCompany (standing_in b c).limits
  Ok (done.Returns (b.returns c))
outcome_on b c request.Changes = do
  _ ← some_or NoCompany (standing_in b c).limits
  Ok (done.Changes (b.changes c))
outcome_on b c request.Statement = do
  _ ← some_or NoCompany (standing_in b c).limits
  d ← some_or NoDay b.day
  Ok (done.Statement (statement_on b c d))
outcome_on b c request.Rates = do
  _ ← some_or NoCompany (standing_in b c).limits
  d ← some_or NoDay b.day
  Ok (done.Rates (day_rates (facts_in (b.rows c)) d))
outcome_on b c request.Exposure = do
  limits ← some_or NoCompany (standing_in b c).limits
  d ← some_or NoDay b.day
  Ok (done.Exposure (exposure (facts_in (b.rows c)) b.holidays limits d))

-- the answer to a company, from the book
abbrev pub reply_on : Book → List ℕ → Request → Answer
reply_on b c r = answer_of (outcome_on b c r)
