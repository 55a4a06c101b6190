-- The answer to a company, from its part and what it asks alone.
use Rattle.std.specs.Prelude.{List, Result, Ok, Err}
use Rattle.desk_rules.specs.declared.refusals.refusal.Refusal as rules
use Rattle.desk_rules.specs.Chain.{◌>>=◌}
use Rattle.desk_history.specs.declared.answer.Answer.{Answer}
use Rattle.desk_history.specs.declared.answer.Answer.TheVariants as answers
use Rattle.desk_history.specs.declared.answer.Outcome.{Outcome}
use Rattle.desk_history.specs.declared.answer.Outcome.TheVariants as done
use Rattle.desk_history.specs.declared.answer.CallRefusal.TheVariants.{Rule}
use Rattle.desk_history.specs.Request as request
use Rattle.desk_history.specs.Request.{Request}
use Rattle.desk_history.specs.Part.{Event, holidays}
use Rattle.desk_history.specs.Accepted.{AcceptedSubmission}
use Rattle.desk_history.specs.Acceptance.{submissions, accepted_submission, accepted_retry, company_limits, desk_day}
use Rattle.desk_history.specs.Facts.{facts}
use Rattle.desk_history.specs.Reports.{receipt, submission_report, returns, changes, statement, day_rates, exposure}

-- done, or refused by a rule
abbrev pub answer_of : Result Outcome rules.Refusal → Answer
answer_of (Ok value) = answers.Done value
answer_of (Err why) = answers.Refused (Rule why)

abbrev pub receipt_of : Result AcceptedSubmission rules.Refusal → Result Outcome rules.Refusal
receipt_of (Ok a) = Ok (done.Submitted (receipt a.content a.order))
receipt_of (Err why) = Err why

-- the outcome of a request, or its first refusal
abbrev pub request_outcome : List Event → Request → Result Outcome rules.Refusal
request_outcome P (request.Submit d) = receipt_of (accepted_submission P (submissions P) d)
request_outcome P (request.Retry d) = receipt_of (accepted_retry P (submissions P) d)
request_outcome P (request.LookUp reference) = do
  _ ← company_limits P
  Ok (done.Found (submission_report P reference))
request_outcome P request.Returns = do
  _ ← company_limits P
  Ok (done.Returns (returns P))
request_outcome P request.Changes = do
  _ ← company_limits P
  Ok (done.Changes (changes P))
request_outcome P request.Statement = do
  _ ← company_limits P
  day ← desk_day P
  Ok (done.Statement (statement P day))
request_outcome P request.Rates = do
  _ ← company_limits P
  day ← desk_day P
  Ok (done.Rates (day_rates (facts P (submissions P)) day))
request_outcome P request.Exposure = do
  limits ← company_limits P
  day ← desk_day P
  Ok (done.Exposure (exposure (facts P (submissions P)) (holidays P) limits day))

-- the answer to a company whose part this is
abbrev pub reply : List Event → Request → Answer
reply P r = answer_of (request_outcome P r)
