-- The answer to a company's request is the text of the definitions' answer to its message.
use Rattle.std.proofs.Common.{◌≡◌, ℕ, List, Bool, refl, Option, Some, None, Result, Ok, Err}
use Rattle.desk_rules.specs.declared.bodies.draft.Draft.{Draft}
use Rattle.desk_rules.specs.declared.bodies.draft.RetryDraft.{RetryDraft}
use Rattle.desk_rules.specs.declared.refusals.refusal.Refusal.{Refusal}
use Rattle.desk_rules.specs.Chain.{◌>>=◌}
use Rattle.desk_history.specs.declared.answer.Outcome.{Outcome}
use Rattle.desk_history.specs.declared.answer.Outcome.TheVariants as outcomes
use Rattle.desk_history.specs.declared.reports.SubmissionReport.{SubmissionReport}
use Rattle.desk_history.specs.Accepted.{AcceptedSubmission}
use Rattle.desk_history.specs.Acceptance.{submissions, accepted_submission, accepted_retry, company_limits, desk_day}
use Rattle.desk_history.specs.Message.{Of}
use Rattle.desk_history.specs.Part.{Event}
use Rattle.desk_history.specs.Reply.{answer_of, receipt_of, request_outcome}
use Rattle.desk_history.specs.Reports.{submission_report}
use Rattle.desk_history.specs.Request as request
use Rattle.desk_history.specs.Request.{Request}
use Rattle.http_history.specs.Texts.{call_text, fault_text}
use Rattle.http_history.specs.Reply.{answer_text}

module _ (closes : Bool) (c : List ℕ) where
  abbrev IsText : Request → Result Outcome Refusal → Type 0
  IsText q o = call_text closes (Of c q) (answer_of o) ≡ answer_text closes o

  chained : {A : Type 0} (q : Request) (x : Result A Refusal) (f : A → Result Outcome Refusal) → ((a : A) → IsText q (f a)) → IsText q (x >>= f)
  unfolding call_text answer_text
  chained q (Ok a) f is = is a
  chained q (Err refusal) f is = refl

  submitted : (d : Draft) (o : Result AcceptedSubmission Refusal) → IsText (request.Submit d) (receipt_of o)
  unfolding call_text answer_text
  submitted d (Ok a) = refl
  submitted d (Err refusal) = refl

  retried : (d : RetryDraft) (o : Result AcceptedSubmission Refusal) → IsText (request.Retry d) (receipt_of o)
  unfolding call_text answer_text
  retried d (Ok a) = refl
  retried d (Err refusal) = refl

  found : (reference : List ℕ) (o : Option SubmissionReport) → IsText (request.LookUp reference) (Ok (outcomes.Found o))
  unfolding call_text fault_text answer_text
  found reference None = refl
  found reference (Some report) = refl

  pub text_of_request : (P : List Event) (q : Request) → IsText q (request_outcome P q)
  unfolding call_text answer_text
  text_of_request P (request.Submit d) = submitted d (accepted_submission P (submissions P) d)
  text_of_request P (request.Retry d) = retried d (accepted_retry P (submissions P) d)
  text_of_request P (request.LookUp reference) = chained (request.LookUp reference) (company_limits P) _ (λ limits. found reference (submission_report P reference))
  text_of_request P request.Returns = chained request.Returns (company_limits P) _ (λ limits. refl)
  text_of_request P request.Changes = chained request.Changes (company_limits P) _ (λ limits. refl)
  text_of_request P request.Statement = chained request.Statement (company_limits P) _ (λ limits. chained request.Statement (desk_day P) _ (λ day. refl))
  text_of_request P request.Rates = chained request.Rates (company_limits P) _ (λ limits. chained request.Rates (desk_day P) _ (λ day. refl))
  text_of_request P request.Exposure = chained request.Exposure (company_limits P) _ (λ limits. chained request.Exposure (desk_day P) _ (λ day. refl))
