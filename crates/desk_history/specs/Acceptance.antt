-- Which submissions and retries are accepted.
use Rattle.std.specs.Prelude.{ℕ, Bool, false, List, [], ◌∷◌, ◌++◌, find, Option, Some, None, if◌then◌else◌, Result, Ok, Err}
use Rattle.std.specs.List.{list_any}
use Rattle.desk_rules.specs.declared.bodies.company.Limits.{Limits}
use Rattle.desk_rules.specs.declared.bodies.draft.Draft.{Draft}
use Rattle.desk_rules.specs.declared.bodies.draft.RetryDraft.{RetryDraft}
use Rattle.desk_rules.specs.declared.rules.attempt.Attempt.{Attempt}
use Rattle.desk_rules.specs.declared.rules.entry_fact.EntryFact.{EntryFact}
use Rattle.desk_rules.specs.declared.refusals.refusal.Refusal.{Refusal}
use Rattle.desk_rules.specs.declared.refusals.refusal.Refusal.TheVariants.{NoCompany, NoDay, RefReused, NoEntry}
use Rattle.desk_rules.specs.declared.bodies.submission.Entry.{Entry}
use Rattle.desk_rules.specs.declared.bodies.submission.Retry.{Retry}
use Rattle.desk_rules.specs.declared.bodies.submission.Submission.{Submission}
use Rattle.desk_rules.specs.Chain.{◌>>=◌}
use Rattle.desk_rules.specs.LimitChecks.{limits_verdict}
use Rattle.desk_rules.specs.Retry.{retry_of}
use Rattle.desk_rules.specs.RetryRule.{retry_verdict}
use Rattle.desk_rules.specs.SameContent.{same_submission, same_retry}
use Rattle.desk_rules.specs.Size.{size_of}
use Rattle.desk_rules.specs.Submission.{submission_of}
use Rattle.desk_history.specs.Request as request
use Rattle.desk_history.specs.Request.{Request}
use Rattle.desk_history.specs.Words.{some_or}
use Rattle.desk_history.specs.Part.{Event, Asked, day, holidays, limits}
use Rattle.desk_history.specs.Accepted.{AcceptedSubmission, is_called, next_submission, content_of}
use Rattle.desk_history.specs.Facts.{facts}
use Rattle.desk_history.specs.Retries.{original_of, attempts}

abbrev pub company_limits : List Event → Result Limits Refusal
company_limits P = some_or NoCompany (limits P)

abbrev pub desk_day : List Event → Result ℕ Refusal
desk_day P = some_or NoDay (day P)

-- A known reference with equal content answers as the first did, and with other content is refused.
abbrev pub unless_known : {A : Type 0} → (A → Bool) → Option A → Result A Refusal → Result A Refusal
unless_known same None fresh = fresh
unless_known same (Some a) fresh = if same a then Ok a else Err RefReused

-- is what has this content a submission alike, and no retry?
abbrev pub is_same_submission : Submission → Submission → Option Retry → Bool
is_same_submission s content None = same_submission content s
is_same_submission s content (Some r) = false

-- is it a retry alike?
abbrev pub is_same_retry : Retry → Option Retry → Bool
is_same_retry r None = false
is_same_retry r (Some first) = same_retry first r

-- what is within a company's limits, or its first refusal
abbrev pub within_limits : List EntryFact → (holidays : List ℕ) → Limits → (today : ℕ) → Submission → Result Submission Refusal
within_limits facts holidays limits today s = do
  _ ← limits_verdict s today limits facts holidays
  Ok s

-- the content of a new submission, or its first refusal
abbrev pub new_content : List EntryFact → (holidays : List ℕ) → Limits → (today : ℕ) → Submission → Result Submission Refusal
new_content facts holidays limits today s = do
  _ ← size_of s
  within_limits facts holidays limits today s

-- the content of a retry of an entry of this submission, which was tried so often, or its first refusal
abbrev pub retry_content : List EntryFact → (holidays : List ℕ) → Limits → (today : ℕ) → Retry → Submission → Entry → List Attempt → Result Submission Refusal
retry_content facts holidays limits today r original e tried = do
  _ ← retry_verdict tried r.day r.authorized today holidays
  within_limits facts holidays limits today (content_of r original e)

-- a submission under a new reference
abbrev pub new_submission : List Event → List AcceptedSubmission → Limits → ℕ → Submission → Result AcceptedSubmission Refusal
new_submission P A limits today s = do
  content ← new_content (facts P A) (holidays P) limits today s
  Ok (next_submission P A content None None)

-- the accepted submission that answers a draft, or its first refusal
abbrev pub accepted_submission : List Event → List AcceptedSubmission → Draft → Result AcceptedSubmission Refusal
accepted_submission P A d = do
  limits ← company_limits P
  today ← desk_day P
  s ← submission_of d
  unless_known (λ a. is_same_submission s a.content a.retry) (find (is_called s.reference) A) (new_submission P A limits today s)

-- a retry under a new reference
abbrev pub new_retry : List Event → List AcceptedSubmission → Limits → ℕ → Retry → Result AcceptedSubmission Refusal
new_retry P A limits today r = do
  o ← some_or NoEntry (original_of A r)
  content ← retry_content (facts P A) (holidays P) limits today r o.accepted.content o.entry (attempts P A o)
  Ok (next_submission P A content (Some r) (Some o.accepted.place))

-- the accepted retry that answers a draft, or its first refusal
abbrev pub accepted_retry : List Event → List AcceptedSubmission → RetryDraft → Result AcceptedSubmission Refusal
accepted_retry P A d = do
  limits ← company_limits P
  today ← desk_day P
  r ← retry_of d
  unless_known (λ a. is_same_retry r a.retry) (find (is_called r.reference) A) (new_retry P A limits today r)

-- what was accepted, with the outcome of another request: it counts where its reference is new
abbrev pub with_accepted : List AcceptedSubmission → Result AcceptedSubmission Refusal → List AcceptedSubmission
with_accepted A (Err why) = A
with_accepted A (Ok a) = if list_any (is_called a.content.reference) A then A else A ++ a ∷ []

abbrev pub submissions_after : List Event → List AcceptedSubmission → Request → List AcceptedSubmission
submissions_after P A (request.Submit d) = with_accepted A (accepted_submission P A d)
submissions_after P A (request.Retry d) = with_accepted A (accepted_retry P A d)
submissions_after P A _ = A

-- the accepted submissions and retries, the oldest first
abbrev pub submissions : List Event → List AcceptedSubmission
submissions [] = []
submissions (Asked r ∷ P) = submissions_after P (submissions P) r
submissions (_ ∷ P) = submissions P
