-- The verdict of a request: its answer, and the row that it adds.
use Rattle.std.specs.Prelude.{◌≡◌, ◌⊎◌, ⊤, ℕ, ◌+◌, Bool, true, false, List, ◌∷◌, map, filter_map, length, Option, Some, None, option_map, is_some, Result, Ok, Err}
use Rattle.desk_rules.specs.declared.bodies.company.Limits.{Limits}
use Rattle.desk_rules.specs.declared.refusals.refusal.Refusal.{Refusal}
use Rattle.desk_rules.specs.declared.refusals.refusal.Refusal.TheVariants.{NoCompany, NoDay, RefReused}
use Rattle.desk_rules.specs.declared.bodies.draft.Draft.{Draft}
use Rattle.desk_rules.specs.declared.bodies.draft.RetryDraft.{RetryDraft}
use Rattle.desk_rules.specs.declared.bodies.submission.Retry.{Retry}
use Rattle.desk_rules.specs.declared.bodies.submission.Submission.{Submission}
use Rattle.desk_rules.specs.declared.rules.attempt.Attempt.{Attempt}
use Rattle.desk_rules.specs.Attempts.{attempt_of}
use Rattle.desk_rules.specs.Chain.{◌>>=◌}
use Rattle.desk_rules.specs.Retry.{retry_of}
use Rattle.desk_rules.specs.Submission.{submission_of}
use Rattle.desk_history.specs.declared.answer.Answer.{Answer}
use Rattle.desk_history.specs.declared.answer.Answer.TheVariants as answers
use Rattle.desk_history.specs.declared.answer.Outcome.TheVariants as done
use Rattle.desk_history.specs.declared.answer.CallRefusal.TheVariants.{Rule}
use Rattle.desk_book.specs.declared.row.Row.{Row}
use Rattle.desk_book.specs.Book.{Book}
use Rattle.desk_history.specs.Acceptance.{is_same_submission, is_same_retry, new_content, within_limits}
use Rattle.desk_history.specs.Reports.{receipt}
use Rattle.desk_history.specs.Request.{Request}
use Rattle.desk_book.specs.Standing.{row_under, facts_in, state_at, retry_content_among}
use Rattle.desk_history.specs.Words.{some_or}
use Rattle.desk_store.specs.declared.store.StoreFault.{StoreFault}
use Rattle.desk_book.specs.Steps.{add_submission}
use Rattle.desk_admission.specs.Answering.{IsLeft}
use Rattle.desk_admission.specs.declared.verdict.NewRow.{NewRow}
use Rattle.desk_admission.specs.declared.verdict.Verdict.{Verdict}
use Rattle.desk_book.specs.OnBook.{standing_in, reply_on}
use Rattle.desk_book.specs.Requests.{added_row}

-- a row, as a company with these rows adds it
abbrev pub row_to_add : List Row → Row → NewRow
row_to_add rs row = record { order = length rs + 1; content = row.content; retry = row.retry }

-- the verdict of a company's request
abbrev pub verdict_on : Book → List ℕ → Request → Verdict
verdict_on b c r = record { answer = reply_on b c r; added = option_map (row_to_add (b.rows c)) (added_row b c r) }

-- ---- how the desk finds it

-- nothing is added
abbrev pub refused_verdict : Refusal → Verdict
refused_verdict why = record { answer = answers.Refused (Rule why); added = None }

-- where a row has the reference: what is the same is answered as it was the first time
abbrev pub known_verdict : Bool → Row → Verdict
known_verdict true row = record { answer = answers.Done (done.Submitted (receipt row.content row.order)); added = None }
known_verdict false row = refused_verdict RefReused

-- where none has it
abbrev pub fresh_verdict : ℕ → Option Retry → Result Submission Refusal → Verdict
fresh_verdict order retry (Err why) = refused_verdict why
fresh_verdict order retry (Ok s) = record {
  answer = answers.Done (done.Submitted (receipt s order));
  added = Some (record { order = order; content = s; retry = retry });
}

-- by the row that has the reference, if one has
abbrev pub reference_verdict : (Row → Bool) → Option Row → Verdict → Verdict
reference_verdict same None fresh = fresh
reference_verdict same (Some row) fresh = known_verdict (same row) row

-- what is within a company's limits, or its first refusal
abbrev pub limited_on : (company : List ℕ) → Limits → (today : ℕ) → Submission → Book → Result Submission Refusal
limited_on c limits today s b = within_limits (facts_in (b.rows c)) b.holidays limits today s

-- a submission under a new reference
abbrev pub fresh_submission : (company : List ℕ) → Limits → (today : ℕ) → Submission → Book → Verdict
fresh_submission c limits today s b =
    fresh_verdict (length (b.rows c) + 1) None (new_content (facts_in (b.rows c)) b.holidays limits today s)

-- a submission whose fields are right
abbrev pub submission_on : Book → (company : List ℕ) → Limits → (today : ℕ) → Submission → Verdict
submission_on b c limits today s =
    reference_verdict (λ row. is_same_submission s row.content row.retry) (row_under (b.rows c) s.reference)
    (fresh_submission c limits today s b)

-- the attempts to collect an entry of a row, which has these retries
abbrev pub attempts_of : List Row → Row → ℕ → List Attempt
attempts_of retries row index = filter_map attempt_of (state_at row index ∷ map (λ retry. state_at retry 1) retries)

-- a retry whose fields are right, of a company with these rows
abbrev pub retry_among : List Row → (holidays : List ℕ) → Limits → (today : ℕ) → Retry → Verdict
retry_among rs holidays limits today r =
    reference_verdict (λ row. is_same_retry r row.retry) (row_under rs r.reference) (fresh_verdict (length rs + 1) (Some r) (retry_content_among rs holidays limits today r))

-- the content of a retry under a new reference, or its first refusal
abbrev pub retry_content_on : (company : List ℕ) → Limits → (today : ℕ) → Retry → Book → Result Submission Refusal
retry_content_on c limits today r b = retry_content_among (b.rows c) b.holidays limits today r

-- a retry under a new reference
abbrev pub fresh_retry : (company : List ℕ) → Limits → (today : ℕ) → Retry → Book → Verdict
fresh_retry c limits today r b = fresh_verdict (length (b.rows c) + 1) (Some r) (retry_content_on c limits today r b)

abbrev pub retry_on : Book → (company : List ℕ) → Limits → (today : ℕ) → Retry → Verdict
retry_on b c limits today r = retry_among (b.rows c) b.holidays limits today r

-- the limits of a registered company
abbrev pub limits_on : (company : List ℕ) → Book → Result Limits Refusal
limits_on c b = some_or NoCompany (standing_in b c).limits

-- the limits of a registered company, and the desk day
abbrev pub limits_and_day : Book → List ℕ → Result (Limits × ℕ) Refusal
limits_and_day b c = do
  limits ← limits_on c b
  today ← some_or NoDay b.day
  Ok (limits, today)

-- a draft: the company and the day come first, then its fields
abbrev pub verdict_of_fields : {A : Type 0} → Result (Limits × ℕ) Refusal → Result A Refusal → (Limits → ℕ → A → Verdict) → Verdict
verdict_of_fields (Err why) fields judge = refused_verdict why
verdict_of_fields (Ok on) (Err why) judge = refused_verdict why
verdict_of_fields (Ok on) (Ok x) judge = judge on.0 on.1 x

-- the draft of a submission
abbrev pub draft_verdict : (company : List ℕ) → Draft → Book → Verdict
draft_verdict c d b = verdict_of_fields (limits_and_day b c) (submission_of d) (submission_on b c)

-- the draft of a retry
abbrev pub retry_draft_verdict : (company : List ℕ) → RetryDraft → Book → Verdict
retry_draft_verdict c d b = verdict_of_fields (limits_and_day b c) (retry_of d) (retry_on b c)

-- ---- the write of a verdict

abbrev pub with_added : List ℕ → Option NewRow → Book → Book
with_added c None b = b
with_added c (Some n) b = (add_submission c n.order n.content n.retry).after b

-- the new row is the company's next
abbrev pub IsNextOf : List ℕ → Option NewRow → Book → Type 0
IsNextOf c None b = ⊤
IsNextOf c (Some n) b = (add_submission c n.order n.content n.retry).Admits b

-- The answer is that of the verdict, and the store has the new row; or it could not act.
abbrev pub Adds : (Book → Type 0) → Result Answer StoreFault → List ℕ → Verdict → (Book → Type 0) → Type 0
Adds old (Ok a) c v new = (b : Book) → old b → IsNextOf c v.added b → (a ≡ v.answer) × new (with_added c v.added b)
Adds old (Err fault) c v new = (b : Book) → old b → new b

abbrev pub LeavesAdded : {Kept : Type 0} → (keeps : Kept → Book → Type 0) → (holds : Book → Type 0) → (old : Kept → Type 0) → Result Answer StoreFault → (company : List ℕ) → Verdict → (new : Kept → Type 0) → Type 0
LeavesAdded {Kept} keeps holds old (Ok a) c v new = (b : Book) (k : Kept) → holds b → IsNextOf c v.added b → new k → IsLeft (is_some v.added) (keeps k (with_added c v.added b)) (old k)
LeavesAdded {Kept} keeps holds old (Err fault) c v new = (b : Book) (k : Kept) → holds b → IsNextOf c v.added b → new k → old k ⊎ keeps k (with_added c v.added b)
