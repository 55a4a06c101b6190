-- How a retry is judged, from the entry that it names and that entry's retries.
use Rattle.std.specs.Prelude.{ℕ, List, map, filter_map, Result}
use Rattle.desk_rules.specs.declared.bodies.company.Limits.{Limits}
use Rattle.desk_rules.specs.declared.bodies.submission.Entry.{Entry}
use Rattle.desk_rules.specs.declared.bodies.submission.Retry.{Retry}
use Rattle.desk_rules.specs.declared.bodies.submission.Submission.{Submission}
use Rattle.desk_rules.specs.declared.refusals.refusal.Refusal.{Refusal}
use Rattle.desk_rules.specs.declared.rules.attempt.Attempt.{Attempt}
use Rattle.desk_rules.specs.Attempts.{attempt_of}
use Rattle.desk_rules.specs.RetryRule.{retry_verdict}
use Rattle.desk_history.specs.Acceptance.{retry_content}
use Rattle.desk_book.specs.declared.row.Row.{Row}
use Rattle.desk_book.specs.Book.{Book}
use Rattle.desk_book.specs.Standing.{attempts_at, facts_in, state_at}
use Rattle.desk_admission.specs.Verdicts.{attempts_of}

-- the attempts that these retries are: each has one entry, and counts unless it lapsed
abbrev pub retry_attempts : List Row → List Attempt
retry_attempts retries = filter_map attempt_of (map (λ retry. state_at retry 1) retries)

-- whether the entry of a row, which has these retries, may be tried again, or why not
abbrev pub may_try_again : (retries : List Row) → Row → Retry → (today : ℕ) → (holidays : List ℕ)
    → Result (Unit {0}) Refusal
may_try_again retries row r today holidays =
    retry_verdict (attempts_of retries row r.index) r.day r.authorized today holidays

-- the content of a retry of this entry of a row, or its first refusal, as the book has its company
abbrev pub retried : (company : List ℕ) → Limits → (today : ℕ) → Retry → Row → Entry → Book
    → Result Submission Refusal
retried c limits today r row entry b =
    retry_content (facts_in (b.rows c)) b.holidays limits today r row.content entry
    (attempts_at (b.rows c) row r.index)
