-- The entry that a retry names, and the attempts to collect it.
use Rattle.std.specs.Prelude.{ℕ, ◌-◌, Bool, false, not, ◌&&◌, ◌==◌, if◌then◌else◌, List, ◌∷◌, map, filter, filter_map, find, Option, Some, None, option_map, option_and_then, slice_get, bytes_eq}
use Rattle.desk_rules.specs.declared.rules.attempt.Attempt.{Attempt}
use Rattle.desk_rules.specs.declared.bodies.submission.Entry.{Entry}
use Rattle.desk_rules.specs.declared.bodies.submission.Retry.{Retry}
use Rattle.desk_rules.specs.declared.bodies.submission.Submission.{Submission}
use Rattle.desk_rules.specs.Attempts.{attempt_of}
use Rattle.desk_rules.specs.LimitChecks.{is_debit}
use Rattle.desk_history.specs.Part.{Event}
use Rattle.desk_history.specs.Accepted.{AcceptedSubmission, is_called, state_of}

-- the live debit with this number in a submission, unless the submission is a retry
abbrev pub live_debit : (content : Submission) → (retry : Option Retry) → (index : ℕ) → Option Entry
live_debit s None index = option_and_then (λ e. if is_debit s.direction && not e.prenote then Some e else None) (slice_get s.entries (index - 1))
live_debit s (Some r) index = None

-- a live debit, with the submission that it is of
pub record Original : Type 0 where
  pub accepted : AcceptedSubmission
  pub index : ℕ
  pub entry : Entry

abbrev pub entry_at : AcceptedSubmission → ℕ → Option Original
entry_at a index = option_map (λ e. record { accepted = a; index = index; entry = e }) (live_debit a.content a.retry index)

-- the live debit that a retry names
abbrev pub original_of : List AcceptedSubmission → Retry → Option Original
original_of A r = option_and_then (λ a. entry_at a r.index) (find (is_called r.of) A)

abbrev pub is_same_entry : (of : List ℕ) → (index : ℕ) → Option Retry → Bool
is_same_entry of index None = false
is_same_entry of index (Some r) = bytes_eq r.of of && r.index == index

-- the retries of an entry, in order
abbrev pub retries_of : List AcceptedSubmission → (of : List ℕ) → (index : ℕ) → List AcceptedSubmission
retries_of A of index = filter (λ a. is_same_entry of index a.retry) A

-- the entry and its retries that have not lapsed, in order
abbrev pub attempts : List Event → List AcceptedSubmission → Original → List Attempt
attempts P A o = filter_map attempt_of (state_of P o.accepted o.index ∷ map (λ a. state_of P a 1) (retries_of A o.accepted.content.reference o.index))
