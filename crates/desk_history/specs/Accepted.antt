-- An accepted submission or retry.
use Rattle.std.specs.Prelude.{ℕ, ◌+◌, Bool, List, [], ◌∷◌, length, Option, bytes_eq, codes}
use Rattle.desk_rules.specs.declared.rules.entry_fact.EntryState.{EntryState}
use Rattle.desk_rules.specs.declared.bodies.submission.Entry.{Entry}
use Rattle.desk_rules.specs.declared.bodies.submission.Retry.{Retry}
use Rattle.desk_rules.specs.declared.bodies.submission.Submission.{Submission}
use Rattle.desk_rules.specs.LimitChecks.{is_debit}
use Rattle.desk_history.specs.Part.{Event}
use Rattle.desk_history.specs.State as state
use Rattle.desk_history.specs.State.{Place}

-- The n-th accepted one has order n. A retry's content is that of a submission of the one entry; it
-- keeps what was asked, and its original's place.
pub record AcceptedSubmission : Type 0 where
  pub order : ℕ
  pub place : Place
  pub content : Submission
  pub retry : Option Retry
  pub original : Option Place

abbrev pub is_called : List ℕ → AcceptedSubmission → Bool
is_called reference a = bytes_eq a.content.reference reference

abbrev pub settlement_day : List Event → AcceptedSubmission → Option ℕ
settlement_day P a = state.settlement_day P a.place a.original

abbrev pub has_lapsed : List Event → AcceptedSubmission → Bool
has_lapsed P a = state.has_lapsed P a.place a.original

abbrev pub is_sent_next : List Event → AcceptedSubmission → Bool
is_sent_next P a = state.is_sent_next P a.place a.original

abbrev pub lapses_next : List Event → AcceptedSubmission → Bool
lapses_next P a = state.lapses_next P a.place a.original

-- the state of its entry with this number
abbrev pub state_of : List Event → AcceptedSubmission → ℕ → EntryState
state_of P a index = state.state_of P a.place a.original a.content.reference index

-- what is accepted next after these events: its place and its order number
abbrev pub next_submission : List Event → List AcceptedSubmission → Submission → Option Retry → Option Place → AcceptedSubmission
next_submission P A s retry original = record {
  order = length A + 1;
  place = record { before = length P; debit = is_debit s.direction; asked = s.day };
  content = s;
  retry = retry;
  original = original;
}

-- the submission of a retry: the original's kind and entry, under the description of retries
abbrev pub content_of : Retry → Submission → Entry → Submission
content_of r s e = record {
  reference = r.reference;
  sec = s.sec;
  direction = s.direction;
  description = codes "RETRY PYMT";
  day = r.day;
  entries = e ∷ [];
}
