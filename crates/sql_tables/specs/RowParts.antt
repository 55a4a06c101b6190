-- A row of the book, out of what four tables say of a submission.
use Rattle.std.specs.Prelude.{ℕ, ◌==◌, List, map, find, Option, Some, None, option_map}
use Rattle.desk_book.specs.declared.row.Row.{Row}
use Rattle.desk_history.specs.declared.reports.RetriedEntry.{RetriedEntry}
use Rattle.desk_rules.specs.declared.bodies.submission.Retry.{Retry}
use Rattle.desk_rules.specs.declared.bodies.submission.Submission.{Submission}
use Rattle.desk_rules.specs.declared.rules.entry_fact.EntryState.{EntryState}
use Rattle.desk_rules.specs.declared.rules.entry_fact.EntryState.TheVariants as states
use Rattle.sql_tables.specs.Encodes.{unless_lapsed}
use Rattle.sql_tables.specs.declared.row.entries.NumberedEntry.{NumberedEntry}
use Rattle.sql_tables.specs.declared.row.items.EntryReturn.{EntryReturn}
use Rattle.sql_tables.specs.declared.row.submissions.SubmissionHead.{SubmissionHead}

-- an entry that settles was sent, or came back
abbrev pub state_with : (settled : Option ℕ) → Option EntryReturn → EntryState
state_with None back = states.Held
state_with (Some on) None = states.Sent on
state_with (Some on) (Some r) = states.Returned on r.code r.day r.late

-- the state of the entry with this number
abbrev pub state_among : SubmissionHead → List EntryReturn → (index : ℕ) → EntryState
state_among head returns index = unless_lapsed head.lapsed (state_with head.settled (find (λ r. r.index == index) returns))

-- the states of these entries, in order
abbrev pub states_among : SubmissionHead → List EntryReturn → List NumberedEntry → List EntryState
states_among head returns entries = map (λ e. state_among head returns e.index) entries

abbrev pub content_of : SubmissionHead → List NumberedEntry → Submission
content_of head entries = record {
  reference = head.reference;
  sec = head.sec;
  direction = head.direction;
  description = head.description;
  day = head.asked;
  entries = map (λ e. e.entry) entries;
}

-- what a retry asked
abbrev pub retry_with : SubmissionHead → (authorized : Option ℕ) → RetriedEntry → Retry
retry_with head authorized tried = record { reference = head.reference; of = tried.of; index = tried.index; day = head.asked; authorized = authorized }

abbrev pub row_of_parts : SubmissionHead → List NumberedEntry → List EntryReturn → (authorized : Option ℕ) → Row
row_of_parts head entries returns authorized = record {
  order = head.order;
  content = content_of head entries;
  retry = option_map (retry_with head authorized) head.retried;
  settled = head.settled;
  lapsed = head.lapsed;
  states = states_among head returns entries;
}
