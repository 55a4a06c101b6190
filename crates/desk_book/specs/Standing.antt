-- The facts by which a company's requests are judged: its limits, the desk day, the holidays and its rows. The
-- definitions over events agree with these over rows.
use Rattle.std.specs.Prelude.{ℕ, ◌+◌, ◌-◌, Bool, true, false, not, ◌&&◌, ◌==◌, if◌then◌else◌, List, [], ◌∷◌, ◌++◌, map, filter, filter_map, find, length, zip, replicate, Option, Some, None, is_none, unwrap_or, option_map, option_and_then, slice_get, Result, Ok, Err, bytes_eq}
use Rattle.std.specs.List.{flat_map, list_any, enumerate_from}
use Rattle.desk_rules.specs.declared.rules.attempt.Attempt.{Attempt}
use Rattle.desk_rules.specs.declared.bodies.company.Limits.{Limits}
use Rattle.desk_rules.specs.declared.bodies.draft.Draft.{Draft}
use Rattle.desk_rules.specs.declared.bodies.draft.RetryDraft.{RetryDraft}
use Rattle.desk_rules.specs.declared.rules.entry_fact.EntryFact.{EntryFact}
use Rattle.desk_rules.specs.declared.rules.entry_fact.EntryState.{EntryState}
use Rattle.desk_rules.specs.declared.rules.entry_fact.EntryState.TheVariants as states
use Rattle.desk_rules.specs.declared.refusals.refusal.Refusal.{Refusal}
use Rattle.desk_rules.specs.declared.refusals.refusal.Refusal.TheVariants.{NoCompany, NoDay, NoEntry}
use Rattle.desk_rules.specs.declared.bodies.submission.Entry.{Entry}
use Rattle.desk_rules.specs.declared.bodies.submission.Retry.{Retry}
use Rattle.desk_rules.specs.declared.bodies.submission.Submission.{Submission}
use Rattle.desk_rules.specs.Attempts.{attempt_of}
use Rattle.desk_rules.specs.Chain.{◌>>=◌}
use Rattle.desk_rules.specs.Deadlines.{is_late}
use Rattle.desk_rules.specs.LimitChecks.{is_debit}
use Rattle.desk_rules.specs.Retry.{retry_of}
use Rattle.desk_rules.specs.Submission.{submission_of}
use Rattle.desk_book.specs.declared.row.Row.{Row}
use Rattle.desk_history.specs.Request as request
use Rattle.desk_history.specs.Request.{Request}
use Rattle.desk_history.specs.Words.{some_or}
use Rattle.desk_history.specs.Part as part
use Rattle.desk_history.specs.Part.{Event}
use Rattle.desk_history.specs.Acceptance.{unless_known, is_same_submission, is_same_retry, new_content, retry_content}
use Rattle.desk_history.specs.Facts.{entry_fact}
use Rattle.desk_history.specs.Retries.{live_debit, is_same_entry}
use Rattle.desk_history.specs.State.{is_due, next_settlement, is_too_late}
use Rattle.desk_book.specs.Book.{rows}

pub record Standing : Type 0 where
  pub limits : Option Limits
  pub day : Option ℕ
  pub holidays : List ℕ
  pub rows : List Row

abbrev pub standing : List Event → Standing
standing P = record { limits = part.limits P; day = part.day P; holidays = part.holidays P; rows = rows P }

-- ---- rows

abbrev pub is_row_under : List ℕ → Row → Bool
is_row_under reference row = bytes_eq row.content.reference reference

abbrev pub row_under : List Row → List ℕ → Option Row
row_under rs reference = find (is_row_under reference) rs

-- a fact for each entry of the rows
abbrev pub row_facts : Row → List EntryFact
row_facts row = map (entry_fact (is_debit row.content.direction)) (zip row.content.entries row.states)

abbrev pub facts_in : List Row → List EntryFact
facts_in rs = flat_map row_facts rs

-- the row of what is accepted next: its entries are held
abbrev pub next_row : List Row → Submission → Option Retry → Row
next_row rs s retry = record {
  order = length rs + 1;
  content = s;
  retry = retry;
  settled = None;
  lapsed = false;
  states = replicate (length s.entries) states.Held;
}

-- ---- verdicts

abbrev pub new_submission_row : Standing → Limits → ℕ → Submission → Result Row Refusal
new_submission_row st limits today s = do
  content ← new_content (facts_in st.rows) st.holidays limits today s
  Ok (next_row st.rows content None)

-- the row that answers a submission's draft, or its first refusal
abbrev pub submission_row : Standing → Draft → Result Row Refusal
submission_row st d = do
  limits ← some_or NoCompany st.limits
  today ← some_or NoDay st.day
  s ← submission_of d
  unless_known (λ row. is_same_submission s row.content row.retry) (row_under st.rows s.reference) (new_submission_row st limits today s)

-- a live debit with its row
pub record RowEntry : Type 0 where
  pub row : Row
  pub index : ℕ
  pub entry : Entry

abbrev pub row_entry_at : Row → ℕ → Option RowEntry
row_entry_at row index = option_map (λ e. record { row = row; index = index; entry = e }) (live_debit row.content row.retry index)

-- the live debit that a retry names
abbrev pub row_entry_of : List Row → Retry → Option RowEntry
row_entry_of rs r = option_and_then (λ row. row_entry_at row r.index) (row_under rs r.of)

-- the state of the entry with this number
abbrev pub state_at : Row → ℕ → EntryState
state_at row index = unwrap_or (slice_get row.states (index - 1)) states.Held

abbrev pub retry_rows : List Row → (of : List ℕ) → (index : ℕ) → List Row
retry_rows rs of index = filter (λ row. is_same_entry of index row.retry) rs

-- the entry and its retries that have not lapsed, in order
abbrev pub attempts_at : List Row → Row → ℕ → List Attempt
attempts_at rs row index = filter_map attempt_of (state_at row index ∷ map (λ other. state_at other 1) (retry_rows rs row.content.reference index))

-- the content of a retry among these rows, or its first refusal
abbrev pub retry_content_among : List Row → (holidays : List ℕ) → Limits → (today : ℕ) → Retry → Result Submission Refusal
retry_content_among rs holidays limits today r = do
  o ← some_or NoEntry (row_entry_of rs r)
  retry_content (facts_in rs) holidays limits today r o.row.content o.entry (attempts_at rs o.row o.index)

abbrev pub new_retry_row : Standing → Limits → ℕ → Retry → Result Row Refusal
new_retry_row st limits today r = do
  content ← retry_content_among st.rows st.holidays limits today r
  Ok (next_row st.rows content (Some r))

-- the row that answers a retry's draft, or its first refusal
abbrev pub retry_row : Standing → RetryDraft → Result Row Refusal
retry_row st d = do
  limits ← some_or NoCompany st.limits
  today ← some_or NoDay st.day
  r ← retry_of d
  unless_known (λ row. is_same_retry r row.retry) (row_under st.rows r.reference) (new_retry_row st limits today r)

-- ---- what one event makes of the rows

abbrev pub with_row : List Row → Result Row Refusal → List Row
with_row rs (Err why) = rs
with_row rs (Ok row) = if list_any (is_row_under row.content.reference) rs then rs else rs ++ row ∷ []

-- a request adds the row that answers it, if that row is new
abbrev pub rows_after_request : Standing → Request → List Row
rows_after_request st (request.Submit d) = with_row st.rows (submission_row st d)
rows_after_request st (request.Retry d) = with_row st.rows (retry_row st d)
rows_after_request st _ = st.rows

-- no cut has decided it
abbrev pub is_held : Row → Bool
is_held row = is_none row.settled && not row.lapsed

abbrev pub is_due_row : (holidays : List ℕ) → (today : ℕ) → Row → Bool
is_due_row holidays today row = is_due holidays today (is_debit row.content.direction) row.content.day

-- the day on which a cut would make it settle
abbrev pub settlement_of : (holidays : List ℕ) → (today : ℕ) → Row → ℕ
settlement_of holidays today row = next_settlement holidays today row.content.day

-- when the original of a retry settled
abbrev pub original_of_row : List Row → Option Retry → Option ℕ
original_of_row rs None = None
original_of_row rs (Some r) = option_and_then (λ row. row.settled) (row_under rs r.of)

abbrev pub sent_row : ℕ → Row → Row
sent_row on row = record row { settled = Some on; states = map (λ s. states.Sent on) row.states }

abbrev pub lapsed_row : Row → Row
lapsed_row row = record row { lapsed = true; states = map (λ s. states.Lapsed) row.states }

-- a cut sends a row that is due, or lets it lapse where it would settle too long after its original
abbrev pub decided_row : (on : ℕ) → (original : Option ℕ) → Row → Row
decided_row on original row = if is_too_late (Some on) original then lapsed_row row else sent_row on row

abbrev pub cut_row : (holidays : List ℕ) → (today : ℕ) → List Row → Row → Row
cut_row holidays today rs row =
    if is_held row && is_due_row holidays today row
    then decided_row (settlement_of holidays today row) (original_of_row rs row.retry) row
    else row

abbrev pub rows_after_cut : Standing → List Row
rows_after_cut st = map (cut_row st.holidays (unwrap_or st.day 0) st.rows) st.rows

-- a sent entry is returned
abbrev pub returned_state : (holidays : List ℕ) → (today : ℕ) → (code : ℕ) → EntryState → EntryState
returned_state holidays today code (states.Sent on) = states.Returned on code today (is_late code on today holidays)
returned_state holidays today code s = s

-- the row with a change of the state of its entry with this number, if it has the reference
abbrev pub change_state : (reference : List ℕ) → (index : ℕ) → (EntryState → EntryState) → Row → Row
change_state reference index change row =
    if is_row_under reference row
    then record row { states = map (λ x. if x.0 == index then change x.1 else x.1) (enumerate_from 1 row.states) }
    else row

abbrev pub returned_row : (holidays : List ℕ) → (today : ℕ) → (reference : List ℕ) → (index : ℕ) → (code : ℕ) → Row → Row
returned_row holidays today reference index code row = change_state reference index (returned_state holidays today code) row

abbrev pub rows_after_return : Standing → (reference : List ℕ) → (index : ℕ) → (code : ℕ) → List Row
rows_after_return st reference index code = map (returned_row st.holidays (unwrap_or st.day 0) reference index code) st.rows
