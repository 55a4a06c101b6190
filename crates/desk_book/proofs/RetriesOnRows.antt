-- Retries by rows: the entry that is tried again, the attempts and the verdict.
use Rattle.std.proofs.Common.{◌≡◌, ◌<◌, ◌≤◌, ℕ, ◌-◌, List, [], ◌∷◌, length, map, Bool, true, false, refl, sym, ap, ◌∙◌, arith, if◌then◌else◌}
use Rattle.std.specs.Prelude.{All, Option, Some, None, option_map, option_and_then, filter, filter_map, Result, Ok}
use Rattle.std.specs.List.{range_with_len}
use Rattle.std.proofs.lemmas.List.Elements.{All-head, All-tail}
use Rattle.std.proofs.lemmas.List.FromFn.{get_or-map-range_with_len}
use Rattle.std.proofs.lemmas.Option.{unwrap_or-slice_get, slice_get_within}
use Rattle.desk_rules.specs.declared.rules.attempt.Attempt.{Attempt}
use Rattle.desk_rules.specs.declared.bodies.company.Limits.{Limits}
use Rattle.desk_rules.specs.declared.bodies.draft.RetryDraft.{RetryDraft}
use Rattle.desk_rules.specs.declared.rules.entry_fact.EntryFact.{EntryFact}
use Rattle.desk_rules.specs.declared.rules.entry_fact.EntryState.TheVariants as states
use Rattle.desk_rules.specs.declared.refusals.refusal.Refusal.{Refusal}
use Rattle.desk_rules.specs.declared.refusals.refusal.Refusal.TheVariants.{NoEntry}
use Rattle.desk_rules.specs.declared.bodies.submission.Entry.{Entry}
use Rattle.desk_rules.specs.declared.bodies.submission.Retry.{Retry}
use Rattle.desk_rules.specs.declared.bodies.submission.Submission.{Submission}
use Rattle.desk_rules.specs.Attempts.{attempt_of}
use Rattle.desk_rules.specs.Chain.{◌>>=◌}
use Rattle.desk_rules.specs.Retry.{retry_of}
use Rattle.desk_book.specs.declared.row.Row.{Row}
use Rattle.desk_history.specs.Part.{Event, holidays}
use Rattle.desk_history.specs.Words.{some_or}
use Rattle.desk_history.specs.Accepted.{AcceptedSubmission, next_submission, state_of}
use Rattle.desk_history.specs.Facts.{facts}
use Rattle.desk_history.specs.Retries.{Original, live_debit, entry_at, original_of, is_same_entry, attempts}
use Rattle.desk_history.specs.Acceptance.{submissions, accepted_retry, retry_content, new_retry, unless_known, is_same_retry, company_limits, desk_day}
use Rattle.desk_history.specs.AcceptedLaws.{IsSized}
use Rattle.desk_history.specs.Reports.{submission_under}
use Rattle.desk_book.specs.Book.{rows, row_of}
use Rattle.desk_book.specs.Standing.{RowEntry, standing, facts_in, next_row, row_entry_at, row_entry_of, state_at, attempts_at, new_retry_row, retry_row}
use Rattle.desk_book.specs.RowLaws.{row_of_result, VerdictsOnRows}
use Rattle.desk_history.proofs.Acceptance.Named.{IsNamed, named_parts, retry_numbered}
use Rattle.desk_history.proofs.Acceptance.Ordered.{sizes}
use Rattle.desk_book.proofs.OnRows.{facts_same, under, settled_on_rows, row_is_next, chained, known_same, submitted_on_rows}

-- ---- the entry that a retry names

-- a live debit with its row
abbrev entry_row : List Event → Original → RowEntry
entry_row P o = record { row = row_of P o.accepted; index = o.index; entry = o.entry }

original_same : (P : List Event) (r : Retry) → row_entry_of (rows P) r ≡ option_map (entry_row P) (original_of (submissions P) r)
original_same P r = ap (option_and_then (λ row. row_entry_at row r.index)) (sym (under P r.of)) ∙ at (submission_under P r.of) where
  at : (o : Option AcceptedSubmission) → option_and_then (λ row. row_entry_at row r.index) (option_map (row_of P) o) ≡ option_map (entry_row P) (option_and_then (λ a. entry_at a r.index) o)
  at None = refl
  at (Some a) = entry (live_debit a.content a.retry r.index) where
    entry : (o : Option Entry) → option_map (λ e. record { row = row_of P a; index = r.index; entry = e }) o ≡ option_map (entry_row P) (option_map (λ e. record { accepted = a; index = r.index; entry = e }) o)
    entry None = refl
    entry (Some e) = refl

-- ---- attempts

pub state_same : (P : List Event) (a : AcceptedSubmission) (index : ℕ) → 1 ≤ index → index - 1 < length a.content.entries → state_at (row_of P a) index ≡ state_of P a index
state_same P a index from within =
    unwrap_or-slice_get (map (state_of P a) (range_with_len 1 (length a.content.entries))) (index - 1) states.Held
    ∙ get_or-map-range_with_len (state_of P a) 1 (length a.content.entries) (index - 1) index states.Held within (omega arith)

-- each retry has its one entry
retries_same : (P : List Event) (of : List ℕ) (index : ℕ) (A : List AcceptedSubmission) → All IsSized A
    → map (λ row. state_at row 1) (filter (λ row. is_same_entry of index row.retry) (map (row_of P) A)) ≡ map (λ a. state_of P a 1) (filter (λ a. is_same_entry of index a.retry) A)
retries_same P of index [] sized = refl
retries_same P of index (a ∷ A) sized =
    let rest = retries_same P of index A (All-tail IsSized a A sized) in
    let first : state_at (row_of P a) 1 ≡ state_of P a 1 = state_same P a 1 (omega arith) (omega (arith, (All-head IsSized a A sized).some)) in
    let before = filter (λ row. is_same_entry of index row.retry) (map (row_of P) A) in
    let after = filter (λ (a : AcceptedSubmission). is_same_entry of index a.retry) A in
    elim (is_same_entry of index a.retry) as (λ (t : Bool). map (λ row. state_at row 1) (if t then row_of P a ∷ before else before) ≡ map (λ a. state_of P a 1) (if t then a ∷ after else after)) [
      | true ↦ (λ i. first i ∷ rest i)
      | false ↦ rest
    ]

attempts_same : (P : List Event) (r : Retry) (o : Original) → 1 ≤ r.index → IsNamed (submissions P) r o → attempts P (submissions P) o ≡ attempts_at (rows P) (row_of P o.accepted) o.index
attempts_same P r o from named =
    let numbered : 1 ≤ o.index = rw named.index from in
    let head = state_same P o.accepted o.index numbered (slice_get_within o.accepted.content.entries (o.index - 1) o.entry named.at) in
    let others = retries_same P o.accepted.content.reference o.index (submissions P) (sizes P) in
    sym (λ i. filter_map attempt_of (head i ∷ others i))

-- ---- the verdict

original_chained : (P : List Event) (o : Option Original) (f : Original → Result AcceptedSubmission Refusal) (g : RowEntry → Result Submission Refusal) (next : Submission → Result Row Refusal)
    → ((x : Original) → o ≡ Some x → row_of_result P (f x) ≡ (g (entry_row P x) >>= next)) → row_of_result P (some_or NoEntry o >>= f) ≡ ((some_or NoEntry (option_map (entry_row P) o) >>= g) >>= next)
original_chained P None f g next same = refl
original_chained P (Some o) f g next same = same o refl

new_retry_same : (P : List Event) (l : Limits) (today : ℕ) (r : Retry) → 1 ≤ r.index → row_of_result P (new_retry P (submissions P) l today r) ≡ new_retry_row (standing P) l today r
new_retry_same P l today r from =
    original_chained P (original_of (submissions P) r) _ on_entry next (λ o named.
    (λ i. row_of_result P (content o (facts_same P (submissions P) i) (attempts_same P r o from (named_parts (submissions P) r o named) i)
    >>= (λ s. Ok (next_submission P (submissions P) s (Some r) (Some o.accepted.place)))))
    ∙ chained P (content o (facts_in (rows P)) (attempts_at (rows P) (row_of P o.accepted) o.index)) _ next (λ s _. ap Ok (row_is_next P s (Some r) (Some o.accepted.place))))
    ∙ ap (λ (o : Option RowEntry). (some_or NoEntry o >>= on_entry) >>= next) (sym (original_same P r))
  where
    content : Original → List EntryFact → List Attempt → Result Submission Refusal
    content o facts tried = retry_content facts (holidays P) l today r o.accepted.content o.entry tried

    on_entry : RowEntry → Result Submission Refusal
    on_entry o = retry_content (facts_in (rows P)) (holidays P) l today r o.row.content o.entry (attempts_at (rows P) o.row o.index)

    next : Submission → Result Row Refusal
    next s = Ok (next_row (rows P) s (Some r))

pub retried_on_rows : (P : List Event) (d : RetryDraft) → row_of_result P (accepted_retry P (submissions P) d) ≡ retry_row (standing P) d
retried_on_rows P d =
    chained P (company_limits P) _ _ (λ l _.
    chained P (desk_day P) _ _ (λ today _.
    chained P (retry_of d) _ _ (λ r is.
    known_same P (λ row. is_same_retry r row.retry) (submission_under P r.reference) (new_retry P (submissions P) l today r)
    ∙ (λ i. unless_known (λ row. is_same_retry r row.retry) (under P r.reference i) (new_retry_same P l today r (retry_numbered d r is) i)))))

pub verdicts_on_rows : VerdictsOnRows
verdicts_on_rows = record {
  facts = λ P. facts_same P (submissions P);
  under = under;
  settled = settled_on_rows;
  submitted = submitted_on_rows;
  retried = retried_on_rows;
}
