-- The row that a request adds comes after the company's others, held.
use Rattle.std.proofs.Common.{◌≡◌, ℕ, List, [], ◌∷◌, ◌++◌, Bool, true, false, refl, sym, ap, ◌∙◌}
use Rattle.std.specs.Prelude.{⊤, if◌then◌else◌, Option, Some, None, is_some, Result, Ok, Err}
use Rattle.std.specs.List.{list_any}
use Rattle.std.proofs.lemmas.Slice.Eq.{bytes_eq-Decides}
use Rattle.desk_rules.specs.declared.bodies.draft.Draft.{Draft}
use Rattle.desk_rules.specs.declared.bodies.draft.RetryDraft.{RetryDraft}
use Rattle.desk_rules.specs.declared.bodies.company.Limits.{Limits}
use Rattle.desk_rules.specs.declared.refusals.refusal.Refusal.{Refusal}
use Rattle.desk_rules.specs.declared.refusals.refusal.Refusal.TheVariants.{NoCompany, NoDay, RefReused}
use Rattle.desk_rules.specs.Chain.{◌>>=◌}
use Rattle.desk_rules.specs.Retry.{retry_of}
use Rattle.desk_rules.specs.Submission.{submission_of}
use Rattle.desk_book.specs.declared.row.Row.{Row}
use Rattle.desk_history.specs.Request as request
use Rattle.desk_history.specs.Request.{Request}
use Rattle.desk_history.specs.Acceptance.{unless_known, is_same_submission, is_same_retry, new_content}
use Rattle.desk_history.proofs.Acceptance.Growing.{found_any}
use Rattle.desk_book.specs.Book.{rows}
use Rattle.desk_history.specs.History.{request_event}
use Rattle.desk_history.specs.Part.{Event, limits, is_registered}
use Rattle.desk_book.specs.RowLaws.{RowSteps}
use Rattle.desk_book.specs.Standing.{Standing, standing, is_row_under, row_under, facts_in, next_row, retry_content_among, submission_row, retry_row, with_row}
use Rattle.desk_history.specs.Words.{some_or}
use Rattle.desk_book.specs.Requests.{row_if_new}

-- a row under a reference that none of these has is the next of them
abbrev pub IsNext : List Row → Result Row Refusal → Type 0
IsNext rs (Err why) = ⊤
IsNext rs (Ok row) = list_any (is_row_under row.content.reference) rs ≡ false → row ≡ next_row rs row.content row.retry

next_chained : {X : Type 0} (rs : List Row) (x : Result X Refusal) (f : X → Result Row Refusal) → ((a : X) → IsNext rs (f a)) → IsNext rs (x >>= f)
next_chained rs (Ok a) f each = each a
next_chained rs (Err why) f each = tt

-- a known one answers by itself, and is among them
next_unless_known : (rs : List Row) (same : Row → Bool) (reference : List ℕ) (fresh : Result Row Refusal) → IsNext rs fresh → IsNext rs (unless_known same (row_under rs reference) fresh)
next_unless_known rs same reference fresh next = by (row_under rs reference) refl where
  known : (row : Row) → row_under rs reference ≡ Some row → (t : Bool) → IsNext rs (if t then Ok row else Err RefReused)
  known row found true = λ none.
      let among : list_any (is_row_under row.content.reference) rs ≡ true = found_any (is_row_under reference) (is_row_under row.content.reference) rs row found ((bytes_eq-Decides row.content.reference row.content.reference).1 refl) in
      cc
  known row found false = tt

  by : (o : Option Row) → row_under rs reference ≡ o → IsNext rs (unless_known same o fresh)
  by None found = next
  by (Some row) found = known row found (same row)

submission_next : (st : Standing) (d : Draft) → IsNext st.rows (submission_row st d)
submission_next st d =
    next_chained st.rows (some_or NoCompany st.limits) _ (λ l.
    next_chained st.rows (some_or NoDay st.day) _ (λ today.
    next_chained st.rows (submission_of d) _ (λ s.
    next_unless_known st.rows (λ row. is_same_submission s row.content row.retry) s.reference _
    (next_chained st.rows (new_content (facts_in st.rows) st.holidays l today s) _ (λ content none. refl)))))

pub retry_next : (st : Standing) (d : RetryDraft) → IsNext st.rows (retry_row st d)
retry_next st d =
    next_chained st.rows (some_or NoCompany st.limits) _ (λ l.
    next_chained st.rows (some_or NoDay st.day) _ (λ today.
    next_chained st.rows (retry_of d) _ (λ r.
    next_unless_known st.rows (λ row. is_same_retry r row.retry) r.reference _
    (next_chained st.rows (retry_content_among st.rows st.holidays l today r) _ (λ content none. refl)))))

-- ---- what a request adds

-- the rows with the new one
abbrev pub added : Option Row → List Row → List Row
added None rs = rs
added (Some row) rs = rs ++ next_row rs row.content row.retry ∷ []

row_added : (rs : List Row) (x : Result Row Refusal) → IsNext rs x → with_row rs x ≡ added (row_if_new rs x) rs
row_added rs (Err why) next = refl
row_added rs (Ok row) next = by (list_any (is_row_under row.content.reference) rs) next where
  by : (t : Bool) → (t ≡ false → row ≡ next_row rs row.content row.retry) → (if t then rs else rs ++ row ∷ []) ≡ added (if t then None else Some row) rs
  by true next = refl
  by false next = ap (λ (row : Row). rs ++ row ∷ []) (next refl)

-- the new row of a company with this standing
abbrev pub row_asked_by : Standing → Request → Option Row
row_asked_by st (request.Submit d) = row_if_new st.rows (submission_row st d)
row_asked_by st (request.Retry d) = row_if_new st.rows (retry_row st d)
row_asked_by st _ = None

-- who is not registered adds none
none_unregistered : (st : Standing) (r : Request) → st.limits ≡ None → row_asked_by st r ≡ None
none_unregistered st (request.Submit d) none = rw none refl
none_unregistered st (request.Retry d) none = rw none refl
none_unregistered st (request.LookUp reference) none = refl
none_unregistered st request.Returns none = refl
none_unregistered st request.Changes none = refl
none_unregistered st request.Statement none = refl
none_unregistered st request.Rates none = refl
none_unregistered st request.Exposure none = refl

pub rows_with_new : RowSteps → (P : List Event) (r : Request) → rows (request_event (is_registered P) r ++ P) ≡ added (row_asked_by (standing P) r) (rows P)
rows_with_new steps P r = by (limits P) refl where
  registered : (r : Request) → rows (request_event true r ++ P) ≡ added (row_asked_by (standing P) r) (rows P)
  registered (request.Submit d) = steps.asked P (request.Submit d) ∙ row_added (rows P) (submission_row (standing P) d) (submission_next (standing P) d)
  registered (request.Retry d) = steps.asked P (request.Retry d) ∙ row_added (rows P) (retry_row (standing P) d) (retry_next (standing P) d)
  registered (request.LookUp reference) = refl
  registered request.Returns = refl
  registered request.Changes = refl
  registered request.Statement = refl
  registered request.Rates = refl
  registered request.Exposure = refl

  by : (o : Option Limits) → limits P ≡ o → rows (request_event (is_some o) r ++ P) ≡ added (row_asked_by (standing P) r) (rows P)
  by (Some l) is = registered r
  by None none = sym (ap (λ (o : Option Row). added o (rows P)) (none_unregistered (standing P) r none))
