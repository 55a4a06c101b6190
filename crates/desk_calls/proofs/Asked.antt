-- The outcome of the desk is the verdict of the request.
use Rattle.std.proofs.Common.{◌≡◌, ℕ, ◌+◌, List, [], ◌∷◌, Bool, true, false, ◌||◌, length, refl, sym, ap, ◌∙◌, inl, inr}
use Rattle.std.specs.Prelude.{if◌then◌else◌, find, Option, Some, None, option_map, Result, Ok, Err}
use Rattle.std.specs.List.{list_any}
use Rattle.std.proofs.lemmas.Bool.{cases_Bool}
use Rattle.std.proofs.lemmas.Slice.Eq.{bytes_eq-Decides}
use Rattle.desk_rules.specs.declared.bodies.company.Limits.{Limits}
use Rattle.desk_rules.specs.declared.bodies.draft.Draft.{Draft}
use Rattle.desk_rules.specs.declared.bodies.draft.RetryDraft.{RetryDraft}
use Rattle.desk_rules.specs.declared.refusals.refusal.Refusal.{Refusal}
use Rattle.desk_rules.specs.declared.refusals.refusal.Refusal.TheVariants.{NoCompany, NoDay, RefReused, NoEntry}
use Rattle.desk_rules.specs.declared.bodies.submission.Retry.{Retry}
use Rattle.desk_rules.specs.declared.bodies.submission.Submission.{Submission}
use Rattle.desk_rules.specs.Chain.{◌>>=◌}
use Rattle.desk_rules.specs.LimitChecks.{limits_verdict}
use Rattle.desk_rules.specs.Retry.{retry_of}
use Rattle.desk_rules.specs.RetryRule.{retry_verdict}
use Rattle.desk_rules.specs.Size.{size_of}
use Rattle.desk_rules.specs.Submission.{submission_of}
use Rattle.desk_book.specs.declared.row.Row.{Row}
use Rattle.desk_history.specs.Acceptance.{unless_known, is_same_submission, is_same_retry, retry_content}
use Rattle.desk_history.specs.Accepted.{content_of}
use Rattle.desk_book.specs.Book.{Book}
use Rattle.desk_history.specs.Reply.{answer_of}
use Rattle.desk_history.specs.Request as request
use Rattle.desk_book.specs.Standing.{RowEntry, is_row_under, row_under, next_row, row_entry_of, attempts_at, facts_in, new_submission_row, new_retry_row}
use Rattle.desk_history.specs.Words.{some_or}
use Rattle.desk_admission.specs.declared.verdict.Verdict.{Verdict}
use Rattle.desk_book.specs.Requests.{row_if_new}
use Rattle.desk_book.specs.OnBook.{standing_in, receipt_of}
use Rattle.desk_admission.specs.Verdicts.{row_to_add, verdict_on, known_verdict, fresh_verdict, reference_verdict, submission_on, retry_on, limits_and_day, verdict_of_fields}
use Rattle.desk_history.proofs.Acceptance.Growing.{found_any}

-- the verdict of a company that has these rows, by the row that answers
abbrev verdict_of : List Row → Result Row Refusal → Verdict
verdict_of rs x = record { answer = answer_of (receipt_of x); added = option_map (row_to_add rs) (row_if_new rs x) }

-- by its row and whether another has its reference
abbrev row_verdict : List Row → Row → Bool → Verdict
row_verdict rs row t = record { answer = answer_of (receipt_of (Ok row)); added = option_map (row_to_add rs) (if t then None else Some row) }

-- ---- a reference

-- a known row answers, and none is added
known : (rs : List Row) (reference : List ℕ) (row : Row) → row_under rs reference ≡ Some row → (t : Bool) → verdict_of rs (if t then Ok row else Err RefReused) ≡ known_verdict t row
known rs reference row found true = ap (row_verdict rs row) among where
  among : list_any (is_row_under row.content.reference) rs ≡ true
  among = found_any (is_row_under reference) (is_row_under row.content.reference) rs row found ((bytes_eq-Decides row.content.reference row.content.reference).1 refl)
known rs reference row found false = refl

-- where none is found, none has it
none_among : {X : Type 0} (p : X → Bool) (xs : List X) → find p xs ≡ None → list_any p xs ≡ false
none_among p [] none = refl
none_among {X} p (y ∷ ys) none = elim (cases_Bool (p y)) [
  | inl here ↦
      let is : Some y ≡ None = ap (λ (t : Bool). if t then Some y else find p ys) (sym here) ∙ none in
      cc
  | inr away ↦ ap (λ (t : Bool). t || list_any p ys) away ∙ none_among p ys (ap (λ (t : Bool). if t then Some y else find p ys) (sym away) ∙ none)
]

-- what passes two checks is added under a reference that none has
checked : (rs : List Row) (retry : Option Retry) (first second : Result (Unit {0}) Refusal) (s : Submission) → row_under rs s.reference ≡ None
    → verdict_of rs ((first >>= (λ _. second >>= (λ _. Ok s))) >>= (λ s. Ok (next_row rs s retry))) ≡ fresh_verdict (length rs + 1) retry (first >>= (λ _. second >>= (λ _. Ok s)))
checked rs retry (Err why) second s none = refl
checked rs retry (Ok _) (Err why) s none = refl
checked rs retry (Ok _) (Ok _) s none = ap (row_verdict rs (next_row rs s retry)) (none_among (is_row_under s.reference) rs none)

-- the row that has the reference answers, else the request is judged as a new one
unless_known_told : (rs : List Row) (same : Row → Bool) (reference : List ℕ) (x : Result Row Refusal) (fresh : Verdict) → (row_under rs reference ≡ None → verdict_of rs x ≡ fresh)
    → verdict_of rs (unless_known same (row_under rs reference) x) ≡ reference_verdict same (row_under rs reference) fresh
unless_known_told rs same reference x fresh is = by (row_under rs reference) refl where
  by : (o : Option Row) → row_under rs reference ≡ o → verdict_of rs (unless_known same o x) ≡ reference_verdict same o fresh
  by None none = is none
  by (Some row) found = known rs reference row found (same row)

-- ---- a draft

-- the company, the day and the fields come first
told : {A : Type 0} (rs : List Row) (limits : Option Limits) (today : Option ℕ) (fields : Result A Refusal) (row : Limits → ℕ → A → Result Row Refusal) (judge : Limits → ℕ → A → Verdict)
    → ((l : Limits) (d : ℕ) (x : A) → verdict_of rs (row l d x) ≡ judge l d x)
    → verdict_of_fields (some_or NoCompany limits >>= (λ l. some_or NoDay today >>= (λ d. Ok (l, d)))) fields judge
    ≡ verdict_of rs (some_or NoCompany limits >>= (λ l. some_or NoDay today >>= (λ d. fields >>= (λ x. row l d x))))
told rs None today fields row judge each = refl
told rs (Some l) None fields row judge each = refl
told rs (Some l) (Some d) (Err why) row judge each = refl
told rs (Some l) (Some d) (Ok x) row judge each = sym (each l d x)

pub submission_told : (b : Book) (c : List ℕ) (d : Draft) → verdict_of_fields (limits_and_day b c) (submission_of d) (submission_on b c) ≡ verdict_on b c (request.Submit d)
submission_told b c d = told (b.rows c) (standing_in b c).limits b.day (submission_of d) _ (submission_on b c) (λ limits today s.
    unless_known_told (b.rows c) (λ row. is_same_submission s row.content row.retry) s.reference (new_submission_row (standing_in b c) limits today s) _
    (checked (b.rows c) None (size_of s) (limits_verdict s today limits (facts_in (b.rows c)) b.holidays) s))

abbrev on_entry : List Row → List ℕ → Limits → ℕ → Retry → RowEntry → Result Submission Refusal
on_entry rs holidays limits today r o = retry_content (facts_in rs) holidays limits today r o.row.content o.entry (attempts_at rs o.row o.index)

-- by the entry that it names
retry_named : (rs : List Row) (holidays : List ℕ) (limits : Limits) (today : ℕ) (r : Retry) → row_under rs r.reference ≡ None → (o : Result RowEntry Refusal)
    → verdict_of rs ((o >>= on_entry rs holidays limits today r) >>= (λ s. Ok (next_row rs s (Some r)))) ≡ fresh_verdict (length rs + 1) (Some r) (o >>= on_entry rs holidays limits today r)
retry_named rs holidays limits today r none (Err why) = refl
retry_named rs holidays limits today r none (Ok o) = checked rs (Some r) (retry_verdict (attempts_at rs o.row o.index) r.day r.authorized today holidays)
    (limits_verdict (content_of r o.row.content o.entry) today limits (facts_in rs) holidays) (content_of r o.row.content o.entry) none

pub retry_told : (b : Book) (c : List ℕ) (d : RetryDraft) → verdict_of_fields (limits_and_day b c) (retry_of d) (retry_on b c) ≡ verdict_on b c (request.Retry d)
retry_told b c d = told (b.rows c) (standing_in b c).limits b.day (retry_of d) _ (retry_on b c) (λ limits today r.
    unless_known_told (b.rows c) (λ row. is_same_retry r row.retry) r.reference (new_retry_row (standing_in b c) limits today r) _
    (λ none. retry_named (b.rows c) b.holidays limits today r none (some_or NoEntry (row_entry_of (b.rows c) r))))
