-- The entry that a retry names, and the contents of a draft.
use Rattle.std.proofs.Common.{◌≡◌, ◌≤◌, ℕ, ◌-◌, List, [], ◌∷◌, length, Bool, true, false, not, ◌&&◌, refl, subst, ap, ◌∙◌, if◌then◌else◌, arith, Option, Some, None, option_map, option_and_then, Result, Ok, Err, find, slice_get, nat_le, nat_lt}
use Rattle.std.specs.Result.{result_ok}
use Rattle.std.proofs.lemmas.Bool.{and_parts, not-true, leb-true, ltb-false}
use Rattle.ach_fields.specs.Cents.{most_cents}
use Rattle.ach_fields.specs.Names.{reference_of}
use Rattle.bank_days.specs.Day.{day_of}
use Rattle.desk_rules.specs.declared.bodies.draft.Draft.{Draft}
use Rattle.desk_rules.specs.declared.bodies.draft.EntryDraft.{EntryDraft}
use Rattle.desk_rules.specs.declared.bodies.draft.RetryDraft.{RetryDraft}
use Rattle.desk_rules.specs.declared.refusals.refusal.Field.{Field}
use Rattle.desk_rules.specs.declared.refusals.refusal.Field.TheVariants as field
use Rattle.desk_rules.specs.declared.refusals.refusal.Refusal.{Refusal}
use Rattle.desk_rules.specs.declared.refusals.refusal.Refusal.TheVariants.{TooManyEntries, TotalTooLarge}
use Rattle.desk_rules.specs.declared.bodies.submission.Entry.{Entry}
use Rattle.desk_rules.specs.declared.bodies.submission.Retry.{Retry}
use Rattle.desk_rules.specs.declared.bodies.submission.Submission.{Submission}
use Rattle.desk_rules.specs.Chain.{good}
use Rattle.desk_rules.specs.Fields.{sec_of, direction_of, description_of, entry_number_of, optional_of}
use Rattle.desk_rules.specs.LimitChecks.{is_debit}
use Rattle.desk_rules.specs.Retry.{retry_of}
use Rattle.desk_rules.specs.Size.{size_of, total_of}
use Rattle.desk_rules.specs.Submission.{submission_of, entries_of, entry_of, some_of}
use Rattle.desk_history.specs.Accepted.{AcceptedSubmission, is_called}
use Rattle.desk_history.specs.Retries.{Original, original_of, entry_at, live_debit}
use Rattle.desk_history.proofs.Basics.Chains.{steps}

-- ---- the original of a retry

-- a live debit of an accepted submission that is not a retry
pub record IsNamed (A : List AcceptedSubmission) (r : Retry) (o : Original) : Type 0 where
  pub found : find (is_called r.of) A ≡ Some o.accepted
  pub plain : o.accepted.retry ≡ None
  pub index : o.index ≡ r.index
  pub debit : is_debit o.accepted.content.direction ≡ true
  pub live : o.entry.prenote ≡ false
  pub at : slice_get o.accepted.content.entries (o.index - 1) ≡ Some o.entry

pub named_parts : (A : List AcceptedSubmission) (r : Retry) (o : Original) → original_of A r ≡ Some o → IsNamed A r o
named_parts A r o h = of_found (find (is_called r.of) A) refl h where
  original : AcceptedSubmission → Entry → Original
  original a e = record { accepted = a; index = r.index; entry = e }

  of_live : (a : AcceptedSubmission) (e : Entry) → find (is_called r.of) A ≡ Some a → a.retry ≡ None → slice_get a.content.entries (r.index - 1) ≡ Some e
      → (t : Bool) → (is_debit a.content.direction && not e.prenote) ≡ t → option_map (original a) (if t then Some e else None) ≡ Some o → IsNamed A r o
  of_live a e found plain at false is h = cc
  of_live a e found plain at true is h =
      let same : record { accepted = a; index = r.index; entry = e } ≡ o = cc in
      let parts = and_parts (is_debit a.content.direction) (not e.prenote) is in
      subst (λ (x : Original). IsNamed A r x) same (record { found = found; plain = plain; index = refl; debit = parts.0; live = not-true e.prenote parts.1; at = at })

  of_entry : (a : AcceptedSubmission) → find (is_called r.of) A ≡ Some a → a.retry ≡ None → (e : Option Entry) → slice_get a.content.entries (r.index - 1) ≡ e
      → option_map (original a) (option_and_then (λ e. if is_debit a.content.direction && not e.prenote then Some e else None) e) ≡ Some o → IsNamed A r o
  of_entry a found plain None at h = cc
  of_entry a found plain (Some e) at h = of_live a e found plain at (is_debit a.content.direction && not e.prenote) refl h

  of_plain : (a : AcceptedSubmission) → find (is_called r.of) A ≡ Some a → (retry : Option Retry) → a.retry ≡ retry → option_map (original a) (live_debit a.content retry r.index) ≡ Some o → IsNamed A r o
  of_plain a found None plain h = of_entry a found plain (slice_get a.content.entries (r.index - 1)) refl h
  of_plain a found (Some x) plain h = cc

  of_found : (x : Option AcceptedSubmission) → find (is_called r.of) A ≡ x → option_and_then (λ a. entry_at a r.index) x ≡ Some o → IsNamed A r o
  of_found None is h = cc
  of_found (Some a) is h = of_plain a is a.retry refl h

-- ---- what a draft tells

pub good_some : {A : Type 0} (f : Field) (i : ℕ) (o : Option A) (a : A) → good f i o ≡ Ok a → o ≡ Some a
good_some f i (Some x) a h = cc
good_some f i None a h = cc

-- a submission has an entry
entries_some : (d : Option EntryDraft) (ds : List (Option EntryDraft)) (es : List Entry) → entries_of 1 (d ∷ ds) ≡ Ok es → 1 ≤ length es
entries_some d ds es h =
    let one = steps (entry_of 1 d) _ es h in
    let two = steps (entries_of 2 ds) _ es one.rest in
    let is : one.value ∷ two.value ≡ es = cc two.rest in
    rw (← is) (omega arith)

drafts_some : (o : Option (List (Option EntryDraft))) (ds : List (Option EntryDraft)) (es : List Entry) → option_and_then some_of o ≡ Some ds → entries_of 1 ds ≡ Ok es → 1 ≤ length es
drafts_some None ds es some h = cc
drafts_some (Some []) ds es some h = cc
drafts_some (Some (x ∷ xs)) ds es some h = let is : x ∷ xs ≡ ds = cc in entries_some x xs es (ap (entries_of 1) is ∙ h)

pub submission_some : (d : Draft) (s : Submission) → submission_of d ≡ Ok s → 1 ≤ length s.entries
submission_some d s h =
    let one = steps (good field.Reference 0 (option_and_then (λ s. result_ok (reference_of s)) d.reference)) _ s h in
    let two = steps (good field.Sec 0 (option_and_then sec_of d.sec)) _ s one.rest in
    let three = steps (good field.Direction 0 (option_and_then direction_of d.direction)) _ s two.rest in
    let four = steps (good field.Description 0 (option_and_then description_of d.description)) _ s three.rest in
    let five = steps (good field.Day 0 (option_and_then day_of d.day)) _ s four.rest in
    let six = steps (good field.Entries 0 (option_and_then some_of d.entries)) _ s five.rest in
    let seven = steps (entries_of 1 six.value) _ s six.rest in
    let is : seven.value ≡ s.entries = ap (λ (x : Result Submission Refusal). entries_in x) seven.rest in
    rw (← is) (drafts_some d.entries six.value seven.value (good_some field.Entries 0 (option_and_then some_of d.entries) six.value six.first) seven.first)
  where
    entries_in : Result Submission Refusal → List Entry
    entries_in (Ok s) = s.entries
    entries_in (Err why) = []

-- a retry's entry is numbered from 1
number_some : (o : Option ℕ) (n : ℕ) → option_and_then entry_number_of o ≡ Some n → 1 ≤ n
number_some None n h = cc
number_some (Some m) n h = at (nat_le 1 m && nat_le m 1000) refl h where
  at : (t : Bool) → (nat_le 1 m && nat_le m 1000) ≡ t → (if t then Some m else None) ≡ Some n → 1 ≤ n
  at true is h = let same : m ≡ n = cc in rw (← same) (leb-true 1 m (and_parts (nat_le 1 m) (nat_le m 1000) is).0)
  at false is h = cc

pub retry_numbered : (d : RetryDraft) (r : Retry) → retry_of d ≡ Ok r → 1 ≤ r.index
retry_numbered d r h =
    let one = steps (good field.Reference 0 (option_and_then (λ s. result_ok (reference_of s)) d.reference)) _ r h in
    let two = steps (good field.Of 0 (option_and_then (λ s. result_ok (reference_of s)) d.of)) _ r one.rest in
    let three = steps (good field.Index 0 (option_and_then entry_number_of d.index)) _ r two.rest in
    let four = steps (good field.Day 0 (option_and_then day_of d.day)) _ r three.rest in
    let five = steps (good field.Authorized 0 (optional_of day_of d.authorized)) _ r four.rest in
    let is : three.value ≡ r.index = ap (λ (x : Result Retry Refusal). index_in x) five.rest in
    rw (← is) (number_some d.index three.value (good_some field.Index 0 (option_and_then entry_number_of d.index) three.value three.first))
  where
    index_in : Result Retry Refusal → ℕ
    index_in (Ok r) = r.index
    index_in (Err why) = 0

-- a submission that is not too large
pub size_parts : (s : Submission) → size_of s ≡ Ok tt → (length s.entries ≤ 1000) × (total_of s.entries ≤ most_cents)
size_parts s h = at (nat_lt 1000 (length s.entries)) (nat_lt most_cents (total_of s.entries)) refl refl h where
  judged : Bool → Bool → Result (Unit {0}) Refusal
  judged many large = if many then Err TooManyEntries else (if large then Err TotalTooLarge else Ok tt)

  at : (many large : Bool) → nat_lt 1000 (length s.entries) ≡ many → nat_lt most_cents (total_of s.entries) ≡ large → judged many large ≡ Ok tt → (length s.entries ≤ 1000) × (total_of s.entries ≤ most_cents)
  at true large m l h = cc
  at false true m l h = cc
  at false false m l h = (ltb-false 1000 (length s.entries) m, ltb-false most_cents (total_of s.entries) l)
