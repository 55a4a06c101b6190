-- A submission's draft as far as it is judged has the answer and the step of the whole draft.
use Rattle.std.proofs.Common.{◌≡◌, ◌⊎◌, inl, inr, ℕ, ◌+◌, List, [], ◌∷◌, Bool, refl, sym, ap, ◌∙◌, subst}
use Rattle.std.specs.Prelude.{if◌then◌else◌, IsFalse, is_some, Option, Some, None, option_and_then, option_map, Result, Ok, Err, Vec}
use Rattle.std.specs.Result.{result_ok}
use Rattle.std.specs.declared.alloc.Global.{Global}
use Rattle.ach_fields.specs.Names.{reference_of}
use Rattle.bank_days.specs.Day.{day_of}
use Rattle.desk_rules.specs.Chain.{◌>>=◌, good}
use Rattle.desk_rules.specs.Fields.{sec_of, direction_of, description_of}
use Rattle.desk_rules.specs.Submission.{entry_of, entries_of, some_of, submission_of}
use Rattle.desk_rules.specs.declared.bodies.draft.Draft.{Draft}
use Rattle.desk_rules.specs.declared.bodies.draft.EntryDraft.{EntryDraft}
use Rattle.desk_rules.specs.declared.bodies.submission.Entry.{Entry}
use Rattle.desk_rules.specs.declared.bodies.submission.Submission.{Submission}
use Rattle.desk_rules.specs.declared.refusals.refusal.Field.TheVariants as field
use Rattle.desk_rules.specs.declared.refusals.refusal.Refusal.{Refusal}
use Rattle.desk_rules.specs.declared.refusals.refusal.Refusal.TheVariants.{BadField, NoCompany, NoDay}
use Rattle.desk_history.specs.declared.answer.Answer.{Answer}
use Rattle.desk_history.specs.declared.call.Call.{Call}
use Rattle.desk_history.specs.declared.call.Call.TheVariants as calls
use Rattle.desk_history.specs.declared.identity.Identity.{Identity}
use Rattle.desk_history.specs.Acceptance.{unless_known, is_same_submission}
use Rattle.desk_history.specs.Message.{Message, Of, Pair}
use Rattle.desk_history.specs.Operator.{answer_to, IsHistory}
use Rattle.desk_history.specs.Reply.{answer_of}
use Rattle.desk_history.specs.Request.{Request, Submit, Retry, LookUp, Returns, Changes, Statement, Rates, Exposure}
use Rattle.desk_history.specs.Words.{some_or}
use Rattle.desk_book.specs.declared.caller.Caller.TheVariants as callers
use Rattle.desk_book.specs.declared.row.Row.{Row}
use Rattle.desk_book.specs.Book.{Book, book_of}
use Rattle.desk_book.specs.OnBook.{receipt_of, standing_in}
use Rattle.desk_book.specs.OnMessages.{after_on, answer_on, BookTells}
use Rattle.desk_book.specs.Reads.{key_of}
use Rattle.desk_book.specs.Requests.{row_if_new, with_added_row}
use Rattle.desk_book.specs.Standing.{Standing, new_submission_row, row_under, submission_row}
use Rattle.desk_book.specs.Writes.{is_read, writes_on}
use Rattle.desk_admission.specs.Answering.{IsLeft}
use Rattle.desk_calls.specs.Applying.{IsAsked, book_after}
use Rattle.http_json.specs.Judged.{judged_entries, judged_draft}
use Rattle.http_message.specs.Message.{MessageValue}
use Rattle.http_session.specs.declared.answers.Unavailable.{Unavailable}
use Rattle.http_answers.specs.declared.faults.MessageFault.{MessageFault}
use Rattle.http_history.specs.Addressee.{Addressee, to_nobody, to_company, to_operator, addressee_of}
use Rattle.http_history.specs.Texts.{call_text}
use Rattle.http_history.specs.Verdict.{Verdict, company_request, company_verdict, verdict_by, verdict_on}
use Rattle.desk_http.specs.Judged.{judged, judged_by, judged_on}
use Rattle.desk_http.specs.MadeCalls.{GoesCall, GoesCallOn, LeavesCall, LeavesCallOn}

-- ---- the draft

bad_entry : (i : ℕ) (e : EntryDraft) → e.routing ≡ None → entry_of i (Some e) ≡ Err (BadField field.Routing i)
bad_entry i e is = rw is refl

-- the entries behind the first bad one do not matter
entries_judged : (i : ℕ) (ds : List (Option EntryDraft)) → entries_of i (judged_entries ds) ≡ entries_of i ds
entries_judged i [] = refl
entries_judged i (None ∷ ds) = refl
entries_judged i (Some e ∷ ds) = by e.routing refl (entries_judged (i + 1) ds) where
  by : (r : Option (List ℕ)) → e.routing ≡ r → entries_of (i + 1) (judged_entries ds) ≡ entries_of (i + 1) ds
      → entries_of i (judged_entries (Some e ∷ ds)) ≡ entries_of i (Some e ∷ ds)
  by None is rest = rw (bad_entry i e is) refl
  by (Some s) is rest =
      ap (λ (r : Option (List ℕ)). entries_of i (Some e ∷ (if is_some r then judged_entries ds else []))) is
      ∙ ap (λ (es : Result (List Entry) Refusal). entry_of i (Some e) >>= (λ x. es >>= (λ xs. Ok (x ∷ xs)))) rest

abbrev last_of : (List Entry → Result Submission Refusal) → Option (List (Option EntryDraft)) → Result Submission Refusal
last_of end es = good field.Entries 0 (option_and_then some_of es) >>= (λ drafts. entries_of 1 drafts >>= end)

last_judged : (end : List Entry → Result Submission Refusal) (es : Option (List (Option EntryDraft))) → last_of end (option_map judged_entries es) ≡ last_of end es
last_judged end None = refl
last_judged end (Some []) = refl
last_judged end (Some (d ∷ ds)) = ap (λ (r : Result (List Entry) Refusal). r >>= end) (entries_judged 1 (d ∷ ds))

submission_judged : (d : Draft) → submission_of (judged_draft d) ≡ submission_of d
submission_judged d = λ i.
    good field.Reference 0 (option_and_then (λ s. result_ok (reference_of s)) d.reference) >>= (λ reference.
    good field.Sec 0 (option_and_then sec_of d.sec) >>= (λ sec.
    good field.Direction 0 (option_and_then direction_of d.direction) >>= (λ direction.
    good field.Description 0 (option_and_then description_of d.description) >>= (λ description.
    good field.Day 0 (option_and_then day_of d.day) >>= (λ day.
    last_judged (λ entries. Ok (record { reference = reference; sec = sec; direction = direction; description = description; day = day; entries = entries })) d.entries i)))))

-- ---- its answer and its step

row_judged : (st : Standing) (d : Draft) → submission_row st (judged_draft d) ≡ submission_row st d
row_judged st d = λ i.
    some_or NoCompany st.limits >>= (λ limits.
    some_or NoDay st.day >>= (λ today.
    submission_judged d i >>= (λ s.
    unless_known (λ row. is_same_submission s row.content row.retry) (row_under st.rows s.reference) (new_submission_row st limits today s))))

module _ (c : List ℕ) (d : Draft) where
  abbrev less : Message
  less = Of c (Submit (judged_draft d))

  abbrev more : Message
  more = Of c (Submit d)

  answers_same : (b : Book) → answer_on b less ≡ answer_on b more
  answers_same b = ap (λ (row : Result Row Refusal). answer_of (receipt_of row)) (row_judged (standing_in b c) d)

  after_same : (b : Book) → after_on b less ≡ after_on b more
  after_same b = ap (λ (row : Result Row Refusal). with_added_row c (row_if_new (b.rows c) row) b) (row_judged (standing_in b c) d)

  writes_same : (b : Book) → writes_on b less ≡ writes_on b more
  writes_same b = ap (λ (row : Result Row Refusal). is_some (row_if_new (b.rows c) row)) (row_judged (standing_in b c) d)

  text_same : (closes : Bool) (a : Answer) → call_text closes less a ≡ call_text closes more a
  unfolding call_text
  text_same closes a = refl

  module _ (tells : BookTells) (identity : Identity) (key : List ℕ) (G : List Pair) (is : IsHistory identity G) where
    told_same : answer_to identity G less ≡ answer_to identity G more
    told_same = tells.answers identity key G less is ∙ answers_same (book_of identity key G) ∙ sym (tells.answers identity key G more is)

    book_same : book_after identity key G less ≡ book_after identity key G more
    book_same = tells.steps identity key G less is ∙ after_same (book_of identity key G) ∙ sym (tells.steps identity key G more is)

    goes_on : (new : Book → Type 0) (closes : Bool) (result : Result (Vec ℕ Global) Unavailable)
        → GoesCallOn identity key G less closes result new → GoesCallOn identity key G more closes result new
    goes_on new closes (Ok bytes) went = (went.0 ∙ ap (call_text closes less) told_same ∙ text_same closes (answer_to identity G more), subst new book_same went.1)
    goes_on new closes (Err fault) same = same

    leaves_on : {Kept : Type 0} (keeps : Kept → Book → Type 0) (old : Kept → Type 0) (k : Kept) (result : Result (Vec ℕ Global) Unavailable)
        → LeavesCallOn keeps old identity key G less result k → LeavesCallOn keeps old identity key G more result k
    leaves_on keeps old k (Ok bytes) left =
        subst (λ (b : Book). IsLeft (writes_on (book_of identity key G) more) (keeps k b) (old k)) book_same
        (subst (λ (w : Bool). IsLeft w (keeps k (book_after identity key G less)) (old k)) (writes_same (book_of identity key G)) left)
    leaves_on keeps old k (Err fault) left = subst (λ (b : Book). old k ⊎ (IsFalse (is_read more) × keeps k b)) book_same left

  less_asked : (holds : Book → Type 0) (identity : Identity) (key : List ℕ) (G : List Pair) (m : Message)
      → IsAsked holds (calls.Submit c d) identity key G m → IsAsked holds (calls.Submit c (judged_draft d)) identity key G less
  less_asked holds identity key G m asked = record { history = asked.history; book = asked.book; message = refl }

  goes_same : BookTells → (old new : Book → Type 0) (closes : Bool) (result : Result (Vec ℕ Global) Unavailable)
      → GoesCall old (calls.Submit c (judged_draft d)) closes result new → GoesCall old (calls.Submit c d) closes result new
  goes_same tells old new closes result goes identity key G m asked =
      subst (λ (n : Message). GoesCallOn identity key G n closes result new) (sym asked.message)
      (goes_on tells identity key G asked.history new closes result (goes identity key G less (less_asked old identity key G m asked)))

  leaves_same : BookTells → {Kept : Type 0} (keeps : Kept → Book → Type 0) (holds : Book → Type 0) (old new : Kept → Type 0) (result : Result (Vec ℕ Global) Unavailable)
      → LeavesCall keeps holds old (calls.Submit c (judged_draft d)) result new → LeavesCall keeps holds old (calls.Submit c d) result new
  leaves_same tells keeps holds old new result leaves identity key G m k asked more_left =
      subst (λ (n : Message). LeavesCallOn keeps old identity key G n result k) (sym asked.message)
      (leaves_on tells identity key G asked.history keeps old k result (leaves identity key G less k (less_asked holds identity key G m asked) more_left))

-- ---- the call that a judged one stands for

abbrev pub Judges : (call whole : Call) → Type 0
Judges call whole = (call ≡ whole) ⊎ ((c : List ℕ) × (d : Draft) × (call ≡ calls.Submit c (judged_draft d)) × (whole ≡ calls.Submit c d))

pub goes_judged : BookTells → (old new : Book → Type 0) (call whole : Call) (closes : Bool) (result : Result (Vec ℕ Global) Unavailable)
    → Judges call whole → GoesCall old call closes result new → GoesCall old whole closes result new
goes_judged tells old new call whole closes result (inl same) goes = subst (λ (x : Call). GoesCall old x closes result new) same goes
goes_judged tells old new call whole closes result (inr s) goes =
    subst (λ (x : Call). GoesCall old x closes result new) (sym s.3)
    (goes_same s.0 s.1 tells old new closes result (subst (λ (x : Call). GoesCall old x closes result new) s.2 goes))

pub leaves_judged : BookTells → {Kept : Type 0} (keeps : Kept → Book → Type 0) (holds : Book → Type 0) (old new : Kept → Type 0) (call whole : Call) (result : Result (Vec ℕ Global) Unavailable)
    → Judges call whole → LeavesCall keeps holds old call result new → LeavesCall keeps holds old whole result new
leaves_judged tells keeps holds old new call whole result (inl same) leaves = subst (λ (x : Call). LeavesCall keeps holds old x result new) same leaves
leaves_judged tells keeps holds old new call whole result (inr s) leaves =
    subst (λ (x : Call). LeavesCall keeps holds old x result new) (sym s.3)
    (leaves_same s.0 s.1 tells keeps holds old new result (subst (λ (x : Call). LeavesCall keeps holds old x result new) s.2 leaves))

-- ---- in verdicts

abbrev pub IsOfWhole : Call → Verdict → Type 0
IsOfWhole call verdict = (whole : Call) × (Ok whole ≡ verdict) × Judges call whole

ok_is : (x : Call) (v : Verdict) (y : Call) → Ok x ≡ v → v ≡ Ok y → x ≡ y
ok_is x v y is was = cc

no_fault : (x : Call) (fault : MessageFault) (v : Verdict) → Ok x ≡ v → v ≡ Err fault → ⊥
no_fault x fault v is was = cc

company_whole : (c : List ℕ) (q : Result Request MessageFault) (call : Call) → Ok call ≡ company_verdict c (judged q) → IsOfWhole call (company_verdict c q)
company_whole c (Err fault) call is = absurd (no_fault call fault _ is refl)
company_whole c (Ok (Submit d)) call is = (calls.Submit c d, refl, inr (c, d, ok_is call _ _ is refl, refl))
company_whole c (Ok (Retry d)) call is = (calls.Retry c d, refl, inl (ok_is call _ _ is refl))
company_whole c (Ok (LookUp reference)) call is = (calls.LookUp c reference, refl, inl (ok_is call _ _ is refl))
company_whole c (Ok Returns) call is = (calls.ReturnsOf c, refl, inl (ok_is call _ _ is refl))
company_whole c (Ok Changes) call is = (calls.ChangesOf c, refl, inl (ok_is call _ _ is refl))
company_whole c (Ok Statement) call is = (calls.StatementOf c, refl, inl (ok_is call _ _ is refl))
company_whole c (Ok Rates) call is = (calls.RatesOf c, refl, inl (ok_is call _ _ is refl))
company_whole c (Ok Exposure) call is = (calls.ExposureOf c, refl, inl (ok_is call _ _ is refl))

company_fault : (c : List ℕ) (q : Result Request MessageFault) (fault : MessageFault) → Err fault ≡ company_verdict c (judged q) → Err fault ≡ company_verdict c q
company_fault c (Err why) fault is = is
company_fault c (Ok request) fault is = absurd (no_fault _ fault _ refl (sym is))

module _ (b : Book) (v : MessageValue) where
  abbrev digests : List ℕ → Option (List ℕ)
  digests c = key_of (callers.Company c) b

  abbrev operators : Option (List ℕ)
  operators = key_of callers.Operator b

  -- a call that a message comes to stands for that of the definitions
  pub call_whole : (call : Call) → Ok call ≡ judged_on b v → IsOfWhole call (verdict_on b v)
  call_whole call = by (addressee_of v) where
    by : (a : Addressee) → Ok call ≡ judged_by digests operators a → IsOfWhole call (verdict_by digests operators a)
    by (to_nobody fault) is = absurd (no_fault call fault _ is refl)
    by (to_company route c r) is = company_whole c (company_request (digests c) route c r) call is
    by (to_operator route r) is = (call, is, inl refl)

  -- and a fault is that of the definitions
  pub fault_whole : (fault : MessageFault) → Err fault ≡ judged_on b v → Err fault ≡ verdict_on b v
  fault_whole fault = by (addressee_of v) where
    by : (a : Addressee) → Err fault ≡ judged_by digests operators a → Err fault ≡ verdict_by digests operators a
    by (to_nobody why) is = is
    by (to_company route c r) is = company_fault c (company_request (digests c) route c r) fault is
    by (to_operator route r) is = is
