-- The effect of each message on the book.
use Rattle.std.proofs.Common.{◌≡◌, ℕ, List, [], ◌∷◌, ◌++◌, Bool, true, false, ◌&&◌, refl, sym, ap, ◌∙◌, inl, inr}
use Rattle.std.specs.Prelude.{if◌then◌else◌, Option, Some, None, option_map, option_to_list, Result, Ok, Err, bytes_eq}
use Rattle.std.specs.Result.{result_ok}
use Rattle.std.proofs.lemmas.Bool.{cases_Bool}
use Rattle.std.proofs.lemmas.Slice.Eq.{bytes_eq-Decides}
use Rattle.desk_rules.specs.declared.bodies.company.Company.{Company}
use Rattle.desk_rules.specs.declared.bodies.company.Limits.{Limits}
use Rattle.desk_rules.specs.declared.bodies.draft.CompanyDraft.{CompanyDraft}
use Rattle.desk_rules.specs.declared.bodies.draft.LimitsDraft.{LimitsDraft}
use Rattle.desk_rules.specs.declared.refusals.refusal.Refusal as rules
use Rattle.desk_rules.specs.Operator.{company_of, new_limits_of}
use Rattle.desk_history.specs.declared.answer.Answer.{Answer}
use Rattle.desk_history.specs.declared.answer.Answer.TheVariants.{Done, Refused}
use Rattle.desk_history.specs.declared.identity.Identity.{Identity}
use Rattle.desk_book.specs.declared.row.Row.{Row}
use Rattle.desk_history.specs.declared.sent_entry.SentEntry.{SentEntry}
use Rattle.desk_history.specs.Part.{Event, DaySet, Registered, Limited, is_registered}
use Rattle.desk_book.specs.Book.{Book, rows, book_of}
use Rattle.desk_history.specs.History as history
use Rattle.desk_history.specs.History.{message_day, with_company, with_registration, with_new_limits, companies, company_event, limits_event, request_event, events_for, part}
use Rattle.desk_history.specs.Message.{Message, Of, SetDay, SetHolidays, PutCompany, PutLimits, TakeFile, FileText, Settlement, Suspense, Status, Companies, Pair, is_accepted}
use Rattle.desk_history.specs.Operator.{answer_to, next_pair, IsHistory}
use Rattle.desk_history.specs.Request as request
use Rattle.desk_history.specs.Request.{Request}
use Rattle.desk_book.specs.RowLaws.{RowSteps}
use Rattle.desk_book.specs.Standing.{Standing, standing}
use Rattle.desk_history.proofs.Sent.Given.{IsOther}
use Rattle.desk_history.specs.Words.{or_else}
use Rattle.desk_book.specs.Steps.{change_at, set_day, set_holidays, put_company, put_limits}
use Rattle.desk_book.specs.OnBook.{standing_in}
use Rattle.desk_book.specs.BookLaws.{StepsOfMessages}
use Rattle.desk_book.specs.Requests.{added_row, with_added_row}
use Rattle.desk_book.proofs.Standings.{SameStanding}
use Rattle.desk_book.proofs.Kept.{with_answer, renewed, kept}
use Rattle.desk_book.proofs.NewRows.{added, row_asked_by, rows_with_new}

-- ---- a message that gives no company an event

-- it leaves the book as it was
nothing_new : (identity : Identity) (key : List ℕ) (H : List Pair) (m : Message) (a : Answer) → IsOther (is_accepted a) m
    → history.day (with_answer m a ∷ H) ≡ history.day H
    → history.holidays (with_answer m a ∷ H) ≡ history.holidays H
    → companies (with_answer m a ∷ H) ≡ companies H
    → ((c : List ℕ) → part identity.odfi (with_answer m a ∷ H) c ≡ part identity.odfi H c)
    → book_of identity key (with_answer m a ∷ H) ≡ book_of identity key H
nothing_new identity key H m a other same_day same_holidays same_companies same_part =
    kept identity key H m a other
    ∙ (λ i. renewed (book_of identity key H) (same_day i) (same_holidays i) (same_companies i) (λ c. rows (same_part c i)))

none_given : (odfi : List ℕ) (es : List SentEntry) (new : Bool) (c : List ℕ) (m : Message) (P : List Event)
    → ((k : List ℕ) (r : Request) → m ≡ Of k r → ⊥) → events_for odfi es new c false m P ≡ []
none_given odfi es new c (Of k r) P not = absurd (not k r refl)
none_given odfi es true c (TakeFile (Ok f)) P not = refl
none_given odfi es false c (TakeFile (Ok f)) P not = refl
none_given odfi es true c (TakeFile (Err fault)) P not = refl
none_given odfi es false c (TakeFile (Err fault)) P not = refl
none_given odfi es new c m P not = refl

refused_by : (identity : Identity) (key : List ℕ) (H : List Pair) (m : Message) (a : Answer) → is_accepted a ≡ false → ((c : List ℕ) (r : Request) → m ≡ Of c r → ⊥)
    → book_of identity key (with_answer m a ∷ H) ≡ book_of identity key H
refused_by identity key H m (Done value) refused not = cc
refused_by identity key H m (Refused why) refused not =
    nothing_new identity key H m (Refused why) tt refl refl refl
    (λ c. ap (λ (es : List Event). es ++ part identity.odfi H c) (none_given identity.odfi _ _ c m (part identity.odfi H c) not))

-- the reads that are refused before the first day
settlement_read : (identity : Identity) (key : List ℕ) (H : List Pair) (a : Answer) → book_of identity key (with_answer Settlement a ∷ H) ≡ book_of identity key H
settlement_read identity key H (Done value) = nothing_new identity key H Settlement (Done value) tt refl refl refl (λ c. refl)
settlement_read identity key H (Refused why) = nothing_new identity key H Settlement (Refused why) tt refl refl refl (λ c. refl)

companies_read : (identity : Identity) (key : List ℕ) (H : List Pair) (a : Answer) → book_of identity key (with_answer Companies a ∷ H) ≡ book_of identity key H
companies_read identity key H (Done value) = nothing_new identity key H Companies (Done value) tt refl refl refl (λ c. refl)
companies_read identity key H (Refused why) = nothing_new identity key H Companies (Refused why) tt refl refl refl (λ c. refl)

-- ---- a request

other_of : (ok : Bool) (c : List ℕ) (r : Request) → IsOther ok (Of c r)
other_of true c r = tt
other_of false c r = tt

-- it changes the companies' submissions alone
asked_rows : (b : Book) (H : List Pair) (c : List ℕ) (r : Request) (a : Answer) (rs : List ℕ → List Row)
    → renewed b (history.day (with_answer (Of c r) a ∷ H)) (history.holidays (with_answer (Of c r) a ∷ H)) (companies (with_answer (Of c r) a ∷ H)) rs
    ≡ renewed b (history.day H) (history.holidays H) (companies H) rs
asked_rows b H c r (Done value) rs = refl
asked_rows b H c r (Refused why) rs = refl

with_added : (c : List ℕ) (o : Option Row) (b : Book) → record b { rows = change_at c (added o) b.rows } ≡ with_added_row c o b
with_added c None b = (λ i. record b { rows = λ k. same k i }) where
  same : (k : List ℕ) → (if bytes_eq c k then b.rows k else b.rows k) ≡ b.rows k
  same k = elim (bytes_eq c k) as (λ (t : Bool). (if t then b.rows k else b.rows k) ≡ b.rows k) [ true ↦ refl | false ↦ refl ]
with_added c (Some row) b = refl

asked_on_book : (b : Book) (c : List ℕ) (r : Request) → row_asked_by (standing_in b c) r ≡ added_row b c r
asked_on_book b c (request.Submit d) = refl
asked_on_book b c (request.Retry d) = refl
asked_on_book b c (request.LookUp reference) = refl
asked_on_book b c request.Returns = refl
asked_on_book b c request.Changes = refl
asked_on_book b c request.Statement = refl
asked_on_book b c request.Rates = refl
asked_on_book b c request.Exposure = refl

module _ (same_standing : SameStanding) (steps : RowSteps) where
  rows_asked : (c : List ℕ) (r : Request) (parts : List ℕ → List Event) (k : List ℕ)
      → rows (request_event (bytes_eq c k && is_registered (parts k)) r ++ parts k) ≡ change_at c (added (row_asked_by (standing (parts c)) r)) (λ k. rows (parts k)) k
  rows_asked c r parts k = elim (cases_Bool (bytes_eq c k)) [
    | inl own ↦
        let is : c ≡ k = (bytes_eq-Decides c k).0 own in
        ap (λ (t : Bool). rows (request_event (t && is_registered (parts k)) r ++ parts k)) own
        ∙ rows_with_new steps (parts k) r
        ∙ ap (λ (c : List ℕ). added (row_asked_by (standing (parts c)) r) (rows (parts k))) (sym is)
        ∙ ap (λ (t : Bool). if t then added (row_asked_by (standing (parts c)) r) (rows (parts k)) else rows (parts k)) (sym own)
    | inr other ↦
        ap (λ (t : Bool). rows (request_event (t && is_registered (parts k)) r ++ parts k)) other
        ∙ ap (λ (t : Bool). if t then added (row_asked_by (standing (parts c)) r) (rows (parts k)) else rows (parts k)) (sym other)
  ]

  asked : (identity : Identity) (key : List ℕ) (H : List Pair) (c : List ℕ) (r : Request) → IsHistory identity H
      → book_of identity key (next_pair identity H (Of c r) ∷ H) ≡ with_added_row c (added_row (book_of identity key H) c r) (book_of identity key H)
  asked identity key H c r is =
      let a = answer_to identity H (Of c r) in
      let b = book_of identity key H in
      kept identity key H (Of c r) a (other_of (is_accepted a) c r)
      ∙ asked_rows b H c r a (λ k. rows (part identity.odfi (next_pair identity H (Of c r) ∷ H) k))
      ∙ (λ i. record b { rows = λ k. rows_asked c r (part identity.odfi H) k i })
      ∙ ap (λ (st : Standing). record b { rows = change_at c (added (row_asked_by st r)) b.rows }) (same_standing identity key H c is)
      ∙ ap (λ (o : Option Row). record b { rows = change_at c (added o) b.rows }) (asked_on_book b c r)
      ∙ with_added c (added_row b c r) b

  -- ---- the operator's commands

  day_by : (identity : Identity) (key : List ℕ) (H : List Pair) (text : Option (List ℕ)) (d : ℕ) (a : Answer) → is_accepted a ≡ true → message_day (SetDay text) ≡ Some d
      → book_of identity key (with_answer (SetDay text) a ∷ H) ≡ (set_day d).after (book_of identity key H)
  day_by identity key H text d (Refused why) ok is = cc
  day_by identity key H text d (Done value) ok is =
      kept identity key H (SetDay text) (Done value) tt
      ∙ ap (λ (o : Option ℕ). renewed (book_of identity key H) (or_day o) (history.holidays H) (companies H) (λ c. rows (option_to_list (option_map DaySet o) ++ part identity.odfi H c))) is
      ∙ (λ i. renewed (book_of identity key H) (Some d) (history.holidays H) (companies H) (λ c. steps.day (part identity.odfi H c) d i))
    where
      or_day : Option ℕ → Option ℕ
      or_day o = or_else o (history.day H)

  holidays_by : (identity : Identity) (key : List ℕ) (H : List Pair) (days : List ℕ)
      → book_of identity key (next_pair identity H (SetHolidays (Ok days)) ∷ H) ≡ (set_holidays days).after (book_of identity key H)
  holidays_by identity key H days =
      kept identity key H (SetHolidays (Ok days)) (answer_to identity H (SetHolidays (Ok days))) tt
      ∙ (λ i. renewed (book_of identity key H) (history.day H) days (companies H) (λ c. steps.holidays (part identity.odfi H c) days i))

  rows_registered : (c : List ℕ) (k : Company) (P : List Event) → rows (company_event c (Some k) ++ P) ≡ rows P
  rows_registered c k P = elim (bytes_eq k.id c) as (λ (t : Bool). rows ((if t then Registered k.name k.digest k.limits ∷ [] else []) ++ P) ≡ rows P) [
    | true ↦ steps.registered P k.name k.digest k.limits
    | false ↦ refl
  ]

  company_by : (identity : Identity) (key : List ℕ) (H : List Pair) (d : CompanyDraft) (a : Answer) → is_accepted a ≡ true → (k : Company) → company_of d ≡ Ok k
      → book_of identity key (with_answer (PutCompany d) a ∷ H) ≡ (put_company k).after (book_of identity key H)
  company_by identity key H d (Refused why) ok k is = cc
  company_by identity key H d (Done value) ok k is =
      kept identity key H (PutCompany d) (Done value) tt
      ∙ ap (λ (r : Result Company rules.Refusal).
      renewed (book_of identity key H) (history.day H) (history.holidays H) (with_registration (result_ok r) (companies H)) (λ c. rows (company_event c (result_ok r) ++ part identity.odfi H c))) is
      ∙ (λ i. renewed (book_of identity key H) (history.day H) (history.holidays H) (with_company k (companies H)) (λ c. rows_registered c k (part identity.odfi H c) i))

  rows_limited : (c : List ℕ) (x : List ℕ × Limits) (P : List Event) → rows (limits_event c (Some x) ++ P) ≡ rows P
  rows_limited c x P = elim (bytes_eq x.0 c) as (λ (t : Bool). rows ((if t then Limited x.1 ∷ [] else []) ++ P) ≡ rows P) [
    | true ↦ steps.limited P x.1
    | false ↦ refl
  ]

  limits_by : (identity : Identity) (key : List ℕ) (H : List Pair) (d : LimitsDraft) (a : Answer) → is_accepted a ≡ true → (x : List ℕ × Limits) → new_limits_of d ≡ Ok x
      → book_of identity key (with_answer (PutLimits d) a ∷ H) ≡ (put_limits x.0 x.1).after (book_of identity key H)
  limits_by identity key H d (Refused why) ok x is = cc
  limits_by identity key H d (Done value) ok x is =
      kept identity key H (PutLimits d) (Done value) tt
      ∙ ap (λ (r : Result (List ℕ × Limits) rules.Refusal).
      renewed (book_of identity key H) (history.day H) (history.holidays H) (with_new_limits (result_ok r) (companies H)) (λ c. rows (limits_event c (result_ok r) ++ part identity.odfi H c))) is
      ∙ (λ i. renewed (book_of identity key H) (history.day H) (history.holidays H) (with_new_limits (Some x) (companies H)) (λ c. rows_limited c x (part identity.odfi H c) i))

  pub steps_of_messages : StepsOfMessages
  steps_of_messages = record {
    asked = asked;
    day = λ identity key H text d ok is. day_by identity key H text d (answer_to identity H (SetDay text)) ok is;
    holidays = holidays_by;
    company = λ identity key H d _ ok k is. company_by identity key H d (answer_to identity H (PutCompany d)) ok k is;
    limits = λ identity key H d ok x is. limits_by identity key H d (answer_to identity H (PutLimits d)) ok x is;
    refused = λ identity key H m refused not. refused_by identity key H m (answer_to identity H m) refused not;
    settlement = λ identity key H. settlement_read identity key H (answer_to identity H Settlement);
    suspense = λ identity key H. nothing_new identity key H Suspense (answer_to identity H Suspense) tt refl refl refl (λ c. refl);
    status = λ identity key H. nothing_new identity key H Status (answer_to identity H Status) tt refl refl refl (λ c. refl);
    companies = λ identity key H. companies_read identity key H (answer_to identity H Companies);
    file_text = λ identity key H d modifier. nothing_new identity key H (FileText d modifier) (answer_to identity H (FileText d modifier)) tt refl refl refl (λ c. refl);
  }
