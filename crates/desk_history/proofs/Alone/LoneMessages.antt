-- Requests, days, holidays, companies and limits in a desk that serves one company alone.
use Rattle.std.proofs.Common.{◌≡◌, ℕ, List, [], ◌∷◌, ◌++◌, map, Bool, true, false, ◌&&◌, refl, sym, ap, ◌∙◌, subst, inl, inr, unwrap_or, if◌then◌else◌, Option, Some, None, option_and_then, option_map, option_to_list, Result, Ok, Err, find, filter, bytes_eq}
use Rattle.std.specs.Result.{result_ok}
use Rattle.std.proofs.lemmas.Bool.{cases_Bool, and_parts}
use Rattle.std.proofs.lemmas.Slice.Eq.{bytes_eq-Decides}
use Rattle.bank_days.specs.Calendar.{is_banking}
use Rattle.bank_days.specs.declared.calendar_fault.CalendarFault.{CalendarFault}
use Rattle.desk_rules.specs.declared.bodies.company.Company.{Company}
use Rattle.desk_rules.specs.declared.bodies.company.Limits.{Limits}
use Rattle.desk_rules.specs.declared.bodies.draft.CompanyDraft.{CompanyDraft}
use Rattle.desk_rules.specs.declared.bodies.draft.LimitsDraft.{LimitsDraft}
use Rattle.desk_rules.specs.declared.refusals.refusal.Refusal as rules
use Rattle.desk_rules.specs.declared.refusals.refusal.Refusal.TheVariants.{DayNotLater, NotBankingDay, NoCompany}
use Rattle.desk_rules.specs.Chain.{◌>>=◌}
use Rattle.desk_rules.specs.Operator.{company_of, new_limits_of, desk_day_of, desk_day_in}
use Rattle.desk_history.specs.declared.answer.Outcome.{Outcome}
use Rattle.desk_history.specs.declared.answer.Outcome.TheVariants as done
use Rattle.desk_history.specs.declared.identity.Identity.{Identity}
use Rattle.desk_history.specs.declared.sent_entry.SentEntry.{SentEntry}
use Rattle.desk_history.specs.Request as request
use Rattle.desk_history.specs.Request.{Request}
use Rattle.desk_history.specs.Words.{some_or, holds_or}
use Rattle.desk_history.specs.Part.{Event, DaySet, HolidaysSet, Registered, Limited, Asked, is_registered}
use Rattle.desk_history.specs.Message.{Of, SetDay, SetHolidays, PutCompany, PutLimits, Pair, is_accepted}
use Rattle.desk_history.specs.Reply.{answer_of}
use Rattle.desk_history.specs.History.{day, with_limits, with_company, with_registration, with_new_limits, companies, company_event, limits_event, request_event, events_for, sent_entries_after, part, sent_entries}
use Rattle.desk_history.specs.Files.{files, files_after, cut_batches, File}
use Rattle.desk_history.specs.Sendings.{NumberedBatch}
use Rattle.desk_history.specs.Operator.{has_id, is_later, answer_to, next_pair}
use Rattle.desk_history.specs.Alone.{with_message}
use Rattle.desk_history.proofs.Accounts.Companies.{registering, none_before, companies_after}
use Rattle.desk_history.proofs.Alone.Lone.{own_companies, own_sent, own_cuts, IsLoneOf, IsLone, lone_day, lone_holidays, event_step}
use Rattle.desk_history.proofs.Alone.LoneCompany.{none_filtered, find_filtered, own_registered, other_registered, own_limited, other_limited}
use Rattle.desk_history.proofs.Lines.PartLimits.{limiting, same_day, same_holidays}

-- ---- a request

none_put : (ok : Bool) (ks : List Company) → with_new_limits (if ok then None else None) (with_registration (if ok then None else None) ks) ≡ ks
none_put true ks = refl
none_put false ks = refl

none_sent : (ok : Bool) (k : List ℕ) (r : Request) (es : List SentEntry) (parts : List ℕ → List Event) (ks : List Company) → sent_entries_after ok (Of k r) es parts ks ≡ es
none_sent true k r es parts ks = refl
none_sent false k r es parts ks = refl

none_made : (ok : Bool) (k : List ℕ) (r : Request) (d : ℕ) (bs : List NumberedBatch) (before : List File) → files_after ok (Of k r) d bs before ≡ before
none_made true k r d bs before = refl
none_made false k r d bs before = refl

asked : (identity : Identity) (H : List Pair) (c k : List ℕ) (r : Request) (P : List Event) (G : List Pair) → IsLoneOf identity c H P G
    → (bytes_eq k c && is_registered P) ≡ true → request_event true r ≡ Asked r ∷ [] → IsLoneOf identity c H (Asked r ∷ P) (next_pair identity G (Of k r) ∷ G)
asked identity H c k r P G h own is =
    let odfi = identity.odfi in
    let ok = is_accepted (answer_to identity G (Of k r)) in
    event_step identity c (own_companies c H) (own_companies c H) (own_sent odfi c H) (own_cuts odfi c H) P G (Of k r) (Asked r) h (record {
      may = inr ((bytes_eq-Decides k c).0 (and_parts (bytes_eq k c) (is_registered P) own).0);
      no_answer = refl;
      no_file_key = λ _. refl;
      part_after =
          ap (λ (Q : List Event). request_event (bytes_eq k c && is_registered Q) r ++ Q) h.same_part
          ∙ ap (λ (b : Bool). request_event b r ++ P) own
          ∙ ap (λ (l : List Event). l ++ P) is;
      registered_after = none_put ok (companies G) ∙ h.registered;
      sent_after = none_sent ok k r (sent_entries odfi G) (part odfi G) (companies G);
      files_after = none_made ok k r (unwrap_or (day G) 0) (cut_batches odfi G) (files odfi G);
    })

pub of_step : (identity : Identity) (H : List Pair) (c k : List ℕ) (r : Request) (P : List Event) (G : List Pair) → IsLoneOf identity c H P G
    → IsLoneOf identity c H (request_event (bytes_eq k c && is_registered P) r ++ P) (with_message identity c (Of k r) (request_event (bytes_eq k c && is_registered P) r) G)
of_step identity H c k r P G h = by (bytes_eq k c && is_registered P) refl r where
  by : (b : Bool) → (bytes_eq k c && is_registered P) ≡ b → (r : Request) → IsLoneOf identity c H (request_event b r ++ P) (with_message identity c (Of k r) (request_event b r) G)
  by true own (request.Submit d) = asked identity H c k (request.Submit d) P G h own refl
  by true own (request.Retry d) = asked identity H c k (request.Retry d) P G h own refl
  by true own (request.LookUp reference) = h
  by true own request.Returns = h
  by true own request.Changes = h
  by true own request.Statement = h
  by true own request.Rates = h
  by true own request.Exposure = h
  by false own r = h

-- ---- the desk day and the holidays

abbrev day_after : Option ℕ → List ℕ → Option (List ℕ) → Result Outcome rules.Refusal
day_after today days text = desk_day_in text >>= (λ d. holds_or DayNotLater (is_later today d) >>= (λ _. holds_or NotBankingDay (is_banking days d) >>= (λ _. Ok (done.Day d))))

pub day_step : (identity : Identity) (H : List Pair) (c : List ℕ) (text : Option (List ℕ)) (G : List Pair) → IsLoneOf identity c H (part identity.odfi H c) G
    → is_accepted (answer_to identity H (SetDay text)) ≡ true
    → IsLoneOf identity c H (option_to_list (option_map DaySet (option_and_then desk_day_of text)) ++ part identity.odfi H c)
    (with_message identity c (SetDay text) (option_to_list (option_map DaySet (option_and_then desk_day_of text))) G)
day_step identity H c text G h ok = by (option_and_then desk_day_of text) refl where
  accepts : is_accepted (answer_to identity G (SetDay text)) ≡ true
  accepts = (λ i. is_accepted (answer_of (day_after ((lone_day h ∙ same_day identity.odfi H c) i) ((lone_holidays h ∙ same_holidays identity.odfi H c) i) text))) ∙ ok

  by : (o : Option ℕ) → option_and_then desk_day_of text ≡ o → IsLoneOf identity c H (option_to_list (option_map DaySet o) ++ part identity.odfi H c) (with_message identity c (SetDay text) (option_to_list (option_map DaySet o)) G)
  by None is = h
  by (Some d) is =
      event_step identity c (own_companies c H) (own_companies c H) (own_sent identity.odfi c H) (own_cuts identity.odfi c H) (part identity.odfi H c) G (SetDay text) (DaySet d) h (record {
        may = inl accepts;
        no_answer = refl;
        no_file_key = λ _. refl;
        part_after =
            ap (λ (b : Bool). events_for identity.odfi (sent_entries identity.odfi G) true c b (SetDay text) (part identity.odfi G c) ++ part identity.odfi G c) accepts
            ∙ ap (λ (o : Option ℕ). option_to_list (option_map DaySet o) ++ part identity.odfi G c) is
            ∙ ap (λ (Q : List Event). DaySet d ∷ Q) h.same_part;
        registered_after = ap (λ (b : Bool). companies_after b (SetDay text) (companies G)) accepts ∙ h.registered;
        sent_after = ap (λ (b : Bool). sent_entries_after b (SetDay text) (sent_entries identity.odfi G) (part identity.odfi G) (companies G)) accepts;
        files_after = ap (λ (b : Bool). files_after b (SetDay text) (unwrap_or (day G) 0) (cut_batches identity.odfi G) (files identity.odfi G)) accepts;
      })

pub holidays_step : (identity : Identity) (H : List Pair) (c : List ℕ) (days : Result (List ℕ) CalendarFault) (P : List Event) (G : List Pair) → IsLoneOf identity c H P G
    → IsLoneOf identity c H (option_to_list (option_map HolidaysSet (result_ok days)) ++ P) (with_message identity c (SetHolidays days) (option_to_list (option_map HolidaysSet (result_ok days))) G)
holidays_step identity H c (Err fault) P G h = h
holidays_step identity H c (Ok days) P G h =
    event_step identity c (own_companies c H) (own_companies c H) (own_sent identity.odfi c H) (own_cuts identity.odfi c H) P G (SetHolidays (Ok days)) (HolidaysSet days) h (record {
      may = inl refl;
      no_answer = refl;
      no_file_key = λ _. refl;
      part_after = ap (λ (Q : List Event). HolidaysSet days ∷ Q) h.same_part;
      registered_after = h.registered;
      sent_after = refl;
      files_after = refl;
    })

-- ---- a company and its limits

pub company_step : (identity : Identity) (H : List Pair) (c : List ℕ) (d : CompanyDraft) (P : List Event) (G : List Pair) → IsLoneOf identity c H P G
    → is_accepted (answer_to identity H (PutCompany d)) ≡ true
    → IsLone identity c (filter (has_id c) (with_registration (result_ok (company_of d)) (companies H))) (own_sent identity.odfi c H) (own_cuts identity.odfi c H) (company_event c (result_ok (company_of d)) ++ P)
    (with_message identity c (PutCompany d) (company_event c (result_ok (company_of d))) G)
company_step identity H c d P G h ok = by (company_of d) refl ok where
  Stands : List Company → List Event → List Pair → Type 0
  Stands ks P G = IsLone identity c ks (own_sent identity.odfi c H) (own_cuts identity.odfi c H) P G

  accepts : (k : Company) → company_of d ≡ Ok k → companies G ≡ [] → is_accepted (answer_to identity G (PutCompany d)) ≡ true
  accepts k is none = (λ i. is_accepted (answer_of (is i >>= registering (none i))))

  own : (k : Company) → company_of d ≡ Ok k → k.id ≡ c → has_id c k ≡ true → find (has_id k.id) (companies H) ≡ None
      → Stands (filter (has_id c) (with_company k (companies H))) (Registered k.name k.digest k.limits ∷ P) (next_pair identity G (PutCompany d) ∷ G)
  own k is id mine new =
      let new' : find (has_id c) (companies H) ≡ None = ap (λ (n : List ℕ). find (has_id n) (companies H)) (sym id) ∙ new in
      let none : companies G ≡ [] = h.registered ∙ none_filtered (has_id c) (companies H) new' in
      let yes' = accepts k is none in
      event_step identity c (filter (has_id c) (with_company k (companies H))) (own_companies c H) (own_sent identity.odfi c H) (own_cuts identity.odfi c H) P G (PutCompany d) (Registered k.name k.digest k.limits) h (record {
        may = inl yes';
        no_answer = refl;
        no_file_key = λ _. refl;
        part_after =
            ap (λ (b : Bool). events_for identity.odfi (sent_entries identity.odfi G) true c b (PutCompany d) (part identity.odfi G c) ++ part identity.odfi G c) yes'
            ∙ ap (λ (r : Result Company rules.Refusal). company_event c (result_ok r) ++ part identity.odfi G c) is
            ∙ ap (λ (b : Bool). (if b then Registered k.name k.digest k.limits ∷ [] else []) ++ part identity.odfi G c) mine
            ∙ ap (λ (Q : List Event). Registered k.name k.digest k.limits ∷ Q) h.same_part;
        registered_after =
            ap (λ (b : Bool). companies_after b (PutCompany d) (companies G)) yes'
            ∙ (λ i. with_registration (result_ok (is i)) (none i))
            ∙ sym (own_registered c k (companies H) mine new');
        sent_after = ap (λ (b : Bool). sent_entries_after b (PutCompany d) (sent_entries identity.odfi G) (part identity.odfi G) (companies G)) yes';
        files_after = ap (λ (b : Bool). files_after b (PutCompany d) (unwrap_or (day G) 0) (cut_batches identity.odfi G) (files identity.odfi G)) yes';
      })

  by : (r : Result Company rules.Refusal) → company_of d ≡ r → is_accepted (answer_of (r >>= registering (companies H))) ≡ true
      → Stands (filter (has_id c) (with_registration (result_ok r) (companies H))) (company_event c (result_ok r) ++ P) (with_message identity c (PutCompany d) (company_event c (result_ok r)) G)
  by (Err why) is ok = h
  by (Ok k) is ok = elim (cases_Bool (has_id c k)) [
    | inl mine ↦
        subst (λ (b : Bool).
        Stands (filter (has_id c) (with_company k (companies H))) ((if b then Registered k.name k.digest k.limits ∷ [] else []) ++ P)
        (with_message identity c (PutCompany d) (if b then Registered k.name k.digest k.limits ∷ [] else []) G)) (sym mine)
        (own k is ((bytes_eq-Decides k.id c).0 mine) mine (none_before (companies H) k ok))
    | inr other ↦
        subst (λ (b : Bool).
        Stands (filter (has_id c) (with_company k (companies H))) ((if b then Registered k.name k.digest k.limits ∷ [] else []) ++ P)
        (with_message identity c (PutCompany d) (if b then Registered k.name k.digest k.limits ∷ [] else []) G)) (sym other)
        (subst (λ (ks : List Company). Stands ks P G) (sym (other_registered c k (companies H) other)) h)
  ]

pub limits_step : (identity : Identity) (H : List Pair) (c : List ℕ) (d : LimitsDraft) (P : List Event) (G : List Pair) → IsLoneOf identity c H P G
    → is_accepted (answer_to identity H (PutLimits d)) ≡ true
    → IsLone identity c (filter (has_id c) (with_new_limits (result_ok (new_limits_of d)) (companies H))) (own_sent identity.odfi c H) (own_cuts identity.odfi c H) (limits_event c (result_ok (new_limits_of d)) ++ P)
    (with_message identity c (PutLimits d) (limits_event c (result_ok (new_limits_of d))) G)
limits_step identity H c d P G h ok = by (new_limits_of d) refl ok where
  Stands : List Company → List Event → List Pair → Type 0
  Stands ks P G = IsLone identity c ks (own_sent identity.odfi c H) (own_cuts identity.odfi c H) P G

  Answers : List Company → List ℕ × Limits → Type 0
  Answers ks x = is_accepted (answer_of (limiting ks x)) ≡ true

  own : (x : List ℕ × Limits) → new_limits_of d ≡ Ok x → x.0 ≡ c → bytes_eq x.0 c ≡ true → is_accepted (answer_of (limiting (companies H) x)) ≡ true
      → Stands (filter (has_id c) (map (with_limits x.0 x.1) (companies H))) (Limited x.1 ∷ P) (next_pair identity G (PutLimits d) ∷ G)
  own x is id mine accepts =
      let found : find (has_id x.0) (companies G) ≡ find (has_id x.0) (companies H) =
      ap (find (has_id x.0)) h.registered
      ∙ ap (λ (n : List ℕ). find (has_id x.0) (filter (has_id n) (companies H))) (sym id)
      ∙ find_filtered (has_id x.0) (companies H) in
      let yes' : is_accepted (answer_to identity G (PutLimits d)) ≡ true =
      ap (λ (r : Result (List ℕ × Limits) rules.Refusal). is_accepted (answer_of (r >>= limiting (companies G)))) is
      ∙ ap (λ (o : Option Company). is_accepted (answer_of (some_or NoCompany o >>= (λ _. Ok (done.Company x.0))))) found
      ∙ accepts in
      event_step identity c (filter (has_id c) (map (with_limits x.0 x.1) (companies H))) (own_companies c H) (own_sent identity.odfi c H) (own_cuts identity.odfi c H) P G (PutLimits d) (Limited x.1) h (record {
        may = inl yes';
        no_answer = refl;
        no_file_key = λ _. refl;
        part_after =
            ap (λ (b : Bool). events_for identity.odfi (sent_entries identity.odfi G) true c b (PutLimits d) (part identity.odfi G c) ++ part identity.odfi G c) yes'
            ∙ ap (λ (r : Result (List ℕ × Limits) rules.Refusal). limits_event c (result_ok r) ++ part identity.odfi G c) is
            ∙ ap (λ (b : Bool). (if b then Limited x.1 ∷ [] else []) ++ part identity.odfi G c) mine
            ∙ ap (λ (Q : List Event). Limited x.1 ∷ Q) h.same_part;
        registered_after =
            ap (λ (b : Bool). companies_after b (PutLimits d) (companies G)) yes'
            ∙ (λ i. with_new_limits (result_ok (is i)) (h.registered i))
            ∙ sym (own_limited c x.0 x.1 (companies H));
        sent_after = ap (λ (b : Bool). sent_entries_after b (PutLimits d) (sent_entries identity.odfi G) (part identity.odfi G) (companies G)) yes';
        files_after = ap (λ (b : Bool). files_after b (PutLimits d) (unwrap_or (day G) 0) (cut_batches identity.odfi G) (files identity.odfi G)) yes';
      })

  by : (r : Result (List ℕ × Limits) rules.Refusal) → new_limits_of d ≡ r → is_accepted (answer_of (r >>= limiting (companies H))) ≡ true
      → Stands (filter (has_id c) (with_new_limits (result_ok r) (companies H))) (limits_event c (result_ok r) ++ P) (with_message identity c (PutLimits d) (limits_event c (result_ok r)) G)
  by (Err why) is ok = h
  by (Ok x) is ok = elim (cases_Bool (bytes_eq x.0 c)) [
    | inl mine ↦
        subst (λ (b : Bool).
        Stands (filter (has_id c) (map (with_limits x.0 x.1) (companies H))) ((if b then Limited x.1 ∷ [] else []) ++ P)
        (with_message identity c (PutLimits d) (if b then Limited x.1 ∷ [] else []) G)) (sym mine)
        (own x is ((bytes_eq-Decides x.0 c).0 mine) mine ok)
    | inr other ↦
        subst (λ (b : Bool).
        Stands (filter (has_id c) (map (with_limits x.0 x.1) (companies H))) ((if b then Limited x.1 ∷ [] else []) ++ P)
        (with_message identity c (PutLimits d) (if b then Limited x.1 ∷ [] else []) G)) (sym other)
        (subst (λ (ks : List Company). Stands ks P G) (sym (other_limited c x.0 x.1 (companies H) other)) h)
  ]
