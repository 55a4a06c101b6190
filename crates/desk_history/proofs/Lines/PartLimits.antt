-- A company's limits, the desk day, the holidays and what was accepted, in its part.
use Rattle.std.proofs.Common.{◌≡◌, ℕ, List, [], ◌∷◌, ◌++◌, Bool, true, false, cond, ◌&&◌, refl, sym, ap, ◌∙◌, subst, inl, inr, if◌then◌else◌, Option, Some, None, unwrap_or, option_map, option_to_list, Result, Ok, Err, find, bytes_eq}
use Rattle.std.specs.Result.{result_ok}
use Rattle.std.proofs.lemmas.Bool.{cases_Bool, false_from_ne_true}
use Rattle.std.proofs.lemmas.Slice.Eq.{bytes_eq-Decides}
use Rattle.desk_rules.specs.declared.bodies.company.Company.{Company}
use Rattle.desk_rules.specs.declared.bodies.company.Limits.{Limits}
use Rattle.desk_rules.specs.declared.refusals.refusal.Refusal as rules
use Rattle.desk_rules.specs.declared.refusals.refusal.Refusal.TheVariants.{NoCompany}
use Rattle.desk_rules.specs.Chain.{◌>>=◌}
use Rattle.desk_rules.specs.Operator.{company_of, new_limits_of}
use Rattle.desk_history.specs.declared.answer.Outcome.{Outcome}
use Rattle.desk_history.specs.declared.answer.Outcome.TheVariants as done
use Rattle.desk_history.specs.declared.identity.Identity.{Identity}
use Rattle.desk_history.specs.declared.sent_entry.SentEntry.{SentEntry}
use Rattle.desk_history.specs.Request as request
use Rattle.desk_history.specs.Request.{Request}
use Rattle.desk_history.specs.Words.{or_else, some_or}
use Rattle.desk_history.specs.Part as part_of
use Rattle.desk_history.specs.Part.{Event, DaySet, HolidaysSet, Registered, Limited, Asked, CutMade, Returned, Changed, limits, is_registered}
use Rattle.desk_history.specs.Message.{Message, Of, SetDay, SetHolidays, PutCompany, PutLimits, TakeFile, Pair, is_accepted}
use Rattle.desk_history.specs.Accepted.{AcceptedSubmission}
use Rattle.desk_history.specs.Acceptance.{submissions, submissions_after}
use Rattle.desk_history.specs.Reply.{answer_of}
use Rattle.desk_history.specs.History.{message_day, message_holidays, with_limits, with_registration, with_new_limits, companies, day, holidays, company_event, limits_event, events_for, is_new, part, sent_entries}
use Rattle.desk_history.specs.Operator.{has_id, answer_to, IsHistory}
use Rattle.desk_history.proofs.Sent.Given.{asked_gives}
use Rattle.desk_history.proofs.Acceptance.Growing.{found_passes}
use Rattle.desk_history.proofs.Accounts.Companies.{registering, none_before, find_with_company, find_with_limits, companies_after, accepted_is}
use Rattle.desk_history.proofs.Sent.Resolving.{items_keep}

-- ---- the desk day

day_given : (odfi : List ℕ) (es : List SentEntry) (new : Bool) (c : List ℕ) (ok : Bool) (m : Message) (P : List Event)
    → part_of.day (events_for odfi es new c ok m P ++ P) ≡ or_else (if ok then message_day m else None) (part_of.day P)
day_given odfi es new c ok (Of k r) P = asked_gives (λ more. part_of.day (more ++ P) ≡ part_of.day P) refl (λ r. refl) (bytes_eq k c && is_registered P) r ∙ none ok where
  none : (ok : Bool) → part_of.day P ≡ or_else (if ok then None else None) (part_of.day P)
  none true = refl
  none false = refl
day_given odfi es new c true (SetDay text) P = by (message_day (SetDay text)) where
  by : (o : Option ℕ) → part_of.day (option_to_list (option_map DaySet o) ++ P) ≡ or_else o (part_of.day P)
  by None = refl
  by (Some d) = refl
day_given odfi es new c true (SetHolidays days) P = by (result_ok days) where
  by : (o : Option (List ℕ)) → part_of.day (option_to_list (option_map HolidaysSet o) ++ P) ≡ part_of.day P
  by None = refl
  by (Some days) = refl
day_given odfi es new c true (PutCompany d) P = by (result_ok (company_of d)) where
  by : (o : Option Company) → part_of.day (company_event c o ++ P) ≡ part_of.day P
  by None = refl
  by (Some k) = elim (bytes_eq k.id c) as (λ b. part_of.day ((if b then Registered k.name k.digest k.limits ∷ [] else []) ++ P) ≡ part_of.day P) [ true ↦ refl | false ↦ refl ]
day_given odfi es new c true (PutLimits d) P = by (result_ok (new_limits_of d)) where
  by : (o : Option (List ℕ × Limits)) → part_of.day (limits_event c o ++ P) ≡ part_of.day P
  by None = refl
  by (Some x) = elim (bytes_eq x.0 c) as (λ b. part_of.day ((if b then Limited x.1 ∷ [] else []) ++ P) ≡ part_of.day P) [ true ↦ refl | false ↦ refl ]
day_given odfi es true c true (TakeFile (Ok f)) P = items_keep part_of.day (λ _ _ _ _ _. refl) (λ _ _ _ _ _. refl) odfi es c f.items P
day_given odfi es true c ok (TakeFile file) P = refl
day_given odfi es false c true (TakeFile file) P = refl
day_given odfi es false c false (TakeFile file) P = refl
day_given odfi es new c true m P = refl
day_given odfi es new c false m P = refl

-- the desk day is in each part
pub same_day : (odfi : List ℕ) (H : List Pair) (c : List ℕ) → part_of.day (part odfi H c) ≡ day H
same_day odfi [] c = refl
same_day odfi (x ∷ H) c =
    day_given odfi (sent_entries odfi H) (is_new H x.message) c (is_accepted x.answer) x.message (part odfi H c)
    ∙ ap (or_else (if is_accepted x.answer then message_day x.message else None)) (same_day odfi H c)

-- ---- the holidays

holidays_given : (odfi : List ℕ) (es : List SentEntry) (new : Bool) (c : List ℕ) (ok : Bool) (m : Message) (P : List Event)
    → part_of.holidays (events_for odfi es new c ok m P ++ P) ≡ unwrap_or (if ok then message_holidays m else None) (part_of.holidays P)
holidays_given odfi es new c ok (Of k r) P = asked_gives (λ more. part_of.holidays (more ++ P) ≡ part_of.holidays P) refl (λ r. refl) (bytes_eq k c && is_registered P) r ∙ none ok where
  none : (ok : Bool) → part_of.holidays P ≡ unwrap_or (if ok then None else None) (part_of.holidays P)
  none true = refl
  none false = refl
holidays_given odfi es new c true (SetDay text) P = by (message_day (SetDay text)) where
  by : (o : Option ℕ) → part_of.holidays (option_to_list (option_map DaySet o) ++ P) ≡ part_of.holidays P
  by None = refl
  by (Some d) = refl
holidays_given odfi es new c true (SetHolidays days) P = by (result_ok days) where
  by : (o : Option (List ℕ)) → part_of.holidays (option_to_list (option_map HolidaysSet o) ++ P) ≡ unwrap_or o (part_of.holidays P)
  by None = refl
  by (Some days) = refl
holidays_given odfi es new c true (PutCompany d) P = by (result_ok (company_of d)) where
  by : (o : Option Company) → part_of.holidays (company_event c o ++ P) ≡ part_of.holidays P
  by None = refl
  by (Some k) = elim (bytes_eq k.id c) as (λ b. part_of.holidays ((if b then Registered k.name k.digest k.limits ∷ [] else []) ++ P) ≡ part_of.holidays P) [ true ↦ refl | false ↦ refl ]
holidays_given odfi es new c true (PutLimits d) P = by (result_ok (new_limits_of d)) where
  by : (o : Option (List ℕ × Limits)) → part_of.holidays (limits_event c o ++ P) ≡ part_of.holidays P
  by None = refl
  by (Some x) = elim (bytes_eq x.0 c) as (λ b. part_of.holidays ((if b then Limited x.1 ∷ [] else []) ++ P) ≡ part_of.holidays P) [ true ↦ refl | false ↦ refl ]
holidays_given odfi es true c true (TakeFile (Ok f)) P = items_keep part_of.holidays (λ _ _ _ _ _. refl) (λ _ _ _ _ _. refl) odfi es c f.items P
holidays_given odfi es true c ok (TakeFile file) P = refl
holidays_given odfi es false c true (TakeFile file) P = refl
holidays_given odfi es false c false (TakeFile file) P = refl
holidays_given odfi es new c true m P = refl
holidays_given odfi es new c false m P = refl

-- the holidays are in each part
pub same_holidays : (odfi : List ℕ) (H : List Pair) (c : List ℕ) → part_of.holidays (part odfi H c) ≡ holidays H
same_holidays odfi [] c = refl
same_holidays odfi (x ∷ H) c =
    holidays_given odfi (sent_entries odfi H) (is_new H x.message) c (is_accepted x.answer) x.message (part odfi H c)
    ∙ ap (unwrap_or (if is_accepted x.answer then message_holidays x.message else None)) (same_holidays odfi H c)

-- ---- the limits

-- the limits of a company, if it is among these
abbrev pub limits_in : List Company → List ℕ → Option Limits
limits_in ks c = option_map (λ k. k.limits) (find (has_id c) ks)

-- a company more
registered : (ks : List Company) (c : List ℕ) (P : List Event) (r : Result Company rules.Refusal) → is_accepted (answer_of (r >>= registering ks)) ≡ true → limits_in ks c ≡ limits P
    → limits_in (with_registration (result_ok r) ks) c ≡ limits (company_event c (result_ok r) ++ P)
registered ks c P (Err why) h same = same
registered ks c P (Ok k) h same =
    ap (option_map (λ k. k.limits)) (find_with_company k ks c (none_before ks k h))
    ∙ elim (bytes_eq k.id c) as (λ b. option_map (λ k. k.limits) (cond b (Some k) (find (has_id c) ks)) ≡ limits ((if b then Registered k.name k.digest k.limits ∷ [] else []) ++ P)) [ true ↦ refl | false ↦ same ]

-- the answer to new limits, given the registered companies
abbrev pub limiting : List Company → List ℕ × Limits → Result Outcome rules.Refusal
limiting ks x = some_or NoCompany (find (has_id x.0) ks) >>= (λ _. Ok (done.Company x.0))

-- new limits of a company
limited : (ks : List Company) (c : List ℕ) (P : List Event) (r : Result (List ℕ × Limits) rules.Refusal) → is_accepted (answer_of (r >>= limiting ks)) ≡ true → limits_in ks c ≡ limits P
    → limits_in (with_new_limits (result_ok r) ks) c ≡ limits (limits_event c (result_ok r) ++ P)
limited ks c P (Err why) h same = same
limited ks c P (Ok x) h same =
    ap (option_map (λ k. k.limits)) (find_with_limits x.0 x.1 ks c)
    ∙ elim (cases_Bool (bytes_eq x.0 c)) [
      | inl own ↦
          let is : x.0 ≡ c = (bytes_eq-Decides x.0 c).0 own in
          here own (find (has_id c) ks) refl (subst (λ (i : List ℕ). is_accepted (answer_of (some_or NoCompany (find (has_id i) ks) >>= (λ _. Ok (done.Company x.0)))) ≡ true) is h)
          ∙ ap (λ (b : Bool). limits ((if b then Limited x.1 ∷ [] else []) ++ P)) (sym own)
      | inr other ↦ away other (find (has_id c) ks) refl ∙ same ∙ ap (λ (b : Bool). limits ((if b then Limited x.1 ∷ [] else []) ++ P)) (sym other)
    ]
  where
    same_as : (k : Company) → find (has_id c) ks ≡ Some k → k.id ≡ c
    same_as k found = (bytes_eq-Decides k.id c).0 (found_passes (has_id c) ks k found)

    here : bytes_eq x.0 c ≡ true → (o : Option Company) → find (has_id c) ks ≡ o → is_accepted (answer_of (some_or NoCompany o >>= (λ _. Ok (done.Company x.0)))) ≡ true
        → option_map (λ k. k.limits) (option_map (with_limits x.0 x.1) o) ≡ limits (Limited x.1 ∷ P)
    here own None found ok = cc
    here own (Some k) found ok =
        let same : bytes_eq k.id x.0 ≡ true = (bytes_eq-Decides k.id x.0).1 (same_as k found ∙ sym ((bytes_eq-Decides x.0 c).0 own)) in
        ap (λ (b : Bool). Some ((if b then record k { limits = x.1 } else k).limits)) same

    away : bytes_eq x.0 c ≡ false → (o : Option Company) → find (has_id c) ks ≡ o
        → option_map (λ k. k.limits) (option_map (with_limits x.0 x.1) o) ≡ option_map (λ k. k.limits) o
    away other None found = refl
    away other (Some k) found =
        let apart : bytes_eq k.id x.0 ≡ false = false_from_ne_true (bytes_eq k.id x.0) (λ there.
        let e : bytes_eq x.0 c ≡ true = (bytes_eq-Decides x.0 c).1 (sym ((bytes_eq-Decides k.id x.0).0 there) ∙ same_as k found) in
        cc) in
        ap (λ (b : Bool). Some ((if b then record k { limits = x.1 } else k).limits)) apart

limits_given : (identity : Identity) (H : List Pair) (m : Message) (ok : Bool) → (ok ≡ true → is_accepted (answer_to identity H m) ≡ true)
    → (odfi : List ℕ) (es : List SentEntry) (new : Bool) (c : List ℕ) (P : List Event) → limits_in (companies H) c ≡ limits P
    → limits_in (companies_after ok m (companies H)) c ≡ limits (events_for odfi es new c ok m P ++ P)
limits_given identity H (Of k r) ok by odfi es new c P same = none ok ∙ same ∙ sym (asked_gives (λ more. limits (more ++ P) ≡ limits P) refl (λ r. refl) (bytes_eq k c && is_registered P) r) where
  none : (ok : Bool) → limits_in (companies_after ok (Of k r) (companies H)) c ≡ limits_in (companies H) c
  none true = refl
  none false = refl
limits_given identity H (SetDay text) true by odfi es new c P same = same ∙ kept (message_day (SetDay text)) where
  kept : (o : Option ℕ) → limits P ≡ limits (option_to_list (option_map DaySet o) ++ P)
  kept None = refl
  kept (Some d) = refl
limits_given identity H (SetHolidays days) true by odfi es new c P same = same ∙ kept (result_ok days) where
  kept : (o : Option (List ℕ)) → limits P ≡ limits (option_to_list (option_map HolidaysSet o) ++ P)
  kept None = refl
  kept (Some days) = refl
limits_given identity H (PutCompany d) true by odfi es new c P same = registered (companies H) c P (company_of d) (by refl) same
limits_given identity H (PutLimits d) true by odfi es new c P same = limited (companies H) c P (new_limits_of d) (by refl) same
limits_given identity H (TakeFile (Ok f)) true by odfi es true c P same = same ∙ sym (items_keep limits (λ _ _ _ _ _. refl) (λ _ _ _ _ _. refl) odfi es c f.items P)
limits_given identity H (TakeFile file) true by odfi es true c P same = same
limits_given identity H (TakeFile file) false by odfi es true c P same = same
limits_given identity H (TakeFile file) true by odfi es false c P same = same
limits_given identity H (TakeFile file) false by odfi es false c P same = same
limits_given identity H m true by odfi es new c P same = same
limits_given identity H m false by odfi es new c P same = same

-- a company's limits are in its part
pub same_limits : (identity : Identity) (H : List Pair) (c : List ℕ) → IsHistory identity H → limits_in (companies H) c ≡ limits (part identity.odfi H c)
same_limits identity [] c is = refl
same_limits identity (x ∷ H) c is =
    limits_given identity H x.message (is_accepted x.answer) (accepted_is identity x H is)
    identity.odfi (sent_entries identity.odfi H) (is_new H x.message) c (part identity.odfi H c) (same_limits identity H c is.1)

-- ---- who is not registered

-- what a request adds where nobody is registered
none_asked : (P : List Event) (A : List AcceptedSubmission) (r : Request) → limits P ≡ None → submissions_after P A r ≡ A
none_asked P A (request.Submit d) none = rw none refl
none_asked P A (request.Retry d) none = rw none refl
none_asked P A (request.LookUp reference) none = refl
none_asked P A request.Returns none = refl
none_asked P A request.Changes none = refl
none_asked P A request.Statement none = refl
none_asked P A request.Rates none = refl
none_asked P A request.Exposure none = refl

-- who is not registered has no submissions
pub none_accepted : (P : List Event) → limits P ≡ None → submissions P ≡ []
none_accepted [] none = refl
none_accepted (Asked r ∷ P) none = none_asked P (submissions P) r none ∙ none_accepted P none
none_accepted (DaySet d ∷ P) none = none_accepted P none
none_accepted (HolidaysSet days ∷ P) none = none_accepted P none
none_accepted (Registered name digest l ∷ P) none = cc
none_accepted (Limited l ∷ P) none = cc
none_accepted (CutMade ∷ P) none = none_accepted P none
none_accepted (Returned reference index code information ∷ P) none = none_accepted P none
none_accepted (Changed reference index code text ∷ P) none = none_accepted P none
