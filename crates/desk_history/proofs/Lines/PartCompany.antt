-- A company's own row, in its part.
use Rattle.std.proofs.Common.{◌≡◌, ℕ, List, [], ◌∷◌, ◌++◌, Bool, true, false, cond, ◌&&◌, refl, sym, ap, ◌∙◌, if◌then◌else◌, Option, Some, None, option_map, option_and_then, option_to_list, Result, Ok, Err, find, bytes_eq}
use Rattle.std.specs.Result.{result_ok}
use Rattle.std.proofs.lemmas.Slice.Eq.{bytes_eq-Decides}
use Rattle.desk_rules.specs.declared.bodies.company.Company.{Company}
use Rattle.desk_rules.specs.declared.bodies.company.Limits.{Limits}
use Rattle.desk_rules.specs.declared.refusals.refusal.Refusal as rules
use Rattle.desk_rules.specs.Chain.{◌>>=◌}
use Rattle.desk_rules.specs.Operator.{company_of, new_limits_of}
use Rattle.desk_history.specs.declared.identity.Identity.{Identity}
use Rattle.desk_history.specs.declared.sent_entry.SentEntry.{SentEntry}
use Rattle.desk_history.specs.Part.{Event, DaySet, HolidaysSet, Registered, Limited, is_registered, Registration, registration}
use Rattle.desk_history.specs.PartCompany.{registered_company, DigestOfPart, CompanyOfPart}
use Rattle.desk_history.specs.Message.{Message, Of, SetDay, SetHolidays, PutCompany, PutLimits, TakeFile, Pair, is_accepted}
use Rattle.desk_history.specs.Reply.{answer_of}
use Rattle.desk_history.specs.History.{message_day, with_limits, with_registration, with_new_limits, companies, company_event, limits_event, events_for, is_new, part, sent_entries}
use Rattle.desk_history.specs.Operator.{has_id, answer_to, IsHistory}
use Rattle.desk_history.proofs.Sent.Given.{asked_gives}
use Rattle.desk_history.proofs.Acceptance.Growing.{found_passes}
use Rattle.desk_history.proofs.Accounts.Companies.{registering, none_before, find_with_company, find_with_limits, companies_after, accepted_is}
use Rattle.desk_history.proofs.Lines.PartLimits.{same_limits}
use Rattle.desk_history.proofs.Sent.Resolving.{items_keep}

abbrev registration_of : Company → Registration
registration_of k = record { name = k.name; digest = k.digest }

-- the registration of a company, if it is among these
abbrev registration_in : List Company → List ℕ → Option Registration
registration_in ks c = option_map registration_of (find (has_id c) ks)

-- a company more
registered : (ks : List Company) (c : List ℕ) (P : List Event) (r : Result Company rules.Refusal) → is_accepted (answer_of (r >>= registering ks)) ≡ true → registration_in ks c ≡ registration P
    → registration_in (with_registration (result_ok r) ks) c ≡ registration (company_event c (result_ok r) ++ P)
registered ks c P (Err why) h same = same
registered ks c P (Ok k) h same =
    ap (option_map registration_of) (find_with_company k ks c (none_before ks k h))
    ∙ elim (bytes_eq k.id c) as (λ b. option_map registration_of (cond b (Some k) (find (has_id c) ks)) ≡ registration ((if b then Registered k.name k.digest k.limits ∷ [] else []) ++ P)) [ true ↦ refl | false ↦ same ]

-- new limits leave the registration
same_registration : (id : List ℕ) (l : Limits) (k : Company) → registration_of (with_limits id l k) ≡ registration_of k
same_registration id l k = elim (bytes_eq k.id id) as (λ b. registration_of (if b then record k { limits = l } else k) ≡ registration_of k) [ true ↦ refl | false ↦ refl ]

limited : (ks : List Company) (c : List ℕ) (P : List Event) (o : Option (List ℕ × Limits)) → registration_in ks c ≡ registration P
    → registration_in (with_new_limits o ks) c ≡ registration (limits_event c o ++ P)
limited ks c P None same = same
limited ks c P (Some x) same =
    ap (option_map registration_of) (find_with_limits x.0 x.1 ks c)
    ∙ kept (find (has_id c) ks) ∙ same
    ∙ elim (bytes_eq x.0 c) as (λ b. registration P ≡ registration ((if b then Limited x.1 ∷ [] else []) ++ P)) [ true ↦ refl | false ↦ refl ]
  where
    kept : (o : Option Company) → option_map registration_of (option_map (with_limits x.0 x.1) o) ≡ option_map registration_of o
    kept None = refl
    kept (Some k) = ap Some (same_registration x.0 x.1 k)

registration_given : (identity : Identity) (H : List Pair) (m : Message) (ok : Bool) → (ok ≡ true → is_accepted (answer_to identity H m) ≡ true)
    → (odfi : List ℕ) (es : List SentEntry) (new : Bool) (c : List ℕ) (P : List Event) → registration_in (companies H) c ≡ registration P
    → registration_in (companies_after ok m (companies H)) c ≡ registration (events_for odfi es new c ok m P ++ P)
registration_given identity H (Of k r) ok by odfi es new c P same = none ok ∙ same ∙ sym (asked_gives (λ more. registration (more ++ P) ≡ registration P) refl (λ r. refl) (bytes_eq k c && is_registered P) r) where
  none : (ok : Bool) → registration_in (companies_after ok (Of k r) (companies H)) c ≡ registration_in (companies H) c
  none true = refl
  none false = refl
registration_given identity H (SetDay text) true by odfi es new c P same = same ∙ kept (message_day (SetDay text)) where
  kept : (o : Option ℕ) → registration P ≡ registration (option_to_list (option_map DaySet o) ++ P)
  kept None = refl
  kept (Some d) = refl
registration_given identity H (SetHolidays days) true by odfi es new c P same = same ∙ kept (result_ok days) where
  kept : (o : Option (List ℕ)) → registration P ≡ registration (option_to_list (option_map HolidaysSet o) ++ P)
  kept None = refl
  kept (Some days) = refl
registration_given identity H (PutCompany d) true by odfi es new c P same = registered (companies H) c P (company_of d) (by refl) same
registration_given identity H (PutLimits d) true by odfi es new c P same = limited (companies H) c P (result_ok (new_limits_of d)) same
registration_given identity H (TakeFile (Ok f)) true by odfi es true c P same = same ∙ sym (items_keep registration (λ _ _ _ _ _. refl) (λ _ _ _ _ _. refl) odfi es c f.items P)
registration_given identity H (TakeFile file) true by odfi es true c P same = same
registration_given identity H (TakeFile file) false by odfi es true c P same = same
registration_given identity H (TakeFile file) true by odfi es false c P same = same
registration_given identity H (TakeFile file) false by odfi es false c P same = same
registration_given identity H m true by odfi es new c P same = same
registration_given identity H m false by odfi es new c P same = same

-- a company's registration is in its part
same_registrations : (identity : Identity) (H : List Pair) (c : List ℕ) → IsHistory identity H → registration_in (companies H) c ≡ registration (part identity.odfi H c)
same_registrations identity [] c is = refl
same_registrations identity (x ∷ H) c is =
    registration_given identity H x.message (is_accepted x.answer) (accepted_is identity x H is)
    identity.odfi (sent_entries identity.odfi H) (is_new H x.message) c (part identity.odfi H c) (same_registrations identity H c is.1)

-- ---- the laws

pub digest_of_part : DigestOfPart
digest_of_part identity H c is = of (find (has_id c) (companies H)) ∙ ap (option_map (λ r. r.digest)) (same_registrations identity H c is) where
  of : (o : Option Company) → option_map (λ k. k.digest) o ≡ option_map (λ r. r.digest) (option_map registration_of o)
  of None = refl
  of (Some k) = refl

-- a company by its registration and its limits
abbrev company_by : (id : List ℕ) → Option Registration → Option Limits → Option Company
company_by id r l = option_and_then (λ r. option_map (registered_company id r) l) r

pub company_of_part : CompanyOfPart
company_of_part identity H c is = by (find (has_id c) (companies H)) refl ∙ (λ i. company_by c (same_registrations identity H c is i) (same_limits identity H c is i)) where
  by : (o : Option Company) → find (has_id c) (companies H) ≡ o → o ≡ company_by c (option_map registration_of o) (option_map (λ k. k.limits) o)
  by None none = refl
  by (Some k) found = ap (λ (id : List ℕ). Some (registered_company id (registration_of k) k.limits)) ((bytes_eq-Decides k.id c).0 (found_passes (has_id c) (companies H) k found))
