-- A history without the key `authorized`, and the retries that are accepted in it.
use Rattle.std.proofs.Common.{◌≡◌, ℕ, List, [], ◌∷◌, ◌++◌, Bool, true, false, ◌&&◌, refl, sym, subst, ap, ◌∙◌, map}
use Rattle.std.specs.Prelude.{⊤, All, Option, Some, None, option_and_then, Result, Ok, Err, bytes_eq}
use Rattle.std.specs.List.{AllByRecursion}
use Rattle.std.specs.Result.{result_ok}
use Rattle.std.proofs.lemmas.List.Elements.{All-nil, All-cons, All-push, All-head, All-tail, recursion_from_All}
use Rattle.ach_fields.specs.Names.{reference_of}
use Rattle.bank_days.specs.Day.{day_of}
use Rattle.ach_files.specs.declared.facts.ItemFacts.{ItemFacts}
use Rattle.desk_rules.specs.Chain.{good}
use Rattle.desk_rules.specs.Fields.{entry_number_of, optional_of}
use Rattle.desk_rules.specs.Retry.{retry_of}
use Rattle.desk_rules.specs.declared.bodies.draft.Optional.TheVariants.{Absent}
use Rattle.desk_rules.specs.declared.bodies.draft.RetryDraft.{RetryDraft}
use Rattle.desk_rules.specs.declared.bodies.submission.Retry.{Retry}
use Rattle.desk_rules.specs.declared.refusals.refusal.Field.TheVariants as field
use Rattle.desk_rules.specs.declared.refusals.refusal.Refusal.{Refusal}
use Rattle.desk_history.specs.Request as request
use Rattle.desk_history.specs.Request.{Request}
use Rattle.desk_history.specs.Part.{Event, Asked, is_registered}
use Rattle.desk_history.specs.Message.{Message, Of, SetDay, SetHolidays, PutCompany, PutLimits, Cut, TakeFile, FileText, Settlement, Suspense, Status, Companies, Pair, is_accepted}
use Rattle.desk_history.specs.Accepted.{AcceptedSubmission}
use Rattle.desk_history.specs.Acceptance.{submissions}
use Rattle.desk_history.specs.Authorizations.{message_without_authorization, pair_without_authorization, without_authorizations, AsksNoAuthorization, HasNoAuthorization, HaveNoAuthorizations, IsUnauthorized, AuthorizationsLeftOut}
use Rattle.desk_history.specs.History.{request_event, events_for, is_new, part, sent_entries}
use Rattle.desk_history.specs.Resolve.{resolve, item_event, item_events}
use Rattle.desk_history.specs.declared.sent_entry.SentEntry.{SentEntry}
use Rattle.desk_history.proofs.Acceptance.Growing.{IsNew}
use Rattle.desk_history.proofs.Acceptance.Named.{good_some}
use Rattle.desk_history.proofs.Acceptance.Ordered.{by_growing}
use Rattle.desk_history.proofs.Basics.Chains.{steps}
use Rattle.desk_history.proofs.Basics.Each.{each-append}
use Rattle.desk_history.proofs.Sent.Given.{IsSetting, settings_give}
use Rattle.desk_history.proofs.Sent.Resolving.{event_holds, given_holds}

-- ---- the key is left out

left_out : (m : Message) → HasNoAuthorization (message_without_authorization m)
left_out (Of c (request.Retry d)) = refl
left_out (Of c (request.Submit d)) = tt
left_out (Of c (request.LookUp reference)) = tt
left_out (Of c request.Returns) = tt
left_out (Of c request.Changes) = tt
left_out (Of c request.Statement) = tt
left_out (Of c request.Rates) = tt
left_out (Of c request.Exposure) = tt
left_out (SetDay text) = tt
left_out (SetHolidays days) = tt
left_out (PutCompany d) = tt
left_out (PutLimits d) = tt
left_out Cut = tt
left_out (TakeFile file) = tt
left_out (FileText day modifier) = tt
left_out Settlement = tt
left_out Suspense = tt
left_out Status = tt
left_out Companies = tt

none : (H : List Pair) → HaveNoAuthorizations (without_authorizations H)
none [] = All-nil (λ x. HasNoAuthorization x.message)
none (x ∷ H) = All-cons (λ x. HasNoAuthorization x.message) (pair_without_authorization x) (without_authorizations H) (left_out x.message) (none H)

same_message : (m : Message) → HasNoAuthorization m → message_without_authorization m ≡ m
same_message (Of c (request.Retry d)) h = ap (λ a. Of c (request.Retry (record d { authorized = a }))) (sym h)
same_message (Of c (request.Submit d)) h = refl
same_message (Of c (request.LookUp reference)) h = refl
same_message (Of c request.Returns) h = refl
same_message (Of c request.Changes) h = refl
same_message (Of c request.Statement) h = refl
same_message (Of c request.Rates) h = refl
same_message (Of c request.Exposure) h = refl
same_message (SetDay text) h = refl
same_message (SetHolidays days) h = refl
same_message (PutCompany d) h = refl
same_message (PutLimits d) h = refl
same_message Cut h = refl
same_message (TakeFile file) h = refl
same_message (FileText day modifier) h = refl
same_message Settlement h = refl
same_message Suspense h = refl
same_message Status h = refl
same_message Companies h = refl

same : (H : List Pair) → HaveNoAuthorizations H → without_authorizations H ≡ H
same [] h = refl
same (x ∷ H) h =
    let first = same_message x.message (All-head (λ x. HasNoAuthorization x.message) x H h) in
    let rest = same H (All-tail (λ x. HasNoAuthorization x.message) x H h) in
    (λ i. record { message = first i; answer = x.answer } ∷ rest i)

answers : (H : List Pair) → map (λ x. x.answer) (without_authorizations H) ≡ map (λ x. x.answer) H
answers [] = refl
answers (x ∷ H) = ap (λ rest. x.answer ∷ rest) (answers H)

-- ---- the parts

-- no retry that has the key
abbrev IsPlain : Event → Type 0
IsPlain (Asked r) = AsksNoAuthorization r
IsPlain e = ⊤

plain_request : (b : Bool) (r : Request) → AsksNoAuthorization r → AllByRecursion IsPlain (request_event b r)
plain_request true (request.Submit d) h = (tt, tt)
plain_request true (request.Retry d) h = (h, tt)
plain_request true r h = tt
plain_request false r h = tt

plain_items : (odfi : List ℕ) (es : List SentEntry) (c : List ℕ) (items : List ItemFacts) (P : List Event) → AllByRecursion IsPlain (item_events odfi es c items P)
plain_items odfi es c [] P = tt
plain_items odfi es c (item ∷ items) P =
    let event = item_event c P (resolve odfi es item) in
    each-append IsPlain (item_events odfi es c items (event ++ P)) event (plain_items odfi es c items (event ++ P))
    (given_holds (AllByRecursion IsPlain) c P odfi es item tt
    (λ x gives. (event_holds IsPlain x.entry item x.event gives.meeting.gives (λ code information within. tt) (λ code text. tt), tt)))

plain_setting : (e : Event) → IsSetting e → IsPlain e
plain_setting (Asked r) set = absurd set
plain_setting e set = tt

plain_given : (odfi : List ℕ) (es : List SentEntry) (new : Bool) (c : List ℕ) (ok : Bool) (m : Message) (P : List Event) → HasNoAuthorization m
    → AllByRecursion IsPlain (events_for odfi es new c ok m P)
plain_given odfi es new c ok (Of k r) P h = plain_request (bytes_eq k c && is_registered P) r h
plain_given odfi es new c true Cut P h = (tt, tt)
plain_given odfi es true c true (TakeFile (Ok f)) P h = plain_items odfi es c f.items P
plain_given odfi es false c true (TakeFile (Ok f)) P h = tt
plain_given odfi es true c true (TakeFile (Err fault)) P h = tt
plain_given odfi es false c true (TakeFile (Err fault)) P h = tt
plain_given odfi es new c ok m P h = settings_give (AllByRecursion IsPlain) tt (λ e set. (plain_setting e set, tt)) odfi es new c ok m P tt

plain_part : (odfi : List ℕ) (H : List Pair) (c : List ℕ) → AllByRecursion (λ x. HasNoAuthorization x.message) H → AllByRecursion IsPlain (part odfi H c)
plain_part odfi [] c h = tt
plain_part odfi (x ∷ H) c h =
    each-append IsPlain (events_for odfi (sent_entries odfi H) (is_new H x.message) c (is_accepted x.answer) x.message (part odfi H c)) (part odfi H c)
    (plain_given odfi (sent_entries odfi H) (is_new H x.message) c (is_accepted x.answer) x.message (part odfi H c) h.0) (plain_part odfi H c h.1)

-- ---- the accepted retries

plain_draft : (d : RetryDraft) (r : Retry) → d.authorized ≡ Absent → retry_of d ≡ Ok r → r.authorized ≡ None
plain_draft d r plain h =
    let one = steps (good field.Reference 0 (option_and_then (λ s. result_ok (reference_of s)) d.reference)) _ r h in
    let two = steps (good field.Of 0 (option_and_then (λ s. result_ok (reference_of s)) d.of)) _ r one.rest in
    let three = steps (good field.Index 0 (option_and_then entry_number_of d.index)) _ r two.rest in
    let four = steps (good field.Day 0 (option_and_then day_of d.day)) _ r three.rest in
    let five = steps (good field.Authorized 0 (optional_of day_of d.authorized)) _ r four.rest in
    let read : Some None ≡ Some five.value = ap (optional_of day_of) (sym plain) ∙ good_some field.Authorized 0 (optional_of day_of d.authorized) five.value five.first in
    let none : five.value ≡ None = cc in
    sym (ap (λ (x : Result Retry Refusal). authorized_in x) five.rest) ∙ none
  where
    authorized_in : Result Retry Refusal → Option ℕ
    authorized_in (Ok r) = r.authorized
    authorized_in (Err why) = None

plain_new : (P : List Event) (A : List AcceptedSubmission) (r : Request) (a : AcceptedSubmission) → AsksNoAuthorization r → IsNew P A r a → IsUnauthorized a
plain_new P A (request.Submit d) a h new = subst IsUnauthorized (sym new.is) refl
plain_new P A (request.Retry d) a h new = subst IsUnauthorized (sym new.is) (plain_draft d new.retry h new.drafted)
plain_new P A (request.LookUp reference) a h new = absurd new
plain_new P A request.Returns a h new = absurd new
plain_new P A request.Changes a h new = absurd new
plain_new P A request.Statement a h new = absurd new
plain_new P A request.Rates a h new = absurd new
plain_new P A request.Exposure a h new = absurd new

plain_submissions : (P : List Event) → AllByRecursion IsPlain P → All IsUnauthorized (submissions P)
plain_submissions = by_growing (λ P. AllByRecursion IsPlain P → All IsUnauthorized (submissions P)) (λ h. All-nil IsUnauthorized)
    (λ e P same before h. subst (All IsUnauthorized) (sym same) (before h.1))
    (λ P r more before h. subst (All IsUnauthorized) (sym more.is)
    (All-push IsUnauthorized (submissions P) more.added (before h.1) (plain_new P (submissions P) r more.added h.0 more.from)))

pub authorizations_left_out : AuthorizationsLeftOut
authorizations_left_out = record {
  none = none;
  same = same;
  answers = answers;
  accepted = λ odfi H c h. plain_submissions (part odfi H c) (plain_part odfi H c (recursion_from_All (λ x. HasNoAuthorization x.message) H h));
}
