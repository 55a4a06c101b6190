-- The effect of one more event on the accepted submissions and retries, and on decisions.
use Rattle.std.proofs.Common.{◌≡◌, ℕ, ◌⊎◌, List, [], ◌∷◌, ◌++◌, Bool, true, false, ◌||◌, refl, sym, subst, ap, ◌∙◌, inl, inr, if◌then◌else◌, All, Option, Some, None, option_and_then, is_some, Result, Ok, Err, find}
use Rattle.std.specs.List.{list_any}
use Rattle.std.proofs.lemmas.List.Folds.{find-append}
use Rattle.std.proofs.lemmas.Slice.Eq.{bytes_eq-Decides}
use Rattle.std.proofs.lemmas.List.Elements.{All-head, All-tail}
use Rattle.desk_rules.specs.declared.bodies.company.Limits.{Limits}
use Rattle.desk_rules.specs.declared.bodies.draft.Draft.{Draft}
use Rattle.desk_rules.specs.declared.bodies.draft.RetryDraft.{RetryDraft}
use Rattle.desk_rules.specs.declared.refusals.refusal.Refusal.{Refusal}
use Rattle.desk_rules.specs.declared.bodies.submission.Retry.{Retry}
use Rattle.desk_rules.specs.declared.bodies.submission.Submission.{Submission}
use Rattle.desk_rules.specs.declared.refusals.refusal.Refusal.TheVariants.{NoEntry}
use Rattle.desk_rules.specs.Chain.{◌>>=◌}
use Rattle.desk_rules.specs.LimitChecks.{limits_verdict}
use Rattle.desk_rules.specs.Retry.{retry_of}
use Rattle.desk_rules.specs.RetryRule.{retry_verdict}
use Rattle.desk_rules.specs.Size.{size_of}
use Rattle.desk_rules.specs.Submission.{submission_of}
use Rattle.desk_history.specs.Request as request
use Rattle.desk_history.specs.Request.{Request}
use Rattle.desk_history.specs.Part as part
use Rattle.desk_history.specs.Part.{Event, DaySet, HolidaysSet, Registered, Limited, Asked, CutMade, Returned, Changed, day, holidays}
use Rattle.desk_history.specs.Words.{some_or}
use Rattle.desk_history.specs.State.{Place, decision, original_settlement, is_too_late}
use Rattle.desk_history.specs.Accepted.{AcceptedSubmission, is_called, next_submission, content_of, settlement_day, has_lapsed}
use Rattle.desk_history.specs.Facts.{facts}
use Rattle.desk_history.specs.Retries.{Original, original_of, attempts}
use Rattle.desk_history.specs.Acceptance.{submissions, submissions_after, accepted_submission, accepted_retry, new_content, retry_content, new_submission, new_retry, unless_known, is_same_submission, is_same_retry, company_limits, desk_day, with_accepted}
use Rattle.desk_history.specs.Reports.{submission_under, settlement_under}
use Rattle.desk_history.specs.AcceptedLaws.{IsLinked, IsLinkedTo}
use Rattle.desk_history.proofs.Basics.Chains.{steps, some_from_ok, known_or_new}

-- ---- what is found

-- what is found passes the test, and what holds of all holds of it
pub found_passes : {X : Type 0} (p : X → Bool) (xs : List X) (a : X) → find p xs ≡ Some a → p a ≡ true
found_passes p [] a h = cc
found_passes {X = X} p (x ∷ xs) a h = at (p x) refl (find p xs) (found_passes p xs a) h where
  at : (t : Bool) → p x ≡ t → (o : Option X) → (o ≡ Some a → p a ≡ true) → (if t then Some x else o) ≡ Some a → p a ≡ true
  at true is o more h = let same : x ≡ a = cc in ap p (sym same) ∙ is
  at false is o more h = more h

pub found_holds : {X : Type 0} (Q : X → Type 0) (p : X → Bool) (xs : List X) (a : X) → All Q xs → find p xs ≡ Some a → Q a
found_holds Q p [] a all h = cc
found_holds {X = X} Q p (x ∷ xs) a all h = at (p x) (find p xs) (found_holds Q p xs a (All-tail Q x xs all)) h where
  at : (t : Bool) (o : Option X) → (o ≡ Some a → Q a) → (if t then Some x else o) ≡ Some a → Q a
  at true o more h = let same : x ≡ a = cc in subst Q same (All-head Q x xs all)
  at false o more h = more h

pub any_found : {X : Type 0} (p : X → Bool) (xs : List X) → list_any p xs ≡ is_some (find p xs)
any_found p [] = refl
any_found {X = X} p (x ∷ xs) = at (p x) (any_found p xs) where
  at : (t : Bool) → list_any p xs ≡ is_some (find p xs) → (t || list_any p xs) ≡ is_some (if t then Some x else find p xs)
  at true same = refl
  at false same = same

-- what is found is among them
pub found_any : {X : Type 0} (p q : X → Bool) (xs : List X) (a : X) → find p xs ≡ Some a → q a ≡ true → list_any q xs ≡ true
found_any p q [] a h passes = cc
found_any {X = X} p q (x ∷ xs) a h passes = at (p x) (q x) refl (λ more. found_any p q xs a more passes) h where
  at : (t u : Bool) → q x ≡ u → (find p xs ≡ Some a → list_any q xs ≡ true) → (if t then Some x else find p xs) ≡ Some a → (u || list_any q xs) ≡ true
  at t true is more h = refl
  at true false is more h = let same : x ≡ a = cc in cc (ap q same)
  at false false is more h = more h

-- what is found by a reference has it
pub found_reference : (A : List AcceptedSubmission) (reference : List ℕ) (a : AcceptedSubmission) → find (is_called reference) A ≡ Some a → a.content.reference ≡ reference
found_reference A reference a h = (bytes_eq-Decides a.content.reference reference).0 (found_passes (is_called reference) A a h)

-- ---- what is accepted again

-- what has the reference of a draft, and is the same
pub record IsKnown {X : Type 0} (P : List Event) (A : List AcceptedSubmission) (fields : Result X Refusal) (reference : X → List ℕ) (is_same : X → AcceptedSubmission → Bool) (a : AcceptedSubmission) : Type 0 where
  pub registered : is_some (part.limits P) ≡ true
  pub on : is_some (day P) ≡ true
  pub content : X
  pub drafted : fields ≡ Ok content
  pub found : find (is_called (reference content)) A ≡ Some a
  pub same : is_same content a ≡ true

abbrev pub IsKnownSubmission : List Event → List AcceptedSubmission → Draft → AcceptedSubmission → Type 0
IsKnownSubmission P A d a = IsKnown P A (submission_of d) (λ s. s.reference) (λ s a. is_same_submission s a.content a.retry) a

abbrev pub IsKnownRetry : List Event → List AcceptedSubmission → RetryDraft → AcceptedSubmission → Type 0
IsKnownRetry P A d a = IsKnown P A (retry_of d) (λ r. r.reference) (λ r a. is_same_retry r a.retry) a

-- ---- what is accepted anew

-- a submission that passed each check
pub record IsNewSubmission (P : List Event) (A : List AcceptedSubmission) (d : Draft) (a : AcceptedSubmission) : Type 0 where
  pub limits : Limits
  pub registered : part.limits P ≡ Some limits
  pub today : ℕ
  pub on : day P ≡ Some today
  pub content : Submission
  pub drafted : submission_of d ≡ Ok content
  pub new : find (is_called content.reference) A ≡ None
  pub sized : size_of content ≡ Ok tt
  pub within : limits_verdict content today limits (facts P A) (holidays P) ≡ Ok tt
  pub is : a ≡ next_submission P A content None None

-- a retry that passed each check
pub record IsNewRetry (P : List Event) (A : List AcceptedSubmission) (d : RetryDraft) (a : AcceptedSubmission) : Type 0 where
  pub limits : Limits
  pub registered : part.limits P ≡ Some limits
  pub today : ℕ
  pub on : day P ≡ Some today
  pub retry : Retry
  pub drafted : retry_of d ≡ Ok retry
  pub new : find (is_called retry.reference) A ≡ None
  pub original : Original
  pub named : original_of A retry ≡ Some original
  pub may : retry_verdict (attempts P A original) retry.day retry.authorized today (holidays P) ≡ Ok tt
  pub within : limits_verdict (content_of retry original.accepted.content original.entry) today limits (facts P A) (holidays P) ≡ Ok tt
  pub is : a ≡ next_submission P A (content_of retry original.accepted.content original.entry) (Some retry) (Some original.accepted.place)

abbrev pub IsNew : List Event → List AcceptedSubmission → Request → AcceptedSubmission → Type 0
IsNew P A (request.Submit d) a = IsNewSubmission P A d a
IsNew P A (request.Retry d) a = IsNewRetry P A d a
IsNew P A r a = ⊥

-- the company is registered, a day was set and the fields are right
record Begins {X : Type 0} (P : List Event) (fields : Result X Refusal) (judge : Limits → ℕ → X → Result AcceptedSubmission Refusal) (a : AcceptedSubmission) : Type 0 where
  limits : Limits
  registered : part.limits P ≡ Some limits
  today : ℕ
  on : day P ≡ Some today
  content : X
  drafted : fields ≡ Ok content
  rest : judge limits today content ≡ Ok a

begins : {X : Type 0} (P : List Event) (fields : Result X Refusal) (judge : Limits → ℕ → X → Result AcceptedSubmission Refusal) (a : AcceptedSubmission)
    → (company_limits P >>= (λ limits. desk_day P >>= (λ today. fields >>= (λ x. judge limits today x)))) ≡ Ok a → Begins P fields judge a
begins P fields judge a h =
    let one = steps (company_limits P) _ a h in
    let two = steps (desk_day P) _ a one.rest in
    let three = steps fields _ a two.rest in
    record {
      limits = one.value;
      registered = some_from_ok _ (part.limits P) one.value one.first;
      today = two.value;
      on = some_from_ok _ (day P) two.value two.first;
      content = three.value;
      drafted = three.first;
      rest = three.rest;
    }

-- an accepted submission is known under its reference, or is new
pub submitted_is : (P : List Event) (A : List AcceptedSubmission) (d : Draft) (a : AcceptedSubmission) → accepted_submission P A d ≡ Ok a
    → IsKnownSubmission P A d a ⊎ IsNewSubmission P A d a
submitted_is P A d a h =
    let begun = begins P (submission_of d) (λ limits today s. unless_known (λ a. is_same_submission s a.content a.retry) (find (is_called s.reference) A) (new_submission P A limits today s)) a h in
    let s = begun.content in
    elim (known_or_new (λ a. is_same_submission s a.content a.retry) (find (is_called s.reference) A) (new_submission P A begun.limits begun.today s) a begun.rest) [
      | inl known ↦ inl (record { registered = ap is_some begun.registered; on = ap is_some begun.on; content = s; drafted = begun.drafted; found = known.0; same = known.1 })
      | inr fresh ↦
          let four = steps (new_content (facts P A) (holidays P) begun.limits begun.today s) _ a fresh.1 in
          let five = steps (size_of s) _ four.value four.first in
          let six = steps (limits_verdict s begun.today begun.limits (facts P A) (holidays P)) _ four.value five.rest in
          inr (record {
            limits = begun.limits;
            registered = begun.registered;
            today = begun.today;
            on = begun.on;
            content = s;
            drafted = begun.drafted;
            new = fresh.0;
            sized = five.first;
            within = six.first;
            is = cc (four.rest, six.rest);
          })
    ]

pub retried_is : (P : List Event) (A : List AcceptedSubmission) (d : RetryDraft) (a : AcceptedSubmission) → accepted_retry P A d ≡ Ok a
    → IsKnownRetry P A d a ⊎ IsNewRetry P A d a
retried_is P A d a h =
    let begun = begins P (retry_of d) (λ limits today r. unless_known (λ a. is_same_retry r a.retry) (find (is_called r.reference) A) (new_retry P A limits today r)) a h in
    let r = begun.content in
    elim (known_or_new (λ a. is_same_retry r a.retry) (find (is_called r.reference) A) (new_retry P A begun.limits begun.today r) a begun.rest) [
      | inl known ↦ inl (record { registered = ap is_some begun.registered; on = ap is_some begun.on; content = r; drafted = begun.drafted; found = known.0; same = known.1 })
      | inr fresh ↦
          let four = steps (some_or NoEntry (original_of A r)) _ a fresh.1 in
          let o = four.value in
          let five = steps (retry_content (facts P A) (holidays P) begun.limits begun.today r o.accepted.content o.entry (attempts P A o)) _ a four.rest in
          let six = steps (retry_verdict (attempts P A o) r.day r.authorized begun.today (holidays P)) _ five.value five.first in
          let seven = steps (limits_verdict (content_of r o.accepted.content o.entry) begun.today begun.limits (facts P A) (holidays P)) _ five.value six.rest in
          inr (record {
            limits = begun.limits;
            registered = begun.registered;
            today = begun.today;
            on = begun.on;
            retry = r;
            drafted = begun.drafted;
            new = fresh.0;
            original = o;
            named = some_from_ok _ (original_of A r) o four.first;
            may = six.first;
            within = seven.first;
            is = cc (five.rest, seven.rest);
          })
    ]

-- one is appended, under a new reference
pub record Grows (P : List Event) (A : List AcceptedSubmission) (r : Request) : Type 0 where
  pub added : AcceptedSubmission
  pub new : find (is_called added.content.reference) A ≡ None
  pub is : submissions_after P A r ≡ A ++ added ∷ []
  pub from : IsNew P A r added

-- a known reference adds nothing, a new one adds
grown_known : (A : List AcceptedSubmission) (a : AcceptedSubmission) → ((reference : List ℕ) × (find (is_called reference) A ≡ Some a)) → with_accepted A (Ok a) ≡ A
grown_known A a known =
    let there : find (is_called a.content.reference) A ≡ Some a = ap (λ (x : List ℕ). find (is_called x) A) (found_reference A known.0 a known.1) ∙ known.1 in
    ap (λ (t : Bool). if t then A else A ++ a ∷ []) (any_found (is_called a.content.reference) A ∙ ap is_some there)

pub grown_new : (A : List AcceptedSubmission) (a : AcceptedSubmission) → find (is_called a.content.reference) A ≡ None → with_accepted A (Ok a) ≡ A ++ a ∷ []
grown_new A a new = ap (λ (t : Bool). if t then A else A ++ a ∷ []) (any_found (is_called a.content.reference) A ∙ ap is_some new)

-- what was accepted, with one more after it under a reference that is new
record IsGrown (A : List AcceptedSubmission) (x : Result AcceptedSubmission Refusal) (New : AcceptedSubmission → Type 0) : Type 0 where
  added : AcceptedSubmission
  new : find (is_called added.content.reference) A ≡ None
  is : with_accepted A x ≡ A ++ added ∷ []
  from : New added

grown_by : (A : List AcceptedSubmission) (x : Result AcceptedSubmission Refusal) (New : AcceptedSubmission → Type 0) → ((a : AcceptedSubmission) → New a → find (is_called a.content.reference) A ≡ None)
    → ((a : AcceptedSubmission) → x ≡ Ok a → ((reference : List ℕ) × (find (is_called reference) A ≡ Some a)) ⊎ New a) → (with_accepted A x ≡ A) ⊎ IsGrown A x New
grown_by A (Err why) New apart answers = inl refl
grown_by A (Ok a) New apart answers = elim (answers a refl) [
  | inl known ↦ inl (grown_known A a known)
  | inr fresh ↦ inr (record { added = a; new = apart a fresh; is = grown_new A a (apart a fresh); from = fresh })
]

-- A request leaves the accepted list unchanged, or appends one.
pub grows_or_stays : (P : List Event) (A : List AcceptedSubmission) (r : Request) → (submissions_after P A r ≡ A) ⊎ Grows P A r
grows_or_stays P A (request.Submit d) =
    elim (grown_by A (accepted_submission P A d) (IsNewSubmission P A d) (λ a new. ap (λ (x : AcceptedSubmission). find (is_called x.content.reference) A) new.is ∙ new.new)
    (λ a outcome. elim (submitted_is P A d a outcome) [ inl known ↦ inl (known.content.reference, known.found) | inr new ↦ inr new ])) [
      | inl same ↦ inl same
      | inr more ↦ inr (record { added = more.added; new = more.new; is = more.is; from = more.from })
    ]
grows_or_stays P A (request.Retry d) =
    elim (grown_by A (accepted_retry P A d) (IsNewRetry P A d) (λ a new. ap (λ (x : AcceptedSubmission). find (is_called x.content.reference) A) new.is ∙ new.new)
    (λ a outcome. elim (retried_is P A d a outcome) [ inl known ↦ inl (known.content.reference, known.found) | inr new ↦ inr new ])) [
      | inl same ↦ inl same
      | inr more ↦ inr (record { added = more.added; new = more.new; is = more.is; from = more.from })
    ]
grows_or_stays P A (request.LookUp reference) = inl refl
grows_or_stays P A request.Returns = inl refl
grows_or_stays P A request.Changes = inl refl
grows_or_stays P A request.Statement = inl refl
grows_or_stays P A request.Rates = inl refl
grows_or_stays P A request.Exposure = inl refl

-- ---- what stays under a further event

-- appending an element does not change a search that succeeds
pub found_stays : {X : Type 0} (p : X → Bool) (xs : List X) (x a : X) → find p xs ≡ Some a → find p (xs ++ x ∷ []) ≡ Some a
found_stays p xs x a h = find-append p xs (x ∷ []) ∙ rw h refl

pub accepted_stays : (e : Event) (P : List Event) (reference : List ℕ) (a : AcceptedSubmission) → submission_under P reference ≡ Some a → submission_under (e ∷ P) reference ≡ Some a
accepted_stays (Asked r) P reference a h = elim (grows_or_stays P (submissions P) r) [
  | inl same ↦ ap (find (is_called reference)) same ∙ h
  | inr more ↦ ap (find (is_called reference)) more.is ∙ found_stays (is_called reference) (submissions P) more.added a h
]
accepted_stays (DaySet d) P reference a h = h
accepted_stays (HolidaysSet days) P reference a h = h
accepted_stays (Registered name digest limits) P reference a h = h
accepted_stays (Limited limits) P reference a h = h
accepted_stays CutMade P reference a h = h
accepted_stays (Returned r i code information) P reference a h = h
accepted_stays (Changed r i code text) P reference a h = h

pub decided_stays : (e : Event) (P : List Event) (p : Place) (on : ℕ) → decision P p ≡ Some on → decision (e ∷ P) p ≡ Some on
decided_stays CutMade P p on h = rw h refl
decided_stays (Asked r) P p on h = h
decided_stays (DaySet d) P p on h = h
decided_stays (HolidaysSet days) P p on h = h
decided_stays (Registered name digest limits) P p on h = h
decided_stays (Limited limits) P p on h = h
decided_stays (Returned r i code information) P p on h = h
decided_stays (Changed r i code text) P p on h = h

-- the day on which a retry's original settled
original_stays_to : (e : Event) (P : List Event) (a : AcceptedSubmission) (retry : Option Retry) → IsLinkedTo P a retry → original_settlement (e ∷ P) a.original ≡ original_settlement P a.original
original_stays_to e P a None linked = rw linked refl
original_stays_to e P a (Some r) linked = rw linked.place (decided_stays e P linked.original.accepted.place linked.on linked.settles ∙ sym linked.settles)

pub original_stays : (e : Event) (P : List Event) (a : AcceptedSubmission) → IsLinked P a → original_settlement (e ∷ P) a.original ≡ original_settlement P a.original
original_stays e P a linked = original_stays_to e P a a.retry linked

-- Once it is decided, it stays lapsed or not lapsed.
pub lapsed_stays : (e : Event) (P : List Event) (a : AcceptedSubmission) (on : ℕ) → IsLinked P a → decision P a.place ≡ Some on → has_lapsed (e ∷ P) a ≡ has_lapsed P a
lapsed_stays e P a on linked is = (λ i. is_too_late ((decided_stays e P a.place on is ∙ sym is) i) (original_stays e P a linked i))

-- what settles is decided, and does not lapse
pub settled_parts : (P : List Event) (a : AcceptedSubmission) (on : ℕ) → settlement_day P a ≡ Some on → (has_lapsed P a ≡ false) × (decision P a.place ≡ Some on)
settled_parts P a on h = at (has_lapsed P a) (decision P a.place) h where
  at : (t : Bool) (o : Option ℕ) → (if t then None else o) ≡ Some on → (t ≡ false) × (o ≡ Some on)
  at true o h = cc
  at false o h = (refl, h)

pub settled_from : (P : List Event) (a : AcceptedSubmission) (on : ℕ) → has_lapsed P a ≡ false → decision P a.place ≡ Some on → settlement_day P a ≡ Some on
settled_from P a on kept is = ap (λ (t : Bool). if t then None else decision P a.place) kept ∙ is

pub settled_stays : (e : Event) (P : List Event) (a : AcceptedSubmission) (on : ℕ) → IsLinked P a → settlement_day P a ≡ Some on → settlement_day (e ∷ P) a ≡ Some on
settled_stays e P a on linked h =
    let parts = settled_parts P a on h in
    settled_from (e ∷ P) a on (lapsed_stays e P a on linked parts.1 ∙ parts.0) (decided_stays e P a.place on parts.1)

-- the submission that settles under a reference
pub settled_under_parts : (P : List Event) (reference : List ℕ) (on : ℕ) → settlement_under P reference ≡ Some on → (a : AcceptedSubmission) × (submission_under P reference ≡ Some a) × (settlement_day P a ≡ Some on)
settled_under_parts P reference on h = at (submission_under P reference) refl h where
  at : (o : Option AcceptedSubmission) → submission_under P reference ≡ o → option_and_then (settlement_day P) o ≡ Some on → (a : AcceptedSubmission) × (submission_under P reference ≡ Some a) × (settlement_day P a ≡ Some on)
  at (Some a) is h = (a, is, h)
  at None is h = cc

pub settled_under_stays : (e : Event) (P : List Event) (reference : List ℕ) (on : ℕ) → All (IsLinked P) (submissions P) → settlement_under P reference ≡ Some on → settlement_under (e ∷ P) reference ≡ Some on
settled_under_stays e P reference on linked h =
    let parts = settled_under_parts P reference on h in
    ap (option_and_then (settlement_day (e ∷ P))) (accepted_stays e P reference parts.0 parts.1)
    ∙ settled_stays e P parts.0 on (found_holds (IsLinked P) (is_called reference) (submissions P) parts.0 linked parts.1) parts.2
