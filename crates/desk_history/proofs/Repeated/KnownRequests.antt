-- A submission or retry that was accepted is known ever after, and a known one has its first outcome.
use Rattle.std.proofs.Common.{◌≡◌, ℕ, List, [], ◌∷◌, ◌++◌, Bool, true, refl, ap, ◌∙◌, inl, inr, Option, Some, None, find, is_some, Result, Ok}
use Rattle.std.proofs.lemmas.List.Folds.{find-append}
use Rattle.desk_rules.specs.declared.bodies.company.Limits.{Limits}
use Rattle.desk_rules.specs.declared.bodies.draft.Draft.{Draft}
use Rattle.desk_rules.specs.declared.bodies.draft.RetryDraft.{RetryDraft}
use Rattle.desk_rules.specs.declared.refusals.refusal.Refusal.{Refusal}
use Rattle.desk_rules.specs.declared.refusals.refusal.Refusal.TheVariants.{NoCompany, NoDay}
use Rattle.desk_rules.specs.Chain.{◌>>=◌}
use Rattle.desk_rules.specs.Laws.{SameContents}
use Rattle.desk_history.specs.Acceptance.{submissions, accepted_submission, accepted_retry, company_limits, desk_day, unless_known, is_same_submission, is_same_retry, with_accepted}
use Rattle.desk_history.specs.Accepted.{AcceptedSubmission, is_called}
use Rattle.desk_history.specs.Part.{Event, DaySet, Registered, Limited, Asked, limits, day}
use Rattle.desk_history.specs.Request as request
use Rattle.desk_history.specs.Words.{some_or}
use Rattle.desk_history.proofs.Acceptance.Growing.{IsKnown, IsKnownSubmission, IsKnownRetry, submitted_is, retried_is, grown_new, accepted_stays}
use Rattle.desk_history.proofs.Basics.Elements.{same_text}

-- ---- what is known stays known

registered_stays : (e : Event) (P : List Event) → is_some (limits P) ≡ true → is_some (limits (e ∷ P)) ≡ true
registered_stays (Registered name digest l) P h = refl
registered_stays (Limited l) P h = refl
registered_stays e P h = h

day_stays : (e : Event) (P : List Event) → is_some (day P) ≡ true → is_some (day (e ∷ P)) ≡ true
day_stays (DaySet d) P h = refl
day_stays e P h = h

-- in a part, whose events are these
abbrev pub IsKnownIn : {X : Type 0} → Result X Refusal → (X → List ℕ) → (X → AcceptedSubmission → Bool) → AcceptedSubmission → List Event → Type 0
IsKnownIn fields reference is_same a P = IsKnown P (submissions P) fields reference is_same a

known_stays : {X : Type 0} (fields : Result X Refusal) (reference : X → List ℕ) (is_same : X → AcceptedSubmission → Bool) (a : AcceptedSubmission) (e : Event) (P : List Event)
    → IsKnownIn fields reference is_same a P → IsKnownIn fields reference is_same a (e ∷ P)
known_stays fields reference is_same a e P known = record {
  registered = registered_stays e P known.registered;
  on = day_stays e P known.on;
  content = known.content;
  drafted = known.drafted;
  found = accepted_stays e P (reference known.content) a known.found;
  same = known.same;
}

pub known_ever_after : {X : Type 0} (fields : Result X Refusal) (reference : X → List ℕ) (is_same : X → AcceptedSubmission → Bool) (a : AcceptedSubmission) (more : List Event) (P : List Event)
    → IsKnownIn fields reference is_same a P → IsKnownIn fields reference is_same a (more ++ P)
known_ever_after fields reference is_same a [] P known = known
known_ever_after fields reference is_same a (e ∷ more) P known = known_stays fields reference is_same a e (more ++ P) (known_ever_after fields reference is_same a more P known)

-- ---- a known one has its first outcome

pub known_outcome : {X : Type 0} (fields : Result X Refusal) (reference : X → List ℕ) (is_same : X → AcceptedSubmission → Bool) (a : AcceptedSubmission) (P : List Event) (new : Limits → ℕ → X → Result AcceptedSubmission Refusal)
    → IsKnownIn fields reference is_same a P
    → (company_limits P >>= (λ l. desk_day P >>= (λ today. fields >>= (λ x. unless_known (is_same x) (find (is_called (reference x)) (submissions P)) (new l today x))))) ≡ Ok a
known_outcome {X} fields reference is_same a P new known = by (limits P) (day P) known.registered known.on where
  by : (l : Option Limits) (today : Option ℕ) → is_some l ≡ true → is_some today ≡ true
      → (some_or NoCompany l >>= (λ l. some_or NoDay today >>= (λ today. fields >>= (λ x. unless_known (is_same x) (find (is_called (reference x)) (submissions P)) (new l today x))))) ≡ Ok a
  by None today registered on = cc
  by (Some l) None registered on = cc
  by (Some l) (Some today) registered on = rw (known.drafted, known.found, known.same) refl

-- ---- what is accepted is known

-- a new one is found under its reference
found_new : (A : List AcceptedSubmission) (reference : List ℕ) (a : AcceptedSubmission) (outcome : Result AcceptedSubmission Refusal) → outcome ≡ Ok a → a.content.reference ≡ reference
    → find (is_called reference) A ≡ None → find (is_called reference) (with_accepted A outcome) ≡ Some a
found_new A reference a outcome accepted named none =
    ap (λ x. find (is_called reference) (with_accepted A x)) accepted
    ∙ ap (find (is_called reference)) (grown_new A a (ap (λ (r : List ℕ). find (is_called r) A) named ∙ none))
    ∙ find-append (is_called reference) A (a ∷ [])
    ∙ rw (none, named, same_text reference) refl

module _ (same_contents : SameContents) where
  submission_known : (P : List Event) (d : Draft) (a : AcceptedSubmission) → accepted_submission P (submissions P) d ≡ Ok a → IsKnownSubmission (Asked (request.Submit d) ∷ P) (submissions (Asked (request.Submit d) ∷ P)) d a
  submission_known P d a accepted = elim (submitted_is P (submissions P) d a accepted) [
    | inl known ↦ known_stays _ _ _ a (Asked (request.Submit d)) P known
    | inr new ↦ record {
      registered = ap is_some new.registered;
      on = ap is_some new.on;
      content = new.content;
      drafted = new.drafted;
      found = found_new (submissions P) new.content.reference a _ accepted (ap (λ (x : AcceptedSubmission). x.content.reference) new.is) new.new;
      same = ap (λ (x : AcceptedSubmission). is_same_submission new.content x.content x.retry) new.is ∙ (same_contents.submissions new.content new.content).1 refl;
    }
  ]

  retry_known : (P : List Event) (d : RetryDraft) (a : AcceptedSubmission) → accepted_retry P (submissions P) d ≡ Ok a → IsKnownRetry (Asked (request.Retry d) ∷ P) (submissions (Asked (request.Retry d) ∷ P)) d a
  retry_known P d a accepted = elim (retried_is P (submissions P) d a accepted) [
    | inl known ↦ known_stays _ _ _ a (Asked (request.Retry d)) P known
    | inr new ↦ record {
      registered = ap is_some new.registered;
      on = ap is_some new.on;
      content = new.retry;
      drafted = new.drafted;
      found = found_new (submissions P) new.retry.reference a _ accepted (ap (λ (x : AcceptedSubmission). x.content.reference) new.is) new.new;
      same = ap (λ (x : AcceptedSubmission). is_same_retry new.retry x.retry) new.is ∙ (same_contents.retries new.retry new.retry).1 (record { of = refl; index = refl; day = refl; authorized = refl });
    }
  ]

  -- what was accepted once, in a part that has more events since
  pub submitted_again : (P : List Event) (d : Draft) (a : AcceptedSubmission) (more : List Event) → accepted_submission P (submissions P) d ≡ Ok a
      → IsKnownSubmission (more ++ Asked (request.Submit d) ∷ P) (submissions (more ++ Asked (request.Submit d) ∷ P)) d a
  submitted_again P d a more accepted = known_ever_after _ _ _ a more (Asked (request.Submit d) ∷ P) (submission_known P d a accepted)

  pub retried_again : (P : List Event) (d : RetryDraft) (a : AcceptedSubmission) (more : List Event) → accepted_retry P (submissions P) d ≡ Ok a
      → IsKnownRetry (more ++ Asked (request.Retry d) ∷ P) (submissions (more ++ Asked (request.Retry d) ∷ P)) d a
  retried_again P d a more accepted = known_ever_after _ _ _ a more (Asked (request.Retry d) ∷ P) (retry_known P d a accepted)
