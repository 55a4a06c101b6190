-- A retry names an entry of an earlier submission that settled.
use Rattle.std.proofs.Common.{◌≡◌, ◌≤◌, ℕ, List, [], ◌∷◌, length, map, Bool, false, refl, sym, subst, ap, ◌∙◌, arith, All, Option, Some, None, option_and_then, filter_map, Result, Ok}
use Rattle.std.proofs.lemmas.List.Elements.{All-nil, All-push, All-weaker}
use Rattle.desk_rules.specs.declared.rules.attempt.Attempt.{Attempt}
use Rattle.desk_rules.specs.declared.rules.entry_fact.EntryState.{EntryState}
use Rattle.desk_rules.specs.declared.bodies.submission.Retry.{Retry}
use Rattle.desk_rules.specs.declared.refusals.refusal.Refusal.{Refusal}
use Rattle.desk_rules.specs.Attempts.{Return, attempt_of, original_return, newest_return}
use Rattle.desk_rules.specs.Chain.{first_refusal}
use Rattle.desk_rules.specs.RetryRule.{retry_rows, retry_verdict}
use Rattle.desk_history.specs.Request as request
use Rattle.desk_history.specs.Request.{Request}
use Rattle.desk_history.specs.Part.{Event, Asked}
use Rattle.desk_history.specs.State.{TakenReturn, decision, is_too_late, return_of, state_from}
use Rattle.desk_history.specs.Accepted.{AcceptedSubmission, is_called, settlement_day, has_lapsed, state_of}
use Rattle.desk_history.specs.Retries.{Original, original_of, entry_at, attempts, retries_of}
use Rattle.desk_history.specs.Acceptance.{submissions}
use Rattle.desk_history.specs.AcceptedLaws.{AcceptedInOrder, IsLinked, IsLinkedTo}
use Rattle.desk_history.proofs.Acceptance.Growing.{IsNew, found_holds, accepted_stays, decided_stays, settled_parts}
use Rattle.desk_history.proofs.Acceptance.Named.{named_parts}
use Rattle.desk_history.proofs.Acceptance.Ordered.{by_growing, orders, orders_within, references, places, sizes}

-- ---- a retry's original settled

-- a retry that may be asked names a returned debit
came_back : (tried : List Attempt) (asked : ℕ) (authorized : Option ℕ) (day : ℕ) (holidays : List ℕ) → retry_verdict tried asked authorized day holidays ≡ Ok tt → (back : Return) × (original_return tried ≡ Some back)
came_back tried asked authorized day holidays h = at (original_return tried) (newest_return tried) h where
  judged : Option Return → Option Return → Result (Unit {0}) Refusal
  judged original newest = first_refusal (retry_rows (length tried) original newest asked authorized day holidays)

  at : (original newest : Option Return) → judged original newest ≡ Ok tt → (back : Return) × (original ≡ Some back)
  at (Some back) newest h = (back, refl)
  at None newest h = absurd (cc)

-- a returned entry had settled
back_settled : (on : Option ℕ) (t : Option TakenReturn) (others : List EntryState) (back : Return) → original_return (filter_map attempt_of (state_from false on t ∷ others)) ≡ Some back → (day : ℕ) × (on ≡ Some day)
back_settled None t others back h = absurd (cc)
back_settled (Some day) t others back h = (day, refl)

-- a submission that is not a retry does not lapse
pub plain_stands : (P : List Event) (a : AcceptedSubmission) → a.retry ≡ None → IsLinked P a → has_lapsed P a ≡ false
plain_stands P a plain linked = rw no_original (never (decision P a.place)) where
  unlinked : (retry : Option Retry) → retry ≡ None → IsLinkedTo P a retry → a.original ≡ None
  unlinked None e h = h
  unlinked (Some r) e h = cc

  no_original : a.original ≡ None
  no_original = unlinked a.retry plain linked

  never : (o : Option ℕ) → is_too_late o None ≡ false
  never None = refl
  never (Some d) = refl

original_decided : (P : List Event) (A : List AcceptedSubmission) (o : Original) (asked : ℕ) (authorized : Option ℕ) (day : ℕ) (holidays : List ℕ) → o.accepted.retry ≡ None → IsLinked P o.accepted
    → retry_verdict (attempts P A o) asked authorized day holidays ≡ Ok tt → (on : ℕ) × (decision P o.accepted.place ≡ Some on)
original_decided P A o asked authorized day holidays plain linked may =
    let back = came_back (attempts P A o) asked authorized day holidays may in
    let stands = plain_stands P o.accepted plain linked in
    let t = return_of P o.accepted.content.reference o.index (settlement_day P o.accepted) in
    let others = map (λ a. state_of P a 1) (retries_of A o.accepted.content.reference o.index) in
    let settles = back_settled (settlement_day P o.accepted) t others back.0 (sym (ap (λ (b : Bool). original_return (filter_map attempt_of (state_from b (settlement_day P o.accepted) t ∷ others))) stands) ∙ back.1) in
    (settles.0, (settled_parts P o.accepted settles.0 settles.1).1)

-- ---- the link of each

named_stays : (e : Event) (P : List Event) (r : Retry) (o : Original) → original_of (submissions P) r ≡ Some o → original_of (submissions (e ∷ P)) r ≡ Some o
named_stays e P r o named =
    let found = (named_parts (submissions P) r o named).found in
    ap (option_and_then (λ a. entry_at a r.index)) (accepted_stays e P r.of o.accepted found ∙ sym found) ∙ named

linked_to_stays : (e : Event) (P : List Event) (a : AcceptedSubmission) (retry : Option Retry) → IsLinkedTo P a retry → IsLinkedTo (e ∷ P) a retry
linked_to_stays e P a None h = h
linked_to_stays e P a (Some r) h = record {
  original = h.original;
  named = named_stays e P r h.original h.named;
  earlier = h.earlier;
  place = h.place;
  content = h.content;
  on = h.on;
  settles = decided_stays e P h.original.accepted.place h.on h.settles;
}

pub linked_stays : (e : Event) (P : List Event) (a : AcceptedSubmission) → IsLinked P a → IsLinked (e ∷ P) a
linked_stays e P a h = linked_to_stays e P a a.retry h

linked_new : (P : List Event) (r : Request) (a : AcceptedSubmission) → All (IsLinked P) (submissions P) → IsNew P (submissions P) r a → IsLinked P a
linked_new P (request.Submit d) a before new = subst (IsLinked P) (sym new.is) refl
linked_new P (request.Retry d) a before new =
    let A = submissions P in
    let o = new.original in
    let named = named_parts A new.retry o new.named in
    let within = found_holds (λ (a : AcceptedSubmission). a.order ≤ length A) (is_called new.retry.of) A o.accepted (orders_within P) named.found in
    let linked = found_holds (IsLinked P) (is_called new.retry.of) A o.accepted before named.found in
    let settles = original_decided P A o new.retry.day new.retry.authorized new.today _ named.plain linked new.may in
    subst (IsLinked P) (sym new.is)
    (record { original = o; named = new.named; earlier = omega (arith, within); place = refl; content = refl; on = settles.0; settles = settles.1 })
linked_new P (request.LookUp reference) a before new = absurd new
linked_new P request.Returns a before new = absurd new
linked_new P request.Changes a before new = absurd new
linked_new P request.Statement a before new = absurd new
linked_new P request.Rates a before new = absurd new
linked_new P request.Exposure a before new = absurd new

pub originals : (P : List Event) → All (IsLinked P) (submissions P)
originals = by_growing (λ P. All (IsLinked P) (submissions P)) (All-nil (IsLinked []))
    (λ e P same before. subst (All (IsLinked (e ∷ P))) (sym same) (All-weaker (IsLinked P) (IsLinked (e ∷ P)) (linked_stays e P) (submissions P) before))
    (λ P r more before. subst (All (IsLinked (Asked r ∷ P))) (sym more.is)
    (All-push (IsLinked (Asked r ∷ P)) (submissions P) more.added
    (All-weaker (IsLinked P) (IsLinked (Asked r ∷ P)) (linked_stays (Asked r) P) (submissions P) before)
    (linked_stays (Asked r) P more.added (linked_new P r more.added before more.from))))

pub accepted_in_order : AcceptedInOrder
accepted_in_order = record { orders = orders; references = references; places = places; sizes = sizes; originals = originals }
