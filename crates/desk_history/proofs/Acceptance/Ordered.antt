-- Facts about everything accepted: order, references, places and sizes.
use Rattle.std.proofs.Common.{◌≡◌, ◌≢◌, ◌≤◌, ℕ, ◌+◌, ◌-◌, List, [], ◌∷◌, ◌++◌, length, map, Bool, true, false, refl, sym, subst, ap, ◌∙◌, inl, inr, if◌then◌else◌, arith, All, AllPairs, Option, Some, None, find, slice_get}
use Rattle.std.specs.List.{range_with_len}
use Rattle.std.proofs.lemmas.Bool.{false≢true}
use Rattle.std.proofs.lemmas.List.{map-append, map-id, length_push}
use Rattle.std.proofs.lemmas.List.Elements.{All-nil, All-cons, All-push, All-weaker}
use Rattle.std.proofs.lemmas.List.Folds.{find-append}
use Rattle.std.proofs.lemmas.List.FromFn.{map-range_with_len_more}
use Rattle.std.proofs.lemmas.List.Quantifiers.{all_pairs_push}
use Rattle.std.proofs.lemmas.List.Sums.{get_or-le-sum_by, sum_by-cons}
use Rattle.std.proofs.lemmas.Option.{slice_get_within, get_or_from_slice_get}
use Rattle.std.proofs.lemmas.Slice.Eq.{bytes_eq-Decides}
use Rattle.desk_rules.specs.declared.bodies.submission.Entry.{Entry}
use Rattle.desk_rules.specs.declared.bodies.submission.Retry.{Retry}
use Rattle.desk_rules.specs.declared.bodies.submission.Submission.{Submission}
use Rattle.desk_rules.specs.Size.{total_of}
use Rattle.desk_history.specs.Request as request
use Rattle.desk_history.specs.Request.{Request}
use Rattle.desk_history.specs.Part.{Event, DaySet, HolidaysSet, Registered, Limited, Asked, CutMade, Returned, Changed}
use Rattle.desk_history.specs.State.{Place}
use Rattle.desk_history.specs.Accepted.{AcceptedSubmission, is_called, next_submission}
use Rattle.desk_history.specs.Acceptance.{submissions}
use Rattle.desk_history.specs.Reports.{submission_under}
use Rattle.desk_history.specs.AcceptedLaws.{IsPlaced, IsSized}
use Rattle.desk_history.proofs.Acceptance.Growing.{Grows, IsNew, grows_or_stays, found_holds, accepted_stays}
use Rattle.desk_history.proofs.Acceptance.Named.{named_parts, submission_some, size_parts}

-- A fact of the empty part that survives events which accept nothing, and one more acceptance, holds after all events.
pub by_growing : (Q : List Event → Type 0) → Q []
    → ((e : Event) (P : List Event) → submissions (e ∷ P) ≡ submissions P → Q P → Q (e ∷ P))
    → ((P : List Event) (r : Request) → Grows P (submissions P) r → Q P → Q (Asked r ∷ P))
    → (P : List Event) → Q P
by_growing Q none stays grows [] = none
by_growing Q none stays grows (Asked r ∷ P) = elim (grows_or_stays P (submissions P) r) [
  | inl same ↦ stays (Asked r) P same (by_growing Q none stays grows P)
  | inr more ↦ grows P r more (by_growing Q none stays grows P)
]
by_growing Q none stays grows (DaySet d ∷ P) = stays (DaySet d) P refl (by_growing Q none stays grows P)
by_growing Q none stays grows (HolidaysSet days ∷ P) = stays (HolidaysSet days) P refl (by_growing Q none stays grows P)
by_growing Q none stays grows (Registered name digest l ∷ P) = stays (Registered name digest l) P refl (by_growing Q none stays grows P)
by_growing Q none stays grows (Limited l ∷ P) = stays (Limited l) P refl (by_growing Q none stays grows P)
by_growing Q none stays grows (CutMade ∷ P) = stays CutMade P refl (by_growing Q none stays grows P)
by_growing Q none stays grows (Returned r i code information ∷ P) = stays (Returned r i code information) P refl (by_growing Q none stays grows P)
by_growing Q none stays grows (Changed r i code text ∷ P) = stays (Changed r i code text) P refl (by_growing Q none stays grows P)

-- the new one comes next
pub record IsNext (P : List Event) (A : List AcceptedSubmission) (a : AcceptedSubmission) : Type 0 where
  pub content : Submission
  pub retry : Option Retry
  pub original : Option Place
  pub is : a ≡ next_submission P A content retry original

pub next_of : (P : List Event) (A : List AcceptedSubmission) (r : Request) (a : AcceptedSubmission) → IsNew P A r a → IsNext P A a
next_of P A (request.Submit d) a new = record { content = new.content; retry = None; original = None; is = new.is }
next_of P A (request.Retry d) a new = record { content = _; retry = Some new.retry; original = Some new.original.accepted.place; is = new.is }
next_of P A (request.LookUp reference) a new = absurd new
next_of P A request.Returns a new = absurd new
next_of P A request.Changes a new = absurd new
next_of P A request.Statement a new = absurd new
next_of P A request.Rates a new = absurd new
next_of P A request.Exposure a new = absurd new

-- ---- orders

more_numbers : (n : ℕ) → range_with_len 1 n ++ (n + 1) ∷ [] ≡ range_with_len 1 (n + 1)
more_numbers n = sym (sym (map-id (range_with_len 1 (n + 1))) ∙ map-range_with_len_more (λ x. x) 1 n (n + 1) (omega arith) ∙ ap (λ (xs : List ℕ). xs ++ (n + 1) ∷ []) (map-id (range_with_len 1 n)))

ordered_push : (A : List AcceptedSubmission) (a : AcceptedSubmission) → a.order ≡ length A + 1 → map (λ a. a.order) A ≡ range_with_len 1 (length A) → map (λ a. a.order) (A ++ a ∷ []) ≡ range_with_len 1 (length (A ++ a ∷ []))
ordered_push A a next before =
    map-append (λ (a : AcceptedSubmission). a.order) A (a ∷ [])
    ∙ (λ i. before i ++ next i ∷ [])
    ∙ more_numbers (length A)
    ∙ ap (range_with_len 1) (sym (length_push A a))

pub orders : (P : List Event) → map (λ a. a.order) (submissions P) ≡ range_with_len 1 (length (submissions P))
orders = by_growing (λ P. map (λ a. a.order) (submissions P) ≡ range_with_len 1 (length (submissions P))) refl
    (λ e P same before. subst (λ (A : List AcceptedSubmission). map (λ a. a.order) A ≡ range_with_len 1 (length A)) (sym same) before)
    (λ P r more before. subst (λ (A : List AcceptedSubmission). map (λ a. a.order) A ≡ range_with_len 1 (length A)) (sym more.is)
    (ordered_push (submissions P) more.added (ap (λ (a : AcceptedSubmission). a.order) (next_of P (submissions P) r more.added more.from).is) before))

-- no order is past the number of them
pub orders_within : (P : List Event) → All (λ a. a.order ≤ length (submissions P)) (submissions P)
orders_within = by_growing (λ P. All (λ a. a.order ≤ length (submissions P)) (submissions P)) (All-nil (λ (a : AcceptedSubmission). a.order ≤ 0))
    (λ e P same before. subst (λ (A : List AcceptedSubmission). All (λ a. a.order ≤ length A) A) (sym same) before)
    (λ P r more before. subst (λ (A : List AcceptedSubmission). All (λ a. a.order ≤ length A) A) (sym more.is)
    (pushed (submissions P) more.added (ap (λ (a : AcceptedSubmission). a.order) (next_of P (submissions P) r more.added more.from).is) before))
  where
    pushed : (A : List AcceptedSubmission) (a : AcceptedSubmission) → a.order ≡ length A + 1 → All (λ a. a.order ≤ length A) A → All (λ x. x.order ≤ length (A ++ a ∷ [])) (A ++ a ∷ [])
    pushed A a next before =
        let longer = length_push A a in
        All-push (λ (x : AcceptedSubmission). x.order ≤ length (A ++ a ∷ [])) A a
        (All-weaker (λ (x : AcceptedSubmission). x.order ≤ length A) (λ (x : AcceptedSubmission). x.order ≤ length (A ++ a ∷ [])) (λ x h. omega (arith, h, longer)) A before)
        (omega (arith, next, longer))

-- ---- references

pub none_passes : {X : Type 0} (p : X → Bool) (xs : List X) → find p xs ≡ None → All (λ x. p x ≡ false) xs
none_passes p [] h = All-nil (λ x. p x ≡ false)
none_passes {X = X} p (x ∷ xs) h = at (p x) refl (find p xs) (none_passes p xs) h where
  at : (t : Bool) → p x ≡ t → (o : Option X) → (o ≡ None → All (λ x. p x ≡ false) xs) → (if t then Some x else o) ≡ None → All (λ x. p x ≡ false) (x ∷ xs)
  at true is o rest h = cc
  at false is o rest h = All-cons (λ x. p x ≡ false) x xs is (rest h)

apart_from : (A : List AcceptedSubmission) (a : AcceptedSubmission) → find (is_called a.content.reference) A ≡ None → All (λ x. x.content.reference ≢ a.content.reference) A
apart_from A a new = All-weaker (λ (x : AcceptedSubmission). is_called a.content.reference x ≡ false) (λ (x : AcceptedSubmission). x.content.reference ≢ a.content.reference)
    (λ x not_called same. false≢true (sym not_called ∙ (bytes_eq-Decides x.content.reference a.content.reference).1 same)) A (none_passes (is_called a.content.reference) A new)

pub references : (P : List Event) → AllPairs (λ a b. a.content.reference ≢ b.content.reference) (submissions P)
references = by_growing (λ P. AllPairs (λ a b. a.content.reference ≢ b.content.reference) (submissions P)) (λ i j d before within. omega arith)
    (λ e P same before. subst (AllPairs (λ a b. a.content.reference ≢ b.content.reference)) (sym same) before)
    (λ P r more before. subst (AllPairs (λ a b. a.content.reference ≢ b.content.reference)) (sym more.is)
    (all_pairs_push (λ (a b : AcceptedSubmission). a.content.reference ≢ b.content.reference) (submissions P) more.added before (apart_from (submissions P) more.added more.new)))

-- each is found by its reference
abbrev pub IsFound : List Event → AcceptedSubmission → Type 0
IsFound P a = submission_under P a.content.reference ≡ Some a

found_next : (A : List AcceptedSubmission) (a : AcceptedSubmission) → find (is_called a.content.reference) A ≡ None → find (is_called a.content.reference) (A ++ a ∷ []) ≡ Some a
found_next A a new =
    let own : is_called a.content.reference a ≡ true = (bytes_eq-Decides a.content.reference a.content.reference).1 refl in
    find-append (is_called a.content.reference) A (a ∷ []) ∙ rw (new, own) refl

pub found_each : (P : List Event) → All (IsFound P) (submissions P)
found_each = by_growing (λ P. All (IsFound P) (submissions P)) (All-nil (IsFound []))
    (λ e P same before. subst (All (IsFound (e ∷ P))) (sym same) (kept e P before))
    (λ P r more before. subst (All (IsFound (Asked r ∷ P))) (sym more.is)
    (All-push (IsFound (Asked r ∷ P)) (submissions P) more.added (kept (Asked r) P before)
    (ap (find (is_called more.added.content.reference)) more.is ∙ found_next (submissions P) more.added more.new)))
  where
    kept : (e : Event) (P : List Event) → All (IsFound P) (submissions P) → All (IsFound (e ∷ P)) (submissions P)
    kept e P before = All-weaker (IsFound P) (IsFound (e ∷ P)) (λ a. accepted_stays e P a.content.reference a) (submissions P) before

-- ---- places

placed_later : (P : List Event) (e : Event) (a : AcceptedSubmission) → IsPlaced (length P) a → IsPlaced (length (e ∷ P)) a
placed_later P e a h = record { before = omega (arith, h.before); debit = h.debit; asked = h.asked }

placed_next : (P : List Event) (e : Event) (A : List AcceptedSubmission) (a : AcceptedSubmission) → IsNext P A a → IsPlaced (length (e ∷ P)) a
placed_next P e A a next = subst (IsPlaced (length (e ∷ P))) (sym next.is) (record { before = omega arith; debit = refl; asked = refl })

pub places : (P : List Event) → All (IsPlaced (length P)) (submissions P)
places = by_growing (λ P. All (IsPlaced (length P)) (submissions P)) (All-nil (IsPlaced 0))
    (λ e P same before. subst (All (IsPlaced (length (e ∷ P)))) (sym same) (All-weaker (IsPlaced (length P)) (IsPlaced (length (e ∷ P))) (placed_later P e) (submissions P) before))
    (λ P r more before. subst (All (IsPlaced (length (Asked r ∷ P)))) (sym more.is)
    (All-push (IsPlaced (length (Asked r ∷ P))) (submissions P) more.added
    (All-weaker (IsPlaced (length P)) (IsPlaced (length (Asked r ∷ P))) (placed_later P (Asked r)) (submissions P) before)
    (placed_next P (Asked r) (submissions P) more.added (next_of P (submissions P) r more.added more.from))))

-- ---- sizes

one_total : (e : Entry) → total_of (e ∷ []) ≡ e.cents
one_total e = sum_by-cons (λ (e : Entry). e.cents) e [] ∙ omega arith

entry_total : (es : List Entry) (k : ℕ) (e : Entry) → slice_get es k ≡ Some e → e.cents ≤ total_of es
entry_total es k e at =
    let most = get_or-le-sum_by (λ (e : Entry). e.cents) es k e (slice_get_within es k e at) in
    rw (get_or_from_slice_get es k e e at) at most

sized_new : (P : List Event) (A : List AcceptedSubmission) (r : Request) (a : AcceptedSubmission) → All IsSized A → IsNew P A r a → IsSized a
sized_new P A (request.Submit d) a before new =
    let size = size_parts new.content new.sized in
    subst IsSized (sym new.is) (record { some = submission_some d new.content new.drafted; few = size.0; total = size.1 })
sized_new P A (request.Retry d) a before new =
    let named = named_parts A new.retry new.original new.named in
    let whole = found_holds IsSized (is_called new.retry.of) A new.original.accepted before named.found in
    let part = entry_total new.original.accepted.content.entries (new.original.index - 1) new.original.entry named.at in
    let one = one_total new.original.entry in
    subst IsSized (sym new.is) (record { some = omega arith; few = omega arith; total = omega (arith, one, part, whole.total) })
sized_new P A (request.LookUp reference) a before new = absurd new
sized_new P A request.Returns a before new = absurd new
sized_new P A request.Changes a before new = absurd new
sized_new P A request.Statement a before new = absurd new
sized_new P A request.Rates a before new = absurd new
sized_new P A request.Exposure a before new = absurd new

pub sizes : (P : List Event) → All IsSized (submissions P)
sizes = by_growing (λ P. All IsSized (submissions P)) (All-nil IsSized)
    (λ e P same before. subst (All IsSized) (sym same) before)
    (λ P r more before. subst (All IsSized) (sym more.is) (All-push IsSized (submissions P) more.added before (sized_new P (submissions P) r more.added before more.from)))
