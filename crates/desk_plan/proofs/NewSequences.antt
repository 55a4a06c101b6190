-- A desk whose n-th entry has sequence n uses none twice.
use Rattle.std.proofs.Common.{◌≡◌, ℕ, zero, suc, ◌+◌, ◌<◌, ◌≤◌, List, [], ◌∷◌, ◌++◌, length, map, reverse, Bool, true, Some, None, refl, sym, ap, subst, ◌∙◌, arith, All, sum_by, option_map, Option, if◌then◌else◌}
use Rattle.std.specs.List.{range_with_len, list_all, AllByRecursion}
use Rattle.std.proofs.lemmas.Bool.{le-leb, and_from, eq-eqb, ne_eqb}
use Rattle.std.proofs.lemmas.List.{map_push, reverse-append, same_from_push}
use Rattle.std.proofs.lemmas.List.Elements.{All-from_recursion}
use Rattle.std.proofs.lemmas.List.Sums.{sum_by-cons}
use Rattle.desk_plan.specs.declared.batch.Batch.{Batch}
use Rattle.desk_plan.specs.Reuse.{is_past, youngest, may_use, may_send}
use Rattle.desk_plan.specs.Sequences.{SentSequence, IsNumbered, last_sequence, first_after, first_of, after_batch, after_cut}
use Rattle.ach_fields.specs.Trace.{most_sequence}
use Rattle.desk_plan.proofs.Cuts.{length-after_batch}
use Rattle.desk_plan.proofs.Sending.{entry, one_more}

-- one entry after another
abbrev InOrder : List SentSequence → Type 0
InOrder [] = Unit {0}
InOrder (e ∷ sent) = (e.sequence ≡ length sent + 1) × InOrder sent

range_push : (a n : ℕ) → range_with_len a (suc n) ≡ range_with_len a n ++ (a + n) ∷ []
range_push a zero = let e : a ≡ a + 0 = omega arith in ap (λ m. m ∷ []) e
range_push a (suc n) = let e : a + 1 + n ≡ a + suc n = omega arith in ap (λ (l : List ℕ). a ∷ l) (range_push (a + 1) n ∙ ap (λ m. range_with_len (a + 1) n ++ m ∷ []) e)

sequences_push : (e : SentSequence) (sent : List SentSequence) → map (λ e. e.sequence) (reverse (e ∷ sent)) ≡ map (λ e. e.sequence) (reverse sent) ++ e.sequence ∷ []
sequences_push e sent = ap (map (λ (e : SentSequence). e.sequence)) (reverse-append (e ∷ []) sent) ∙ map_push (λ (e : SentSequence). e.sequence) (reverse sent) e

in_order : (sent : List SentSequence) → map (λ e. e.sequence) (reverse sent) ≡ range_with_len 1 (length sent) → InOrder sent
in_order [] h = tt
in_order (e ∷ sent) h =
    let parts = same_from_push _ _ _ _ (sym (sequences_push e sent) ∙ h ∙ range_push 1 (length sent)) in
    (omega (arith, parts.1), in_order sent parts.0)

numbered : (sent : List SentSequence) → InOrder sent → map (λ e. e.sequence) (reverse sent) ≡ range_with_len 1 (length sent)
numbered [] h = refl
numbered (e ∷ sent) h =
    let is : e.sequence ≡ 1 + length sent = omega (arith, h.0) in
    sequences_push e sent ∙ (λ i. numbered sent h.1 i ++ is i ∷ []) ∙ sym (range_push 1 (length sent))

last_numbered : (sent : List SentSequence) → InOrder sent → last_sequence sent ≡ length sent
last_numbered [] h = refl
last_numbered (e ∷ sent) h = let is : e.sequence ≡ length sent + 1 = h.0 in omega arith

first_new : (sent : List SentSequence) (b : Batch) → InOrder sent → length sent + b.entries ≤ most_sequence → first_of sent b ≡ length sent + 1
first_new sent b h le =
    ap (λ m. first_after m b.entries) (last_numbered sent h)
    ∙ ap (λ (t : Bool). if t then length sent + 1 else 1) (le-leb (length sent + b.entries) most_sequence le)

new_sequence : (sent : List SentSequence) → InOrder sent → (s : ℕ) → length sent < s → youngest sent s ≡ None
new_sequence [] h s lt = refl
new_sequence (e ∷ sent) h s lt =
    let is : e.sequence ≡ length sent + 1 = h.0 in
    ap (λ (t : Bool). if t then Some e else youngest sent s) (ne_eqb e.sequence s (λ x. omega (arith, x, is, lt)))
    ∙ new_sequence sent h.1 s (omega arith)

all_new : (day : ℕ) (sent : List SentSequence) → InOrder sent → (f n : ℕ) → length sent < f → list_all (may_use day sent) (range_with_len f n) ≡ true
all_new day sent h f zero lt = refl
all_new day sent h f (suc n) lt =
    and_from _ _ (ap (λ (o : Option SentSequence). is_past day (option_map (λ e. e.settled) o)) (new_sequence sent h f lt)) (all_new day sent h (f + 1) n (omega arith))

order_after : (on f n : ℕ) (sent : List SentSequence) → InOrder sent → f ≡ length sent + 1 → InOrder (reverse (map (entry on) (range_with_len f n)) ++ sent)
order_after on f zero sent h e = h
order_after on f (suc n) sent h e =
    subst InOrder (sym (one_more on f (range_with_len (f + 1) n) sent)) (order_after on (f + 1) n (entry on f ∷ sent) (e, h) (omega arith))

record Unused (day : ℕ) (sent : List SentSequence) (batches : List Batch) : Type 0 where
  may : may_send day sent batches ≡ true
  order : InOrder (after_cut sent batches)

unused : (day : ℕ) (sent : List SentSequence) (batches : List Batch) → InOrder sent → length sent + sum_by (λ b. b.entries) batches ≤ most_sequence → Unused day sent batches
unused day sent [] h le = record { may = refl; order = h }
unused day sent (b ∷ batches) h le =
    let sum = sum_by-cons (λ (b : Batch). b.entries) b batches in
    let first = first_new sent b h (omega (arith, sum)) in
    let rest = unused day (after_batch sent b) batches (order_after b.settled (first_of sent b) b.entries sent h first) (omega (arith, sum, length-after_batch sent b)) in
    record { may = and_from _ _ (all_new day sent h (first_of sent b) b.entries (omega (arith, first))) rest.may; order = rest.order }

pub may_send-new : (day : ℕ) (sent : List SentSequence) (batches : List Batch) → IsNumbered sent → length sent + sum_by (λ b. b.entries) batches ≤ most_sequence → may_send day sent batches ≡ true
may_send-new day sent batches h le = (unused day sent batches (in_order sent h.in_order) le).may

pub IsNumbered-after_cut : (sent : List SentSequence) (batches : List Batch) → IsNumbered sent → length sent + sum_by (λ b. b.entries) batches ≤ most_sequence → IsNumbered (after_cut sent batches)
IsNumbered-after_cut sent batches h le = record { in_order = numbered _ (unused 0 sent batches (in_order sent h.in_order) le).order }

-- there a sequence names its one entry
not_above : (xs : List SentSequence) (n : ℕ) → AllByRecursion (λ x. x.sequence ≤ n) xs → AllByRecursion (λ x. x.sequence ≤ n + 1) xs
not_above [] n h = tt
not_above (x ∷ xs) n h = (let le = h.0 in omega arith, not_above xs n h.1)

all_below : (sent : List SentSequence) → InOrder sent → AllByRecursion (λ x. x.sequence ≤ length sent) sent
all_below [] h = tt
all_below (e ∷ sent) h =
    let is : e.sequence ≡ length sent + 1 = h.0 in
    let behind : length sent + 1 ≡ suc (length sent) = omega arith in
    (omega arith, subst (λ n. AllByRecursion (λ (x : SentSequence). x.sequence ≤ n) sent) behind (not_above sent (length sent) (all_below sent h.1)))

still_named : (e : SentSequence) (sent xs : List SentSequence) → e.sequence ≡ length sent + 1 → AllByRecursion (λ x. x.sequence ≤ length sent) xs → AllByRecursion (λ x. youngest sent x.sequence ≡ Some x) xs → AllByRecursion (λ x. youngest (e ∷ sent) x.sequence ≡ Some x) xs
still_named e sent [] is below h = tt
still_named e sent (x ∷ xs) is below h = (
  ap (λ (t : Bool). if t then Some e else youngest sent x.sequence) (ne_eqb e.sequence x.sequence (λ y. let le = below.0 in omega (arith, y, is))) ∙ h.0,
  still_named e sent xs is below.1 h.1,
)

each_named : (sent : List SentSequence) → InOrder sent → AllByRecursion (λ x. youngest sent x.sequence ≡ Some x) sent
each_named [] h = tt
each_named (e ∷ sent) h = (
  ap (λ (t : Bool). if t then Some e else youngest sent e.sequence) (eq-eqb e.sequence e.sequence refl),
  still_named e sent sent h.0 (all_below sent h.1) (each_named sent h.1),
)

pub all_named : (sent : List SentSequence) → IsNumbered sent → All (λ e. youngest sent e.sequence ≡ Some e) sent
all_named sent h = All-from_recursion (λ e. youngest sent e.sequence ≡ Some e) sent (each_named sent (in_order sent h.in_order))
