-- The sequences that the entries of a cut take.
use Rattle.std.proofs.Common.{◌≡◌, ◌≢◌, ℕ, ◌+◌, ◌-◌, ◌<◌, ◌≤◌, List, [], ◌∷◌, map, length, true, false, not, sym, subst, ◌∙◌, arith, zip}
use Rattle.std.specs.List.{flat_map, list_any, enumerate_from, AllByRecursion}
use Rattle.std.proofs.lemmas.Bool.{le-leb, and_from, and_parts, or_parts, not-true, false≢true}
use Rattle.std.proofs.lemmas.List.Elements.{All-nil, All-cons, All-head}
use Rattle.desk_plan.specs.Batch.{IsEntryCount}
use Rattle.desk_plan.specs.Laws.{SentByCut}
use Rattle.desk_plan.specs.Sequences.{IsRange, range_after, ranges, meets, are_apart}
use Rattle.ach_fields.specs.Trace.{most_sequence}
use Rattle.desk_rules.specs.declared.bodies.submission.Entry.{Entry}
use Rattle.desk_history.specs.declared.sent_entry.SentEntry.{SentEntry}
use Rattle.desk_history.specs.Sendings.{Sending, NumberedBatch, entries_in, plan_of, sent_entry, batch_entries, batch_of}
use Rattle.desk_history.proofs.Basics.Apart.{AreApart, apart-append}
use Rattle.desk_history.proofs.Basics.Each.{each-map, each-weaker, each-append}

-- the numbers of entries, and the batches after a last sequence
abbrev pub counts : List Sending → List ℕ
counts ss = map (λ b. b.entries) (map plan_of ss)

abbrev pub batches_behind : ℕ → List Sending → List NumberedBatch
batches_behind last ss = map batch_of (zip (ranges last (counts ss)) ss)

abbrev pub IsCounted : Sending → Type 0
IsCounted s = IsEntryCount (length (entries_in s))

abbrev pub IsSequence : SentEntry → Type 0
IsSequence e = (1 ≤ e.sequence) × (e.sequence ≤ most_sequence)

abbrev pub Differ : SentEntry → SentEntry → Type 0
Differ a b = a.sequence ≢ b.sequence

abbrev IsIn : ℕ × ℕ → SentEntry → Type 0
IsIn r e = (r.0 ≤ e.sequence) × (e.sequence ≤ r.1)

-- ---- the entries of one batch

-- a number in a range of this length
abbrev IsAmong : ℕ → ℕ → ℕ × Entry → Type 0
IsAmong first count x = (first ≤ x.0) × (x.0 < first + count)

numbers_within : (k : ℕ) (es : List Entry) → AllByRecursion (IsAmong k (length es)) (enumerate_from k es)
numbers_within k [] = tt
numbers_within k (e ∷ es) = (
  (omega arith, omega arith),
  each-weaker (IsAmong (k + 1) (length es)) (IsAmong k (length (e ∷ es))) (λ x h. further x.0 h.0 h.1) (enumerate_from (k + 1) es) (numbers_within (k + 1) es),
)
  where
    further : (n : ℕ) → k + 1 ≤ n → n < k + 1 + length es → (k ≤ n) × (n < k + length (e ∷ es))
    further n low high = (omega arith, omega arith)

-- the range that a submission takes after a last sequence, and its batch
abbrev range_of : ℕ → Sending → ℕ × ℕ
range_of last s = range_after last (length (entries_in s))

abbrev batch_behind : ℕ → Sending → NumberedBatch
batch_behind last s = batch_of (range_of last s, s)

batch_in_range : (last : ℕ) (s : Sending) → AllByRecursion (IsIn (range_of last s)) (batch_entries (batch_behind last s))
batch_in_range last s =
    let r = range_of last s in
    let count = length (entries_in s) in
    each-map (IsIn r) (λ x. sent_entry (batch_behind last s) x.0 x.1) (enumerate_from 1 (entries_in s))
    (each-weaker (IsAmong 1 count) _ (λ x h. at r.0 count x.0 h.0 h.1) (enumerate_from 1 (entries_in s)) (numbers_within 1 (entries_in s)))
  where
    at : (first count n : ℕ) → 1 ≤ n → n < 1 + count → (first ≤ first + (n - 1)) × (first + (n - 1) ≤ first + count - 1)
    at first count n low high = (omega arith, omega arith)

batch_apart : (b : NumberedBatch) (k : ℕ) (es : List Entry) → 1 ≤ k → AreApart Differ (map (λ x. sent_entry b x.0 x.1) (enumerate_from k es))
batch_apart b k [] some = tt
batch_apart b k (e ∷ es) some = (
  each-map (Differ (sent_entry b k e)) (λ x. sent_entry b x.0 x.1) (enumerate_from (k + 1) es)
      (each-weaker (IsAmong (k + 1) (length es)) _ (λ x h. behind b.first k x.0 some h.0) (enumerate_from (k + 1) es) (numbers_within (k + 1) es)),
  batch_apart b (k + 1) es (omega arith),
)
  where
    behind : (first k n : ℕ) → 1 ≤ k → k + 1 ≤ n → first + (k - 1) ≢ first + (n - 1)
    behind first k n some low same = omega arith

-- ---- those of all batches

range_is : SentByCut → (last n : ℕ) → IsEntryCount n → IsRange (range_after last n)
range_is law last n h = All-head IsRange (range_after last n) [] (law.within last (n ∷ []) (All-cons IsEntryCount n [] h (All-nil IsEntryCount)))

pub cut_within : SentByCut → (last : ℕ) (ss : List Sending) → AllByRecursion IsCounted ss
    → AllByRecursion (λ b. AllByRecursion IsSequence (batch_entries b)) (batches_behind last ss)
cut_within law last [] h = tt
cut_within law last (s ∷ ss) h =
    let r = range_of last s in
    let range = range_is law last (length (entries_in s)) h.0 in
    (each-weaker (IsIn r) IsSequence (λ e is. inside r range e is) (batch_entries (batch_behind last s)) (batch_in_range last s), cut_within law r.1 ss h.1)
  where
    inside : (r : ℕ × ℕ) → IsRange r → (e : SentEntry) → IsIn r e → IsSequence e
    inside r range e is =
        let low : r.0 ≤ e.sequence = is.0 in
        let high : e.sequence ≤ r.1 = is.1 in
        let some : 1 ≤ r.0 = range.some in
        let most : r.1 ≤ most_sequence = range.within in
        (omega arith, omega arith)

met : (r q : ℕ × ℕ) (e : SentEntry) → meets r q ≡ false → IsIn q e → IsIn r e → ⊥
met r q e none there here =
    let low : r.0 ≤ e.sequence = here.0 in
    let high : e.sequence ≤ r.1 = here.1 in
    let from : q.0 ≤ e.sequence = there.0 in
    let to : e.sequence ≤ q.1 = there.1 in
    false≢true (sym none ∙ and_from _ _ (le-leb r.0 q.1 (omega arith)) (le-leb q.0 r.1 (omega arith)))

-- no entry of the batches is in a range that meets none of theirs
outside : (r : ℕ × ℕ) (last : ℕ) (ss : List Sending) → list_any (meets r) (ranges last (counts ss)) ≡ false
    → AllByRecursion (λ e. IsIn r e → ⊥) (flat_map batch_entries (batches_behind last ss))
outside r last [] h = tt
outside r last (s ∷ ss) h =
    let q = range_of last s in
    let parts = or_parts (meets r q) (list_any (meets r) (ranges q.1 (counts ss))) h in
    each-append (λ e. IsIn r e → ⊥) (batch_entries (batch_behind last s)) (flat_map batch_entries (batches_behind q.1 ss))
    (each-weaker (IsIn q) (λ e. IsIn r e → ⊥) (λ e is here. met r q e parts.0 is here) (batch_entries (batch_behind last s)) (batch_in_range last s))
    (outside r q.1 ss parts.1)

-- where the ranges are apart, so are the sequences
pub cut_apart : (last : ℕ) (ss : List Sending) → are_apart (ranges last (counts ss)) ≡ true → AreApart Differ (flat_map batch_entries (batches_behind last ss))
cut_apart last [] h = tt
cut_apart last (s ∷ ss) h =
    let r = range_of last s in
    let b = batch_behind last s in
    let behind = flat_map batch_entries (batches_behind r.1 ss) in
    let parts = and_parts (not (list_any (meets r) (ranges r.1 (counts ss)))) (are_apart (ranges r.1 (counts ss))) h in
    let others = outside r r.1 ss (not-true _ parts.0) in
    let differ = λ (e : SentEntry) (is : IsIn r e). each-weaker (λ f. IsIn r f → ⊥) (Differ e) (λ f out same. out (subst (λ n. (r.0 ≤ n) × (n ≤ r.1)) same is)) behind others in
    apart-append Differ (batch_entries b) behind (batch_apart b 1 (entries_in s) (omega arith)) (cut_apart r.1 ss parts.1)
    (each-weaker (IsIn r) (λ e. AllByRecursion (Differ e) behind) differ (batch_entries b) (batch_in_range last s))
