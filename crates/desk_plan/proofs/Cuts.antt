-- The entries that a cut adds to the sent ones.
use Rattle.std.proofs.Common.{◌≡◌, ℕ, ◌+◌, List, [], ◌∷◌, ◌++◌, length, map, reverse, refl, sym, ap, ◌∙◌, arith, append_assoc, length-append, All, sum_by, flat_map, zip}
use Rattle.std.specs.List.{AllByRecursion}
use Rattle.std.proofs.lemmas.List.{length-reverse, reverse-append}
use Rattle.std.proofs.lemmas.List.Elements.{All-from_recursion, recursion_from_All}
use Rattle.std.proofs.lemmas.List.FromFn.{length-map-range_with_len}
use Rattle.std.proofs.lemmas.List.Sums.{sum_by-cons}
use Rattle.desk_plan.specs.declared.batch.Batch.{Batch}
use Rattle.desk_plan.specs.Batch.{IsBatch, IsEntryCount}
use Rattle.desk_plan.specs.Sequences.{SentSequence, IsRange, range_after, ranges, ranges_of, first_of, entries_from, after_batch, after_cut}
use Rattle.desk_plan.proofs.Ranges.{IsRange-range_after}
use Rattle.desk_plan.proofs.Sending.{entry, last_after}

abbrev entries_of : List (ℕ × ℕ) → List Batch → List SentSequence
entries_of ranges batches = flat_map (λ x. entries_from x.0.0 x.1) (zip ranges batches)

cut_entries : (sent : List SentSequence) (batches : List Batch) → AllByRecursion IsBatch batches → after_cut sent batches ≡ reverse (entries_of (ranges_of sent batches) batches) ++ sent
cut_entries sent [] all = refl
cut_entries sent (b ∷ batches) all =
    let first = entries_from (first_of sent b) b in
    let rest = entries_of (ranges_of (after_batch sent b) batches) batches in
    cut_entries (after_batch sent b) batches all.1
    ∙ sym (append_assoc (reverse rest) (reverse first) sent)
    ∙ ap (λ (l : List SentSequence). l ++ sent) (sym (reverse-append first rest))
    ∙ ap (λ m. reverse (first ++ entries_of (ranges m (map (λ (b : Batch). b.entries) batches)) batches) ++ sent) (last_after sent b all.0.entries.0)

pub after_cut-entries : (sent : List SentSequence) (batches : List Batch) → All IsBatch batches → after_cut sent batches ≡ reverse (flat_map (λ x. entries_from x.0.0 x.1) (zip (ranges_of sent batches) batches)) ++ sent
after_cut-entries sent batches all = cut_entries sent batches (recursion_from_All IsBatch batches all)

pub length-after_batch : (sent : List SentSequence) (b : Batch) → length (after_batch sent b) ≡ length sent + b.entries
length-after_batch sent b =
    let entries = entries_from (first_of sent b) b in
    let more : length (reverse entries) ≡ b.entries = length-reverse entries ∙ length-map-range_with_len (entry b.settled) (first_of sent b) b.entries in
    omega (arith, length-append (reverse entries) sent, more)

pub length-after_cut : (sent : List SentSequence) (batches : List Batch) → length (after_cut sent batches) ≡ length sent + sum_by (λ b. b.entries) batches
length-after_cut sent [] = omega arith
length-after_cut sent (b ∷ batches) =
    omega (arith, length-after_cut (after_batch sent b) batches, length-after_batch sent b, sum_by-cons (λ (b : Batch). b.entries) b batches)

each_range : (last : ℕ) (counts : List ℕ) → AllByRecursion IsEntryCount counts → AllByRecursion IsRange (ranges last counts)
each_range last [] h = tt
each_range last (n ∷ counts) h = (IsRange-range_after last n h.0, each_range (range_after last n).1 counts h.1)

pub ranges_within : (last : ℕ) (counts : List ℕ) → All IsEntryCount counts → All IsRange (ranges last counts)
ranges_within last counts h = All-from_recursion IsRange (ranges last counts) (each_range last counts (recursion_from_All IsEntryCount counts h))
