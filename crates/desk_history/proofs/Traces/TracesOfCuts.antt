-- The trace of each entry of a new cut names it and no other.
use Rattle.std.proofs.Common.{◌≡◌, ℕ, ◌<◌, ◌≤◌, List, [], ◌∷◌, ◌++◌, map, reverse, Bool, true, false, Some, refl, sym, ap, subst, ◌∙◌, arith, find}
use Rattle.std.specs.List.{flat_map, list_all, AllByRecursion}
use Rattle.std.proofs.lemmas.Bool.{and_parts, false_from_ne_true}
use Rattle.std.proofs.lemmas.List.{append_cancel_left, append_cancel_right}
use Rattle.std.proofs.lemmas.List.Elements.{All-from_recursion}
use Rattle.std.proofs.lemmas.Slice.Eq.{bytes_eq-Decides}
use Rattle.ach_fields.specs.Digits.{digits, number}
use Rattle.ach_fields.specs.Laws.{NumbersAndDigits}
use Rattle.ach_fields.specs.Routing.{dfi_of}
use Rattle.ach_fields.specs.Trace.{trace_text}
use Rattle.desk_plan.specs.Batch.{IsBatch}
use Rattle.desk_plan.specs.Laws.{ByRanges, SentByCut}
use Rattle.desk_plan.specs.Reuse.{is_past, latest_settled}
use Rattle.desk_plan.specs.Sequences.{last_sequence, ranges_of, are_apart}
use Rattle.ach_fields.specs.Trace.{most_sequence}
use Rattle.desk_history.specs.declared.identity.Identity.{Identity}
use Rattle.desk_history.specs.declared.sent_entry.SentEntry.{SentEntry}
use Rattle.desk_history.specs.Message.{Pair, is_accepted}
use Rattle.desk_history.specs.Sendings.{plan_of, sent_sequence, batch_entries, batches}
use Rattle.desk_history.specs.Resolve.{has_trace}
use Rattle.desk_history.specs.History.{companies, part, sent_entries, sent_entries_after}
use Rattle.desk_history.specs.Files.{cut_sendings}
use Rattle.desk_history.specs.SentLaws.{IsAcceptedCut, TracesOfCuts}
use Rattle.desk_history.proofs.Traces.AcceptedCuts.{accepted_cuts}
use Rattle.desk_history.proofs.Basics.Apart.{AreApart, apart-weaker, each_found}
use Rattle.desk_history.proofs.Traces.CutBatches.{sends_are_batches}
use Rattle.desk_history.proofs.Traces.CutSequences.{IsCounted, IsSequence, Differ, cut_within, cut_apart}
use Rattle.desk_history.proofs.Basics.Each.{each-flat_map, each-map, each-reverse, each-weaker}
use Rattle.desk_history.proofs.Traces.SentWith.{each-sent_with, sent_after-keeps}
use Rattle.desk_history.proofs.Traces.SettlesAfter.{sends_after}

-- ---- traces and sequences

pub same_sequence : NumbersAndDigits → (dfi a b : ℕ) → a ≤ most_sequence → b ≤ most_sequence → trace_text dfi a ≡ trace_text dfi b → a ≡ b
unfolding trace_text
same_sequence law dfi a b few less same =
    let digits_same = append_cancel_left (digits 8 dfi) (digits 7 a) (digits 7 b) same in
    sym (law.read 7 a (omega arith)) ∙ ap number digits_same ∙ law.read 7 b (omega arith)

-- whether an entry has the trace of another
abbrev has_trace_of : List ℕ → SentEntry → SentEntry → Bool
has_trace_of odfi a b = has_trace odfi (trace_text (dfi_of odfi) a.sequence) b

itself : (odfi : List ℕ) (e : SentEntry) → has_trace_of odfi e e ≡ true
itself odfi e = (bytes_eq-Decides (trace_text (dfi_of odfi) e.sequence) (trace_text (dfi_of odfi) e.sequence)).1 refl

others : NumbersAndDigits → (odfi : List ℕ) (a b : SentEntry) → IsSequence a → IsSequence b → Differ a b → has_trace_of odfi a b ≡ false
others law odfi a b first second differ =
    false_from_ne_true _ (λ has. differ (sym (same_sequence law (dfi_of odfi) b.sequence a.sequence second.1 first.1
    ((bytes_eq-Decides (trace_text (dfi_of odfi) b.sequence) (trace_text (dfi_of odfi) a.sequence)).0 has))))

-- ---- the sequences that were used

sends_counted : (odfi : List ℕ) (H : List Pair) → AllByRecursion IsCounted (cut_sendings odfi H)
sends_counted odfi H = each-weaker (λ s. IsBatch (plan_of s)) IsCounted (λ s batch. batch.entries) (cut_sendings odfi H) (sends_are_batches odfi H)

cut_sequences : SentByCut → (odfi : List ℕ) (H : List Pair) → AllByRecursion (λ b. AllByRecursion IsSequence (batch_entries b)) (batches (sent_entries odfi H) (cut_sendings odfi H))
cut_sequences law odfi H = cut_within law (last_sequence (map sent_sequence (sent_entries odfi H))) (cut_sendings odfi H) (sends_counted odfi H)

sequences : SentByCut → (odfi : List ℕ) (H : List Pair) → AllByRecursion IsSequence (sent_entries odfi H)
sequences law odfi [] = tt
sequences law odfi (x ∷ H) =
    sent_after-keeps (AllByRecursion IsSequence) (is_accepted x.answer) x.message (sent_entries odfi H) (part odfi H) (companies H) (sequences law odfi H)
    (λ _ _. each-sent_with IsSequence (sent_entries odfi H) (cut_sendings odfi H) (sequences law odfi H) (cut_sequences law odfi H))

-- ---- the entries of an accepted cut

abbrev new_entries : List ℕ → List Pair → List SentEntry
new_entries odfi H = flat_map batch_entries (batches (sent_entries odfi H) (cut_sendings odfi H))

sent_by_cut : (identity : Identity) (H : List Pair) (x : Pair) → IsAcceptedCut identity H x → sent_entries identity.odfi (x ∷ H) ≡ reverse (new_entries identity.odfi H) ++ sent_entries identity.odfi H
sent_by_cut identity H x cut =
    let odfi = identity.odfi in
    λ i. sent_entries_after (cut.accepted i) (cut.message i) (sent_entries odfi H) (part odfi H) (companies H)

new_differ : ByRanges → (identity : Identity) (H : List Pair) (x : Pair) → IsAcceptedCut identity H x → AreApart Differ (new_entries identity.odfi H)
new_differ law identity H x cut =
    let odfi = identity.odfi in
    let before = map sent_sequence (sent_entries odfi H) in
    let plans = map plan_of (cut_sendings odfi H) in
    let made = accepted_cuts identity H x cut in
    let all = All-from_recursion IsBatch plans (each-map IsBatch plan_of (cut_sendings odfi H) (sends_are_batches odfi H)) in
    let later = All-from_recursion (λ b. made.0 < b.settled) plans (each-map (λ b. made.0 < b.settled) plan_of (cut_sendings odfi H) (sends_after odfi H made.0 made.1.on)) in
    let apart = and_parts (are_apart (ranges_of before plans)) (list_all (λ r. is_past made.0 (latest_settled before r)) (ranges_of before plans)) (sym (law made.0 before plans all later) ∙ made.1.free) in
    cut_apart (last_sequence before) (cut_sendings odfi H) apart.0

new_named : NumbersAndDigits → SentByCut → ByRanges → (identity : Identity) (H : List Pair) (x : Pair) → IsAcceptedCut identity H x
    → AllByRecursion (λ e. find (has_trace_of identity.odfi e) (sent_entries identity.odfi (x ∷ H)) ≡ Some e) (reverse (new_entries identity.odfi H))
new_named digits_law sent_law ranges_law identity H x cut =
    let odfi = identity.odfi in
    let new = new_entries odfi H in
    let within = each-flat_map IsSequence batch_entries (batches (sent_entries odfi H) (cut_sendings odfi H)) (cut_sequences sent_law odfi H) in
    let apart = apart-weaker IsSequence Differ (λ a b. has_trace_of odfi a b ≡ false) (others digits_law odfi) new within (new_differ ranges_law identity H x cut) in
    each-reverse (λ e. find (has_trace_of odfi e) (sent_entries odfi (x ∷ H)) ≡ Some e) new
    (subst (λ (l : List SentEntry). AllByRecursion (λ e. find (has_trace_of odfi e) l ≡ Some e) new) (sym (sent_by_cut identity H x cut))
    (each_found (has_trace_of odfi) (itself odfi) new (sent_entries odfi H) apart))

pub traces_of_cuts : NumbersAndDigits → SentByCut → ByRanges → TracesOfCuts
traces_of_cuts digits_law sent_law ranges_law = record {
  within = λ odfi H. All-from_recursion (λ e. (1 ≤ e.sequence) × (e.sequence ≤ most_sequence)) (sent_entries odfi H) (sequences sent_law odfi H);
  named = λ identity H x fresh cut are.
      let odfi = identity.odfi in
      let same : fresh ≡ reverse (new_entries odfi H) = append_cancel_right fresh (reverse (new_entries odfi H)) (sent_entries odfi H) (sym are ∙ sent_by_cut identity H x cut) in
      All-from_recursion (λ e. find (has_trace_of odfi e) (sent_entries odfi (x ∷ H)) ≡ Some e) fresh
      (subst (AllByRecursion (λ e. find (has_trace_of odfi e) (sent_entries odfi (x ∷ H)) ≡ Some e)) (sym same) (new_named digits_law sent_law ranges_law identity H x cut));
}
