-- The youngest entry that has a trace is that of its sequence.
use Rattle.std.proofs.Common.{◌≡◌, ℕ, ◌+◌, ◌-◌, ◌≤◌, ◌%◌, Bool, true, false, ◌==◌, List, [], ◌∷◌, map, find, reverse, Option, Some, None, option_map, refl, sym, ap, subst, ◌∙◌, arith, inl, inr, true≢false}
use Rattle.std.specs.Prelude.{◌&&◌, max, filter_map, option_and_then, if◌then◌else◌}
use Rattle.std.specs.Int.{IsInRange}
use Rattle.std.specs.List.{AllByRecursion, range_with_len, reduce}
use Rattle.std.proofs.lemmas.Bool.{cases_Bool, eqb-true, eq-eqb, false_from_ne_true}
use Rattle.std.proofs.lemmas.List.Elements.{recursion_from_All}
use Rattle.std.proofs.lemmas.List.Sorted.{IsPermutation-reverse}
use Rattle.std.proofs.lemmas.Slice.Eq.{bytes_eq-Decides}
use Rattle.sqlite_trees.proofs.ListLemmas.{all-permutation}
use Rattle.sqlite_keyed.proofs.ListLemmas.{all_weaker}
use Rattle.ach_fields.specs.Laws.{NumbersAndDigits}
use Rattle.ach_fields.specs.Routing.{dfi_of}
use Rattle.ach_fields.specs.Trace.{is_trace, trace_text, dfi_in, sequence_in, most_sequence}
use Rattle.ach_fields.proofs.Traces.{trace_text-is_trace}
use Rattle.desk_history.specs.Resolve.{has_trace}
use Rattle.desk_history.specs.Sendings.{sent_sequence}
use Rattle.desk_history.specs.declared.sent_entry.SentEntry.{SentEntry}
use Rattle.desk_plan.specs.Reuse.{youngest_settlement}
use Rattle.desk_book.specs.OnIntake.{traced_entry, with_return}
use Rattle.desk_book.specs.Reads.{latest_settled}
use Rattle.desk_store.specs.Rows.{Rows, flat_book}
use Rattle.desk_store.proofs.Traced.{traced, other_bank, none_found}
use Rattle.sql_tables.specs.Beside.{Beside, IsSentFrom}
use Rattle.sql_tables.specs.Description.{key_cmp}
use Rattle.sql_tables.specs.DeskTables as the
use Rattle.sql_tables.specs.Encodes.{Encodes}
use Rattle.sql_tables.specs.KeyOrders.{IsInOrder}
use Rattle.sql_tables.specs.TableReads.{place_in}
use Rattle.sql_tables.specs.Tables.{Tables}
use Rattle.sql_tables.specs.Composed.{sent_in, traced_in, with_return_in, settled_at, latest_in}
use Rattle.sql_read_laws.proofs.LatestFound.{filter_map_same, filter_map_then, places_of_range, numbers_before}
use Rattle.sql_tables.proofs.Lists.{find_agrees, found_agrees}
use Rattle.sql_read_laws.proofs.ReturnedFound.{returned_found}
use Rattle.sql_read_laws.proofs.SentFound.{sent_found, settled_found}

module _ (t : Tables) (r : Rows) (e : Encodes t r) (rise : IsInOrder (key_cmp the.submissions) t.submissions) (beside : Beside t r) where
  -- sequences have seven digits
  few_digits : AllByRecursion (λ s. s.sequence % 10_000_000 ≡ s.sequence) (reverse r.sent)
  few_digits =
      all-permutation (λ (s : SentEntry). s.sequence % 10_000_000 ≡ s.sequence) r.sent (reverse r.sent) (IsPermutation-reverse r.sent)
      (all_weaker (λ (s : SentEntry). IsInRange 1 most_sequence s.sequence) (λ s. s.sequence % 10_000_000 ≡ s.sequence) (λ s range. omega (arith, range.1)) r.sent
      (recursion_from_All (λ (s : SentEntry). IsInRange 1 most_sequence s.sequence) r.sent beside.sequences))

  sent_traced : NumbersAndDigits → (odfi trace : List ℕ) → dfi_of odfi ≤ 99_999_999 → is_trace trace ≡ true → (if dfi_of odfi == dfi_in trace then sent_in (sequence_in trace) t else None) ≡ find (has_trace odfi trace) (reverse r.sent)
  sent_traced law odfi trace few is = elim (cases_Bool (dfi_of odfi == dfi_in trace)) [
    | inl own ↦
        ap (λ b. if b then sent_in (sequence_in trace) t else None) own
        ∙ sent_found t r e rise beside (sequence_in trace)
        ∙ find_agrees (λ s. s.sequence == sequence_in trace) (has_trace odfi trace) (reverse r.sent)
        (all_weaker (λ (s : SentEntry). s.sequence % 10_000_000 ≡ s.sequence) (λ s. (s.sequence == sequence_in trace) ≡ has_trace odfi trace s)
        (λ s small. ap (λ (n : ℕ). n == sequence_in trace) (sym small) ∙ traced law (dfi_of odfi) s.sequence trace few is (eqb-true (dfi_of odfi) (dfi_in trace) own)) (reverse r.sent) few_digits)
    | inr other ↦
        (let apart : dfi_of odfi ≡ dfi_in trace → ⊥ = (λ same. let e = sym (eq-eqb (dfi_of odfi) (dfi_in trace) same) ∙ other in cc) in
        ap (λ b. if b then sent_in (sequence_in trace) t else None) other
        ∙ sym (none_found (reverse r.sent))
        ∙ (λ i. find (λ s. sym (other_bank law (dfi_of odfi) s.sequence trace few apart) i) (reverse r.sent)))
  ]

  -- whether it came back
  with_return_found : (s : SentEntry) → IsSentFrom r.submissions s → with_return_in t s ≡ with_return (flat_book r) s
  with_return_found s is = ap (λ b. record { entry = s; returned = b }) (returned_found t r e rise beside s is)

  all_sent : AllByRecursion (λ s. with_return_in t s ≡ with_return (flat_book r) s) (reverse r.sent)
  all_sent =
      all-permutation (λ (s : SentEntry). with_return_in t s ≡ with_return (flat_book r) s) r.sent (reverse r.sent) (IsPermutation-reverse r.sent)
      (all_weaker (IsSentFrom r.submissions) (λ s. with_return_in t s ≡ with_return (flat_book r) s) with_return_found r.sent (recursion_from_All (IsSentFrom r.submissions) r.sent beside.sent))

  -- what is no trace is the trace of no entry
  traceless : (odfi text : List ℕ) → is_trace text ≡ false → (es : List SentEntry) → find (has_trace odfi text) es ≡ None
  traceless odfi text none [] = refl
  traceless odfi text none (s ∷ es) = ap (λ b. if b then Some s else find (has_trace odfi text) es) (false_from_ne_true (has_trace odfi text s) other) ∙ traceless odfi text none es
    where
      other : has_trace odfi text s ≡ true → ⊥
      other same = true≢false (sym (subst (λ x. is_trace x ≡ true) ((bytes_eq-Decides (trace_text (dfi_of odfi) s.sequence) text).0 same) (trace_text-is_trace (dfi_of odfi) s.sequence)) ∙ none)

  pub traced_found : NumbersAndDigits → (odfi : List ℕ) → dfi_of odfi ≤ 99_999_999 → odfi ≡ r.identity.odfi → (trace : Option (List ℕ)) → traced_in (dfi_of odfi) t trace ≡ traced_entry trace (flat_book r)
  traced_found law odfi few own None = refl
  traced_found law odfi few own (Some text) = elim (cases_Bool (is_trace text)) [
    | inl is ↦
        ap (λ b. if b && dfi_of odfi == dfi_in text then option_map (with_return_in t) (sent_in (sequence_in text) t) else None) is
        ∙ by_bank (dfi_of odfi == dfi_in text)
        ∙ ap (option_map (with_return_in t)) (sent_traced law odfi text few is)
        ∙ found_agrees (with_return_in t) (with_return (flat_book r)) (has_trace odfi text) (reverse r.sent) all_sent
        ∙ ap (λ o. option_map (with_return (flat_book r)) (find (has_trace o text) (reverse r.sent))) own
    | inr none ↦
        ap (λ b. if b && dfi_of odfi == dfi_in text then option_map (with_return_in t) (sent_in (sequence_in text) t) else None) none
        ∙ sym (ap (option_map (with_return (flat_book r))) (traceless r.identity.odfi text none (reverse r.sent)))
  ]
    where
      by_bank : (b : Bool) → (if b then option_map (with_return_in t) (sent_in (sequence_in text) t) else None) ≡ option_map (with_return_in t) (if b then sent_in (sequence_in text) t else None)
      by_bank true = refl
      by_bank false = refl

  pub latest_found : IsInOrder (key_cmp the.sequences) t.numbers → (from to : ℕ) → latest_in from to t ≡ latest_settled from to (flat_book r)
  latest_found order from to =
      ap (λ l. reduce max (filter_map (λ place. settled_at place t) l)) (sym (places_of_range (to + 1 - from) from to refl t.numbers (numbers_before t.numbers order)))
      ∙ ap (reduce max) (sym (filter_map_then (λ place. settled_at place t) (λ s. place_in s t) (range_with_len from (to + 1 - from))))
      ∙ ap (reduce max) (filter_map_same (λ s. option_and_then (λ place. settled_at place t) (place_in s t)) (youngest_settlement (map sent_sequence (reverse r.sent))) (settled_found t r e rise beside) (range_with_len from (to + 1 - from)))
