-- References are compared by their bytes.
use Rattle.std.specs.Prelude.{◌≡◌, Bool, bytes_eq}
use Rattle.std.specs.declared.cmp.Ordering.{Ordering}
use Rattle.std.specs.Ordering.{nat_cmp, on, eq_by_cmp}
use Rattle.std.specs.Cmp.{IsEquivalence, IsTotalOrder, on_equiv}
use Rattle.std.specs.Cmp.Lexicographic.{slice_cmp, nat_list_eq_equiv, on_texts, texts_ties}
use Rattle.remembering_store.specs.declared.sums.reference_key.ReferenceKey.{ReferenceKey}

abbrev pub is_same_reference : ReferenceKey → ReferenceKey → Bool
is_same_reference = on (λ k. k.reference) bytes_eq

abbrev pub reference_cmp : ReferenceKey → ReferenceKey → Ordering
reference_cmp = on (λ k. k.reference) (slice_cmp nat_cmp)

pub same_reference_equiv : IsEquivalence is_same_reference
same_reference_equiv = on_equiv (λ k. k.reference) nat_list_eq_equiv

pub reference_cmp_total : IsTotalOrder reference_cmp
reference_cmp_total = on_texts (λ k. k.reference)

pub reference_cmp_ties : (k l : ReferenceKey) → is_same_reference k l ≡ eq_by_cmp reference_cmp k l
reference_cmp_ties k l = texts_ties k.reference l.reference
