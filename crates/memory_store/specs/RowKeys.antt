-- How keys compare: by the bytes of the company first, then by those of the reference, then by the order number.
use Rattle.std.specs.Prelude.{◌≡◌, Bool, ◌&&◌, Option, None, Some, refl, bytes_eq, nat_eq}
use Rattle.std.specs.Option.{option_eq, option_cmp}
use Rattle.std.specs.declared.cmp.Ordering.{Ordering}
use Rattle.std.specs.Ordering.{nat_cmp, is_eq, on, ordering_then, then_cmp, eq_of_both, eq_by_cmp}
use Rattle.std.specs.Cmp.{IsEquivalence, IsTotalOrder, and_equiv, on_equiv, on_total, then_total, both_tied, nat_cmp_total, nat_eq_equiv, unsigned_ties}
use Rattle.std.specs.Cmp.Lexicographic.{slice_cmp, nat_list_eq_equiv, nat_list_cmp_total, on_texts, options_equiv, options_total, texts_ties}
use Rattle.memory_store.specs.declared.row_key.RowKey.{RowKey}

-- whether they are one
abbrev pub is_same_key : RowKey → RowKey → Bool
is_same_key = eq_of_both (eq_of_both (on (λ k. k.company) bytes_eq) (on (λ k. k.reference) (option_eq bytes_eq))) (on (λ k. k.order) (option_eq nat_eq))

-- which comes first
abbrev pub key_cmp : RowKey → RowKey → Ordering
key_cmp = then_cmp (then_cmp (on (λ k. k.company) (slice_cmp nat_cmp)) (on (λ k. k.reference) (option_cmp (slice_cmp nat_cmp)))) (on (λ k. k.order) (option_cmp nat_cmp))

pub same_key_equiv : IsEquivalence is_same_key
same_key_equiv = and_equiv (and_equiv (on_equiv (λ k. k.company) nat_list_eq_equiv) (on_equiv (λ k. k.reference) (options_equiv nat_list_eq_equiv))) (on_equiv (λ k. k.order) (options_equiv nat_eq_equiv))

pub key_cmp_total : IsTotalOrder key_cmp
key_cmp_total = then_total (then_total (on_texts (λ k. k.company)) (on_total (λ k. k.reference) (options_total nat_list_cmp_total))) (on_total (λ k. k.order) (options_total nat_cmp_total))

options_tie : {A : Type 0} (E : A → A → Bool) (R : A → A → Ordering) → ((x y : A) → E x y ≡ is_eq (R x y)) → (first second : Option A) → option_eq E first second ≡ is_eq (option_cmp R first second)
options_tie E R ties None None = refl
options_tie E R ties None (Some y) = refl
options_tie E R ties (Some x) None = refl
options_tie E R ties (Some x) (Some y) = ties x y

-- the order ties those that are one
pub key_cmp_ties : (k l : RowKey) → is_same_key k l ≡ eq_by_cmp key_cmp k l
key_cmp_ties k l =
    let company = slice_cmp nat_cmp k.company l.company in
    let reference = option_cmp (slice_cmp nat_cmp) k.reference l.reference in
    let texts = both_tied (bytes_eq k.company l.company) (option_eq bytes_eq k.reference l.reference) company reference (texts_ties k.company l.company) (options_tie bytes_eq (slice_cmp nat_cmp) texts_ties k.reference l.reference) in
    both_tied (bytes_eq k.company l.company && option_eq bytes_eq k.reference l.reference) (option_eq nat_eq k.order l.order) (ordering_then company reference) (option_cmp nat_cmp k.order l.order)
    texts (options_tie nat_eq nat_cmp unsigned_ties k.order l.order)
