use Rattle.std.proofs.Common.{◌≡◌, ◌≢◌, ◌<◌, ◌≤◌, ℕ, ◌==◌, List, length, get_or, Result, Ok, Err, is_ok, arith, sym, ◌∙◌, inl, inr, eq-eqb}
use Rattle.std.proofs.lemmas.Bool.{cases_lt, ne_eqb}
use Rattle.std.proofs.lemmas.List.{get_or_default}
use Rattle.std.proofs.lemmas.List.Folds.{list_any_at, list_any_none}
use Rattle.std.proofs.lemmas.List.Kept.{AllPairs-from_increasing}
use Rattle.std.proofs.lemmas.List.Sorted.{searched}
use Rattle.std.specs.List.{list_any}
use Rattle.std.specs.List.Sorted.{IsBinarySearchResult, IsStrictlyIncreasing}
use Rattle.std.specs.Ordering.{nat_cmp}
use Rattle.bank_days.proofs.calendar.is_listed.Goals as goal

rises : (xs : List ℕ) → IsStrictlyIncreasing xs → (i j : ℕ) → i ≤ j → j < length xs → get_or xs i 0 ≤ get_or xs j 0
rises xs ascending i j le lt =
    elim (cases_lt i j) [
      | inl before ↦ let h : get_or xs i 0 < get_or xs j 0 = AllPairs-from_increasing xs ascending i j 0 before lt in omega arith
      | inr ge ↦ let same : i ≡ j = omega arith in rw same (omega arith)
    ]

-- a search of ascending numbers finds what is there
by_search : (xs : List ℕ) (x : ℕ) (r : Result ℕ ℕ) → IsStrictlyIncreasing xs → IsBinarySearchResult (λ y. nat_cmp y x) xs r → is_ok r ≡ list_any (λ h. h == x) xs
by_search xs x (Ok i) ascending h =
    let s = searched xs x (Ok i) h (rises xs ascending) in
    sym (list_any_at (λ h. h == x) xs i 0 s.0 (eq-eqb _ _ s.1))
by_search xs x (Err i) ascending h =
    let s = searched xs x (Err i) h (rises xs ascending) in
    sym (list_any_none (λ h. h == x) xs (λ k d lt.
    let same : get_or xs k d ≡ get_or xs k 0 = get_or_default xs k d 0 lt in
    let other : get_or xs k 0 ≢ x = elim (cases_lt k i) [
      | inl before ↦ let less = s.1 k before in omega arith
      | inr behind ↦ let more = s.2 k behind lt in omega arith
    ] in
    rw same (ne_eqb _ _ other)))

pub returns : goal.returns
returns c = c.is_ok.ensures.value ∙ by_search c.args.days.now c.args.day c.binary_search.result c.requires c.binary_search.ensures.position
