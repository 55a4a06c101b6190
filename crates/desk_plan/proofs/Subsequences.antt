-- Some of the batches, in their order: they take no more of a file than all.
use Rattle.std.proofs.Common.{◌≡◌, ℕ, ◌≤◌, ◌⊎◌, List, [], ◌∷◌, ◌++◌, length, Bool, true, false, refl, ap, arith, inl, inr, nat_le, sum_by, filter, if◌then◌else◌}
use Rattle.std.proofs.lemmas.Bool.{leb-true, le-leb, and_parts, and_from}
use Rattle.std.proofs.lemmas.List.Sums.{sum_by-cons}
use Rattle.desk_plan.specs.declared.batch.Batch.{Batch}
use Rattle.desk_plan.specs.Files.{fits}

abbrev pub IsSubsequence : List Batch → List Batch → Type 0
IsSubsequence [] ys = Unit {0}
IsSubsequence (x ∷ xs) [] = ⊥
IsSubsequence (x ∷ xs) (y ∷ ys) = ((x ≡ y) × IsSubsequence xs ys) ⊎ IsSubsequence (x ∷ xs) ys

pub skip : (xs : List Batch) (y : Batch) (ys : List Batch) → IsSubsequence xs ys → IsSubsequence xs (y ∷ ys)
skip [] y ys h = tt
skip (x ∷ xs) y ys h = inr h

pub tail_of : (x : Batch) (xs ys : List Batch) → IsSubsequence (x ∷ xs) ys → IsSubsequence xs ys
tail_of x xs [] h = absurd h
tail_of x xs (y ∷ ys) h = elim h [ inl here ↦ skip xs y ys here.1 | inr later ↦ skip xs y ys (tail_of x xs ys later) ]

front_of : (xs ys : List Batch) → IsSubsequence xs (xs ++ ys)
front_of [] ys = tt
front_of (x ∷ xs) ys = inl (refl, front_of xs ys)

pub kept : (test : Batch → Bool) (batches : List Batch) → IsSubsequence (filter test batches) batches
kept test [] = tt
kept test (b ∷ batches) =
    elim (test b) as (λ t. IsSubsequence (if t then b ∷ filter test batches else filter test batches) (b ∷ batches)) [
      | true ↦ inl (refl, kept test batches)
      | false ↦ skip (filter test batches) b batches (kept test batches)
    ]

-- some of one list after another are some of the first, then some of the second
pub record Split (xs ys zs : List Batch) : Type 0 where
  pub front : List Batch
  pub back : List Batch
  pub whole : xs ≡ front ++ back
  pub first : IsSubsequence front ys
  pub second : IsSubsequence back zs

pub split : (xs ys zs : List Batch) → IsSubsequence xs (ys ++ zs) → Split xs ys zs
split [] ys zs h = record { front = []; back = []; whole = refl; first = tt; second = tt }
split (x ∷ xs) [] zs h = record { front = []; back = x ∷ xs; whole = refl; first = tt; second = h }
split (x ∷ xs) (y ∷ ys) zs h =
    elim h [
      | inl here ↦
          let s = split xs ys zs here.1 in
          record { front = x ∷ s.front; back = s.back; whole = ap (λ (l : List Batch). x ∷ l) s.whole; first = inl (here.0, s.first); second = s.second }
      | inr later ↦
          let s = split (x ∷ xs) ys zs later in
          record { front = s.front; back = s.back; whole = s.whole; first = skip s.front y ys s.first; second = s.second }
    ]

sum_less : (f : Batch → ℕ) (xs ys : List Batch) → IsSubsequence xs ys → sum_by f xs ≤ sum_by f ys
sum_less f [] ys h = omega arith
sum_less f (x ∷ xs) [] h = absurd h
sum_less f (x ∷ xs) (y ∷ ys) h =
    elim h [
      | inl here ↦ let rest = sum_less f xs ys here.1 in let same : f x ≡ f y = ap f here.0 in omega (arith, sum_by-cons f x xs, sum_by-cons f y ys)
      | inr later ↦ let rest = sum_less f (x ∷ xs) ys later in omega (arith, sum_by-cons f y ys)
    ]

fewer : (xs ys : List Batch) → IsSubsequence xs ys → length xs ≤ length ys
fewer [] ys h = omega arith
fewer (x ∷ xs) [] h = absurd h
fewer (x ∷ xs) (y ∷ ys) h =
    elim h [
      | inl here ↦ let rest = fewer xs ys here.1 in omega arith
      | inr later ↦ let rest = fewer (x ∷ xs) ys later in omega arith
    ]

less : (a b n : ℕ) → a ≤ b → nat_le b n ≡ true → nat_le a n ≡ true
less a b n le h = le-leb a n (omega (arith, leb-true b n h))

-- some of what fits a file fit it
pub fits_less : (xs ys : List Batch) → IsSubsequence xs ys → fits ys ≡ true → fits xs ≡ true
fits_less xs ys part h =
    let four = and_parts _ _ h in
    let three = and_parts _ _ four.0 in
    let two = and_parts _ _ three.0 in
    and_from _ _
    (and_from _ _ (and_from _ _ (less _ _ _ (sum_less (λ b. b.debits) xs ys part) two.0) (less _ _ _ (sum_less (λ b. b.credits) xs ys part) two.1)) (less _ _ _ (fewer xs ys part) three.1))
    (less _ _ _ (sum_less (λ b. b.records) xs ys part) four.1)

pub fits_front : (xs ys : List Batch) → fits (xs ++ ys) ≡ true → fits xs ≡ true
fits_front xs ys h = fits_less xs (xs ++ ys) (front_of xs ys) h

pub fits_tail : (x : Batch) (xs : List Batch) → fits (x ∷ xs) ≡ true → fits xs ≡ true
fits_tail x xs h = fits_less xs (x ∷ xs) (tail_of x xs (x ∷ xs) (all_of (x ∷ xs))) h
  where
    all_of : (ys : List Batch) → IsSubsequence ys ys
    all_of [] = tt
    all_of (y ∷ ys) = inl (refl, all_of ys)
