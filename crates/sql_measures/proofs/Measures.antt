-- Sums over parts of lists.
use Rattle.std.proofs.Common.{◌≡◌, ◌⊎◌, inl, inr, ◌≢◌, ◌<◌, ℕ, zero, suc, ◌+◌, ◌==◌, Bool, true, false, not, ◌&&◌, cond, List, [], ◌∷◌, ◌++◌, map, filter, sum_by, refl, sym, ap, ◌∙◌, arith, eq-eqb, ne_eqb, length, get_or, subst, true≢false, Less}
use Rattle.std.proofs.lemmas.List.Sums.{sum_by-cons}
use Rattle.std.specs.List.{flat_map, AllByRecursion}
use Rattle.std.specs.List.Sorted.{IsStrictlySortedBy}
use Rattle.std.specs.Ordering.{nat_cmp}
use Rattle.std.specs.Prelude.{Contains}
use borrow.Author.Tests.{eqb-true}

-- what a list comes to is what its parts come to
pub record Adds {X : Type 0} (m : List X → ℕ) : Type 0 where
  pub none : m [] ≡ 0
  pub both : (xs ys : List X) → m (xs ++ ys) ≡ m xs + m ys

pub over_each : {X Y : Type 0} (m : List X → ℕ) → Adds m → (f : Y → List X) (ys : List Y) → m (flat_map f ys) ≡ sum_by (λ y. m (f y)) ys
over_each m adds f [] = adds.none
over_each m adds f (y ∷ ys) = adds.both (f y) (flat_map f ys) ∙ ap (λ n. m (f y) + n) (over_each m adds f ys) ∙ sym (sum_by-cons (λ y. m (f y)) y ys)

pub summed_map : {X Y : Type 0} (g : Y → ℕ) (f : X → Y) (xs : List X) → sum_by g (map f xs) ≡ sum_by (λ x. g (f x)) xs
summed_map g f [] = refl
summed_map g f (x ∷ xs) = sum_by-cons g (f x) (map f xs) ∙ ap (λ n. g (f x) + n) (summed_map g f xs) ∙ sym (sum_by-cons (λ x. g (f x)) x xs)

pub summed_same : {X : Type 0} (f g : X → ℕ) → ((x : X) → f x ≡ g x) → (xs : List X) → sum_by f xs ≡ sum_by g xs
summed_same f g same xs i = sum_by (λ x. same x i) xs

module _ {X : Type 0} (f : X → ℕ) where
  -- those that count nothing may be left out
  pub narrowed : (p q : X → Bool) → ((x : X) → p x ≡ true → q x ≡ false → f x ≡ 0) → (xs : List X) → sum_by f (filter (λ x. p x && q x) xs) ≡ sum_by f (filter p xs)
  narrowed p q nothing [] = refl
  narrowed p q nothing (x ∷ xs) = go (p x) (q x) refl refl (narrowed p q nothing xs)
    where
      go : (a b : Bool) → p x ≡ a → q x ≡ b → sum_by f (filter (λ x. p x && q x) xs) ≡ sum_by f (filter p xs)
          → sum_by f (cond (a && b) (x ∷ filter (λ x. p x && q x) xs) (filter (λ x. p x && q x) xs)) ≡ sum_by f (cond a (x ∷ filter p xs) (filter p xs))
      go true true passes also more = sum_by-cons f x (filter (λ x. p x && q x) xs) ∙ ap (λ n. f x + n) more ∙ sym (sum_by-cons f x (filter p xs))
      go true false passes fails more = let whole = sum_by-cons f x (filter p xs) in let none = nothing x passes fails in more ∙ omega arith
      go false b fails also more = more

  -- those that pass, and the others
  pub apart : (p : X → Bool) (xs : List X) → sum_by f (filter p xs) + sum_by (λ x. cond (p x) 0 (f x)) xs ≡ sum_by f xs
  apart p [] = refl
  apart p (x ∷ xs) = ap (λ n. sum_by f (cond (p x) (x ∷ filter p xs) (filter p xs)) + n) (sum_by-cons (λ x. cond (p x) 0 (f x)) x xs) ∙ go (p x) (apart p xs) ∙ sym (sum_by-cons f x xs)
    where
      go : (b : Bool) → sum_by f (filter p xs) + sum_by (λ x. cond (p x) 0 (f x)) xs ≡ sum_by f xs
          → sum_by f (cond b (x ∷ filter p xs) (filter p xs)) + (cond b 0 (f x) + sum_by (λ x. cond (p x) 0 (f x)) xs) ≡ f x + sum_by f xs
      go true more = let first = sum_by-cons f x (filter p xs) in omega arith
      go false more = omega arith

  -- the others alone
  pub others : (p : X → Bool) (xs : List X) → sum_by f (filter (λ x. not (p x)) xs) ≡ sum_by (λ x. cond (p x) 0 (f x)) xs
  others p [] = refl
  others p (x ∷ xs) = go (p x) (others p xs) ∙ sym (sum_by-cons (λ x. cond (p x) 0 (f x)) x xs)
    where
      go : (b : Bool) → sum_by f (filter (λ x. not (p x)) xs) ≡ sum_by (λ x. cond (p x) 0 (f x)) xs
          → sum_by f (cond (not b) (x ∷ filter (λ x. not (p x)) xs) (filter (λ x. not (p x)) xs)) ≡ cond b 0 (f x) + sum_by (λ x. cond (p x) 0 (f x)) xs
      go true more = omega (arith, more)
      go false more = sum_by-cons f x (filter (λ x. not (p x)) xs) ∙ ap (λ n. f x + n) more

-- ---- by distinct keys

-- a place in a list is its head or one behind it
cons_cases : (x z : ℕ) (xs : List ℕ) (k : ℕ) → k < length (x ∷ xs) → get_or (x ∷ xs) k z ≡ z → (x ≡ z) ⊎ Contains xs z
cons_cases x z xs zero within at = inl at
cons_cases x z xs (suc k) within at = inr (k, omega arith, at)

none_at : (k v : ℕ) (os : List ℕ) → AllByRecursion (λ o. nat_cmp k o ≡ Less) os → sum_by (λ o. cond (k == o) v 0) os ≡ 0
none_at k v [] above = refl
none_at k v (o ∷ os) above =
    let apart : k ≢ o = λ same. absurd (less_apart k o above.0 same) in
    let whole = sum_by-cons (λ o. cond (k == o) v 0) o os in
    let first : cond (k == o) v 0 ≡ 0 = ap (λ b. cond b v 0) (ne_eqb k o apart) in
    let rest = none_at k v os above.1 in
    omega arith
  where
    less_apart : (k o : ℕ) → nat_cmp k o ≡ Less → k ≡ o → ⊥
    less_apart k o less same = grind arith

once : (k v : ℕ) (os : List ℕ) → IsStrictlySortedBy nat_cmp os → Contains os k → sum_by (λ o. cond (k == o) v 0) os ≡ v
unfolding IsStrictlySortedBy
once k v [] rise has = absurd (omega (arith, has.1))
once k v (o ∷ os) rise has = sum_by-cons (λ o. cond (k == o) v 0) o os ∙ go (k == o) refl (cons_cases o k os has.0 has.1 has.2) (λ c. once k v os rise.1 c)
  where
    go : (b : Bool) → (k == o) ≡ b → (o ≡ k) ⊎ Contains os k → (Contains os k → sum_by (λ o. cond (k == o) v 0) os ≡ v) → cond b v 0 + sum_by (λ o. cond (k == o) v 0) os ≡ v
    go true is at more = let none = none_at k v os (subst (λ n. AllByRecursion (λ y. nat_cmp n y ≡ Less) os) (sym (eqb-true k o is)) rise.0) in omega arith
    go false is (inl same) more = absurd (true≢false (sym (eq-eqb k o (sym same)) ∙ is))
    go false is (inr c) more = let rest = more c in omega arith

none_each : {X : Type 0} (xs : List X) → sum_by (λ _. 0) xs ≡ 0
none_each [] = refl
none_each (x ∷ xs) = let whole = sum_by-cons (λ _. 0) x xs in let rest = none_each xs in omega arith

once_or_none : (k v : ℕ) (os : List ℕ) → IsStrictlySortedBy nat_cmp os → Contains os k ⊎ (v ≡ 0) → sum_by (λ o. cond (k == o) v 0) os ≡ v
once_or_none k v os rise (inl has) = once k v os rise has
once_or_none k v os rise (inr none) = subst (λ (n : ℕ). sum_by (λ o. cond (k == o) n 0) os ≡ n) (sym none) (summed_same (λ (o : ℕ). cond (k == o) 0 0) (λ (_ : ℕ). 0) (λ o. zero_both (k == o)) os ∙ none_each os)
  where
    zero_both : (b : Bool) → ◌≡◌ {A = ℕ} (cond b 0 0) 0
    zero_both true = refl
    zero_both false = refl

summed_both : {X : Type 0} (f g : X → ℕ) (xs : List X) → sum_by (λ x. f x + g x) xs ≡ sum_by f xs + sum_by g xs
summed_both f g [] = refl
summed_both f g (x ∷ xs) =
    let whole = sum_by-cons (λ x. f x + g x) x xs in
    let left = sum_by-cons f x xs in
    let right = sum_by-cons g x xs in
    let rest = summed_both f g xs in
    omega arith

-- the sum is that of each distinct key's, where what has no such key counts nothing
pub by_key : {X : Type 0} (key : X → ℕ) (f : X → ℕ) (os : List ℕ) → IsStrictlySortedBy nat_cmp os → (xs : List X) → AllByRecursion (λ x. Contains os (key x) ⊎ (f x ≡ 0)) xs
    → sum_by (λ o. sum_by f (filter (λ x. key x == o) xs)) os ≡ sum_by f xs
by_key key f os rise [] all = none_each os
by_key key f os rise (x ∷ xs) all =
    summed_same (λ o. sum_by f (cond (key x == o) (x ∷ filter (λ x. key x == o) xs) (filter (λ x. key x == o) xs))) (λ o. cond (key x == o) (f x) 0 + sum_by f (filter (λ x. key x == o) xs)) (λ o. each (key x == o) (filter (λ x. key x == o) xs)) os
    ∙ summed_both (λ o. cond (key x == o) (f x) 0) (λ o. sum_by f (filter (λ x. key x == o) xs)) os
    ∙ (let first = once_or_none (key x) (f x) os rise all.0 in let rest = by_key key f os rise xs all.1 in λ i. first i + rest i)
    ∙ sym (sum_by-cons f x xs)
  where
    each : (b : Bool) (l : List _) → sum_by f (cond b (x ∷ l) l) ≡ cond b (f x) 0 + sum_by f l
    each true l = sum_by-cons f x l
    each false l = omega arith

-- what holds of each that passes
pub passing_all : {X : Type 0} (p : X → Bool) (P : X → Type 0) → ((x : X) → p x ≡ true → P x) → (xs : List X) → AllByRecursion P (filter p xs)
passing_all p P so [] = tt
passing_all p P so (x ∷ xs) = go (p x) refl (passing_all p P so xs)
  where
    go : (b : Bool) → p x ≡ b → AllByRecursion P (filter p xs) → AllByRecursion P (cond b (x ∷ filter p xs) (filter p xs))
    go true is more = (so x is, more)
    go false is more = more
