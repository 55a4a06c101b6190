-- Rows with the numbers of a range are taken out at once and put in anew: that is each put in or changed by a statement of its own.
use Rattle.std.proofs.Common.{◌≡◌, ◌≤◌, ◌<◌, ◌+◌, ◌==◌, ℕ, zero, suc, Bool, true, false, not, cond, ◌||◌, List, [], ◌∷◌, refl, sym, ap, ◌∙◌, subst, arith, true≢false, Ordering, Less, is_gt, is_eq}
use Rattle.std.proofs.lemmas.Bool.{eqb-true, or_parts}
use Rattle.std.proofs.lemmas.Int.{ints}
use Rattle.std.specs.List.{AllByRecursion, list_any}
use Rattle.std.specs.Ordering.{nat_cmp, on}
use Rattle.sqlite_trees.specs.Tree.{IsAscending}
use Rattle.sqlite_keyed.specs.Lists.{insert_sorted, update_where, delete_where}
use Rattle.sqlite_keyed.proofs.ListLemmas.{all_weaker}
use Rattle.std.proofs.lemmas.Cmp.{on_total, nat_cmp_total}
use Rattle.sql_statements.proofs.KeyOrder.{rises_sorted}

less_is : (a b : ℕ) → nat_cmp a b ≡ Less → a < b
less_is a b e = grind (arith, ints, e)

greater_not : (a b : ℕ) → a ≤ b → is_gt (nat_cmp a b) ≡ false
greater_not a b l = grind (arith, ints, l)

greater_is : (a b : ℕ) → b < a → is_gt (nat_cmp a b) ≡ true
greater_is a b l = grind (arith, ints, l)

not_greater : (a b : ℕ) → is_gt (nat_cmp a b) ≡ false → a ≤ b
not_greater a b e = grind (arith, ints, e)

equal_is : (a b : ℕ) → is_eq (nat_cmp a b) ≡ (a == b)
equal_is a b = grind (arith, ints)

apart_from : (a b : ℕ) → b < a → (a == b) ≡ false
apart_from a b l = grind (arith, l)

module _ {X : Type 0} (no : X → ℕ) where
  abbrev cmp : X → X → Ordering
  cmp = on no nat_cmp

  abbrev Rises : List X → Type 0
  Rises = IsAscending (λ a b. cmp a b ≡ Less)

  abbrev pub has : ℕ → X → Bool
  has n x = no x == n

  -- a new one stands before those of higher numbers
  front : (x : X) (xs : List X) → AllByRecursion (λ y. no x ≤ no y) xs → insert_sorted cmp x xs ≡ x ∷ xs
  front x [] all = refl
  front x (y ∷ ys) all = ap (λ b. cond b (y ∷ insert_sorted cmp x ys) (x ∷ y ∷ ys)) (greater_not (no x) (no y) all.0)

  all_kept : (P : X → Type 0) (p : X → Bool) (xs : List X) → AllByRecursion P xs → AllByRecursion P (delete_where p xs)
  all_kept P p [] all = tt
  all_kept P p (x ∷ xs) all = elim (p x) as (λ b. AllByRecursion P (cond (not b) (x ∷ delete_where p xs) (delete_where p xs))) [ true ↦ all_kept P p xs all.1 | false ↦ (all.0, all_kept P p xs all.1) ]

  pub rises_kept : (p : X → Bool) (xs : List X) → Rises xs → Rises (delete_where p xs)
  rises_kept p [] up = tt
  rises_kept p (x ∷ xs) up =
      elim (p x) as (λ b. Rises (cond (not b) (x ∷ delete_where p xs) (delete_where p xs))) [ true ↦ rises_kept p xs up.1 | false ↦ (all_kept (λ y. cmp x y ≡ Less) p xs up.0, rises_kept p xs up.1) ]

  -- what is put in is not taken out
  delete_put : (q : X → Bool) (x : X) (xs : List X) → q x ≡ false → Rises xs → delete_where q (insert_sorted cmp x xs) ≡ insert_sorted cmp x (delete_where q xs)
  delete_put q x [] stays up = rw stays refl
  delete_put q x (y ∷ ys) stays up = go (is_gt (cmp x y)) (q y) refl refl (delete_put q x ys stays up.1)
    where
      go : (g b : Bool) → is_gt (cmp x y) ≡ g → q y ≡ b → delete_where q (insert_sorted cmp x ys) ≡ insert_sorted cmp x (delete_where q ys)
          → delete_where q (cond g (y ∷ insert_sorted cmp x ys) (x ∷ y ∷ ys)) ≡ insert_sorted cmp x (cond (not b) (y ∷ delete_where q ys) (delete_where q ys))
      go true true e f more = rw f more
      go true false e f more = rw (f, e) (ap (λ l. y ∷ l) more)
      go false true e f more =
          let low = not_greater (no x) (no y) e in
          rw (stays, f) (sym (front x (delete_where q ys) (all_kept (λ z. no x ≤ no z) q ys (all_weaker (λ z. cmp y z ≡ Less) (λ z. no x ≤ no z) (λ z l. let m = less_is (no y) (no z) l in omega (arith, m, low)) ys up.0))))
      go false false e f more = rw (stays, f, e) refl

  none_there : (s : ℕ) (xs : List X) → AllByRecursion (λ y. s < no y) xs → list_any (has s) xs ≡ false
  none_there s [] all = refl
  none_there s (y ∷ ys) all = rw (apart_from (no y) s all.0) (none_there s ys all.1)

  none_deleted : (s : ℕ) (xs : List X) → list_any (has s) xs ≡ false → delete_where (has s) xs ≡ xs
  none_deleted s [] none = refl
  none_deleted s (y ∷ ys) none = let parts = or_parts (has s y) (list_any (has s) ys) none in rw (parts.0) (ap (λ l. y ∷ l) (none_deleted s ys parts.1))

  none_changed : (s : ℕ) (f : X → X) (xs : List X) → list_any (has s) xs ≡ false → update_where (has s) f xs ≡ xs
  none_changed s f [] none = refl
  none_changed s f (y ∷ ys) none = let parts = or_parts (has s y) (list_any (has s) ys) none in rw (parts.0) (ap (λ l. y ∷ l) (none_changed s f ys parts.1))

  above : (s a : ℕ) (xs : List X) → AllByRecursion (λ y. a < no y) xs → list_any (has s) xs ≡ true → a < s
  above s a [] all any = absurd (true≢false (sym any))
  above s a (y ∷ ys) all any = go (has s y) refl (above s a ys all.1)
    where
      go : (b : Bool) → has s y ≡ b → (list_any (has s) ys ≡ true → a < s) → a < s
      go true e more = let same = eqb-true (no y) s e in let l = all.0 in omega (arith, same, l)
      go false e more = more (rw e at any)

  later : (y : X) (ys : List X) → Rises (y ∷ ys) → AllByRecursion (λ z. no y < no z) ys
  later y ys up = all_weaker (λ z. cmp y z ≡ Less) (λ z. no y < no z) (λ z l. less_is (no y) (no z) l) ys up.0

  module _ (x : X) (change : X → X) (same : (y : X) → has (no x) y ≡ true → change y ≡ x) where
    -- it is put in, or stands in the place of the one that has its number
    abbrev pub put : List X → List X
    put xs = cond (list_any (has (no x)) xs) (update_where (has (no x)) change xs) (insert_sorted cmp x xs)

    changed : (xs : List X) → Rises xs → list_any (has (no x)) xs ≡ true → update_where (has (no x)) change xs ≡ insert_sorted cmp x (delete_where (has (no x)) xs)
    changed [] up any = absurd (true≢false (sym any))
    changed (y ∷ ys) up any = go (has (no x) y) refl (changed ys up.1)
      where
        go : (b : Bool) → has (no x) y ≡ b → (list_any (has (no x)) ys ≡ true → update_where (has (no x)) change ys ≡ insert_sorted cmp x (delete_where (has (no x)) ys))
            → (cond b (change y) y ∷ update_where (has (no x)) change ys) ≡ insert_sorted cmp x (cond (not b) (y ∷ delete_where (has (no x)) ys) (delete_where (has (no x)) ys))
        go true e more =
            let is = eqb-true (no y) (no x) e in
            let high = all_weaker (λ z. no y < no z) (λ z. no x < no z) (λ z l. omega (arith, is, l)) ys (later y ys up) in
            let none = none_there (no x) ys high in
            (λ i. same y e i ∷ none_changed (no x) change ys none i)
            ∙ sym (ap (insert_sorted cmp x) (none_deleted (no x) ys none) ∙ front x ys (all_weaker (λ z. no x < no z) (λ z. no x ≤ no z) (λ z l. omega (arith, l)) ys high))
        go false e more =
            let any_later : list_any (has (no x)) ys ≡ true = rw e at any in
            let high = above (no x) (no y) ys (later y ys up) any_later in
            ap (λ l. y ∷ l) (more any_later) ∙ sym (ap (λ b. cond b (y ∷ insert_sorted cmp x (delete_where (has (no x)) ys)) (x ∷ y ∷ delete_where (has (no x)) ys)) (greater_is (no x) (no y) high))

    -- that is: it is taken out, and put in
    pub put_is : (xs : List X) → Rises xs → put xs ≡ insert_sorted cmp x (delete_where (has (no x)) xs)
    put_is xs up = go (list_any (has (no x)) xs) refl
      where
        go : (b : Bool) → list_any (has (no x)) xs ≡ b → cond b (update_where (has (no x)) change xs) (insert_sorted cmp x xs) ≡ insert_sorted cmp x (delete_where (has (no x)) xs)
        go true e = changed xs up e
        go false e = sym (ap (insert_sorted cmp x) (none_deleted (no x) xs e))

  -- one of so many numbers from one on
  abbrev pub in_range : ℕ → ℕ → X → Bool
  in_range i zero x = false
  in_range i (suc k) x = has i x || in_range (i + 1) k x

  pub range_is : (k i : ℕ) (x : X) → in_range i k x ≡ true → (i ≤ no x) × (no x < i + k)
  range_is zero i x h = absurd (true≢false (sym h))
  range_is (suc k) i x h = go (has i x) refl (range_is k (i + 1) x)
    where
      go : (b : Bool) → has i x ≡ b → (in_range (i + 1) k x ≡ true → (i + 1 ≤ no x) × (no x < (i + 1) + k)) → (i ≤ no x) × (no x < i + suc k)
      go true e more = let is = eqb-true (no x) i e in (omega (arith, is), omega (arith, is))
      go false e more = let l = more (rw e at h) in (omega (arith, l.0), omega (arith, l.1))

  pub range_has : (k i : ℕ) (x : X) → i ≤ no x → no x < i + k → in_range i k x ≡ true
  range_has zero i x low up = absurd (omega (arith, low, up))
  range_has (suc k) i x low up = go (has i x) refl (range_has k (i + 1) x)
    where
      differ : (a b : ℕ) → (a == b) ≡ false → b ≤ a → b + 1 ≤ a
      differ a b e l = grind (arith, e, l)

      go : (b : Bool) → has i x ≡ b → (i + 1 ≤ no x → no x < (i + 1) + k → in_range (i + 1) k x ≡ true) → (has i x || in_range (i + 1) k x) ≡ true
      go true e more = rw e refl
      go false e more = rw e (more (differ (no x) i e low) (omega (arith, up)))

  deleted_both : (p q : X → Bool) (xs : List X) → delete_where q (delete_where p xs) ≡ delete_where (λ x. p x || q x) xs
  deleted_both p q [] = refl
  deleted_both p q (x ∷ xs) = go (p x) refl (deleted_both p q xs)
    where
      go : (b : Bool) → p x ≡ b → delete_where q (delete_where p xs) ≡ delete_where (λ x. p x || q x) xs
          → delete_where q (cond (not b) (x ∷ delete_where p xs) (delete_where p xs)) ≡ cond (not (b || q x)) (x ∷ delete_where (λ x. p x || q x) xs) (delete_where (λ x. p x || q x) xs)
      go true e more = more
      go false e more = ap (λ l. cond (not (q x)) (x ∷ l) l) more

  pub none_gone : (xs : List X) → delete_where (λ _. false) xs ≡ xs
  none_gone [] = refl
  none_gone (x ∷ xs) = ap (λ l. x ∷ l) (none_gone xs)

  -- one, and then the others of a range
  pub range_put : (k i : ℕ) (x : X) (xs : List X) → no x ≡ i → Rises xs → delete_where (in_range (i + 1) k) (insert_sorted cmp x (delete_where (has i) xs)) ≡ insert_sorted cmp x (delete_where (in_range i (suc k)) xs)
  range_put k i x xs is up =
      delete_put (in_range (i + 1) k) x (delete_where (has i) xs) (outside (in_range (i + 1) k x) refl) (rises_kept (has i) xs up) ∙ ap (insert_sorted cmp x) (deleted_both (has i) (in_range (i + 1) k) xs)
    where
      outside : (b : Bool) → in_range (i + 1) k x ≡ b → in_range (i + 1) k x ≡ false
      outside true e = absurd (let l = range_is k (i + 1) x e in omega (arith, is, l.0))
      outside false e = e

  gone : (i : ℕ) (xs : List X) → AllByRecursion (λ y. has i y ≡ false) (delete_where (has i) xs)
  gone i [] = tt
  gone i (y ∷ ys) = go (has i y) refl (gone i ys)
    where
      go : (b : Bool) → has i y ≡ b → AllByRecursion (λ y. has i y ≡ false) (delete_where (has i) ys) → AllByRecursion (λ y. has i y ≡ false) (cond (not b) (y ∷ delete_where (has i) ys) (delete_where (has i) ys))
      go true e more = more
      go false e more = (e, more)

  free : (x : X) (xs : List X) → AllByRecursion (λ y. has (no x) y ≡ false) xs → list_any (λ y. is_eq (cmp y x)) xs ≡ false
  free x [] all = refl
  free x (y ∷ ys) all = rw (equal_is (no y) (no x) ∙ all.0) (free x ys all.1)

  -- its list rises still
  pub rises_put : (i : ℕ) (x : X) (xs : List X) → no x ≡ i → Rises xs → Rises (insert_sorted cmp x (delete_where (has i) xs))
  rises_put i x xs is up = rises_in x (delete_where (has i) xs) (rises_kept (has i) xs up) (subst (λ n. AllByRecursion (λ y. has n y ≡ false) (delete_where (has i) xs)) (sym is) (gone i xs))
    where
      rises_in : (x : X) (xs : List X) → Rises xs → AllByRecursion (λ y. has (no x) y ≡ false) xs → Rises (insert_sorted cmp x xs)
      rises_in x xs up apart = rises_sorted cmp (on_total no nat_cmp_total) x xs (free x xs apart) up
