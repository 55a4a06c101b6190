-- One UPDATE of a run of rows that says how many it wrote does what one UPDATE for each row of the run does, in order.
use Rattle.std.proofs.Common.{◌≡◌, ◌≤◌, ◌<◌, ◌+◌, ◌==◌, ℕ, zero, suc, Bool, true, false, cond, ◌&&◌, ◌||◌, List, [], ◌∷◌, filter, find, length, Some, refl, sym, ap, ◌∙◌, arith, true≢false}
use Rattle.std.proofs.lemmas.Bool.{eqb-true, and_parts}
use Rattle.std.specs.List.{AllByRecursion}
use Rattle.sqlite_keyed.specs.Lists.{update_where}
use Rattle.sql_statements.proofs.OneRow.{no_more, tests_agree}

module _ {X : Type 0} where
  updates_agree : (p q : X → Bool) (f : X → X) (xs : List X) → AllByRecursion (λ x. p x ≡ q x) xs → update_where p f xs ≡ update_where q f xs
  updates_agree p q f [] same = refl
  updates_agree p q f (x ∷ xs) same = rw (same.0, updates_agree p q f xs same.1) refl

  either : (p q : X → Bool) (xs : List X) → length (filter (λ x. p x || q x) xs) ≤ length (filter p xs) + length (filter q xs)
  either p q [] = omega arith
  either p q (x ∷ xs) = go (p x) (q x) refl refl (either p q xs)
    where
      go : (b c : Bool) → p x ≡ b → q x ≡ c → length (filter (λ x. p x || q x) xs) ≤ length (filter p xs) + length (filter q xs)
          → length (filter (λ x. p x || q x) (x ∷ xs)) ≤ length (filter p (x ∷ xs)) + length (filter q (x ∷ xs))
      go true true e f more = rw (e, f) (omega (arith, more))
      go true false e f more = rw (e, f) (omega (arith, more))
      go false true e f more = rw (e, f) (omega (arith, more))
      go false false e f more = rw (e, f) more

  none_changed : (f : X → X) (xs : List X) → update_where (λ _. false) f xs ≡ xs
  none_changed f [] = refl
  none_changed f (x ∷ xs) = ap (λ l. x ∷ l) (none_changed f xs)

  none_passes : (xs : List X) → length (filter (λ (x : X). false) xs) ≤ 0
  none_passes [] = omega arith
  none_passes (x ∷ xs) = none_passes xs

  -- what passes once is found, and what holds of each row holds of it
  once_found : (P : X → Type 0) (q : X → Bool) (xs : List X) → AllByRecursion P xs → length (filter q xs) ≡ 1 → (x : X) × (find q xs ≡ Some x) × P x × (q x ≡ true)
  once_found P q [] all once = absurd (omega (arith, once))
  once_found P q (x ∷ xs) all once = go (q x) refl (once_found P q xs all.1)
    where
      go : (b : Bool) → q x ≡ b → (length (filter q xs) ≡ 1 → (y : X) × (find q xs ≡ Some y) × P y × (q y ≡ true)) → (y : X) × (find q (x ∷ xs) ≡ Some y) × P y × (q y ≡ true)
      go true e more = (x, rw e refl, all.0, e)
      go false e more = let it = more (rw e at once) in (it.0, rw e it.1, it.2, it.3)

  -- a key, the number of a row within it, and what becomes of the row of a number, which keeps both
  module _ (key : X → Bool) (index : X → ℕ) (at : ℕ → X → X) (keeps_key : (n : ℕ) (x : X) → key (at n x) ≡ key x) (keeps_index : (n : ℕ) (x : X) → index (at n x) ≡ index x) where
    abbrev pub is_nth : ℕ → X → Bool
    is_nth i x = key x && (index x == i)

    -- one of so many from a number on
    abbrev pub in_run : (from : ℕ) → (many : ℕ) → X → Bool
    in_run i zero x = false
    in_run i (suc k) x = is_nth i x || in_run (i + 1) k x

    -- a row as that of its number
    abbrev pub set : X → X
    set x = at (index x) x

    -- each row by a statement of its own
    abbrev pub marks : (from : ℕ) → (many : ℕ) → List X → List X
    marks i zero xs = xs
    marks i (suc k) xs = marks (i + 1) k (update_where (is_nth i) (at i) xs)

    is_number : (i : ℕ) (x : X) → is_nth i x ≡ true → index x ≡ i
    is_number i x h = eqb-true (index x) i (and_parts (key x) (index x == i) h).1

    high : (k i : ℕ) (x : X) → in_run i k x ≡ true → i ≤ index x
    high zero i x h = absurd (true≢false (sym h))
    high (suc k) i x h = go (is_nth i x) refl (high k (i + 1) x)
      where
        go : (b : Bool) → is_nth i x ≡ b → (in_run (i + 1) k x ≡ true → i + 1 ≤ index x) → i ≤ index x
        go true e more = let same = is_number i x e in omega (arith, same)
        go false e more = let l = more (rw e at h) in omega (arith, l)

    apart : (k i : ℕ) (x : X) → is_nth i x ≡ true → in_run (i + 1) k x ≡ false
    apart k i x h = go (in_run (i + 1) k x) refl
      where
        go : (b : Bool) → in_run (i + 1) k x ≡ b → in_run (i + 1) k x ≡ false
        go true e = absurd (let same = is_number i x h in let l = high k (i + 1) x e in omega (arith, same, l))
        go false e = e

    nth_apart : (i j : ℕ) (x : X) → i < j → is_nth i x ≡ true → is_nth j x ≡ false
    nth_apart i j x l h = go (is_nth j x) refl
      where
        go : (b : Bool) → is_nth j x ≡ b → is_nth j x ≡ false
        go true e = absurd (let one = is_number i x h in let two = is_number j x e in omega (arith, one, two, l))
        go false e = e

    nth_kept : (j n : ℕ) (x : X) → is_nth j (at n x) ≡ is_nth j x
    nth_kept j n x = λ i. keeps_key n x i && (keeps_index n x i == j)

    run_kept : (k i n : ℕ) (x : X) → in_run i k (at n x) ≡ in_run i k x
    run_kept zero i n x = refl
    run_kept (suc k) i n x = λ j. nth_kept i n x j || run_kept k (i + 1) n x j

    pub inside : (k i : ℕ) (x : X) → key x ≡ true → i ≤ index x → index x < i + k → in_run i k x ≡ true
    inside zero i x h low up = absurd (omega (arith, low, up))
    inside (suc k) i x h low up = go (index x == i) refl (inside k (i + 1) x h)
      where
        differ : (a b : ℕ) → (a == b) ≡ false → b ≤ a → b + 1 ≤ a
        differ a b e l = grind (arith, e, l)

        go : (b : Bool) → (index x == i) ≡ b → (i + 1 ≤ index x → index x < (i + 1) + k → in_run (i + 1) k x ≡ true) → (is_nth i x || in_run (i + 1) k x) ≡ true
        go true e more = rw (h, e) refl
        go false e more = rw (h, e) (more (differ (index x) i e low) (omega (arith, up)))

    point : (k i : ℕ) (x : X) → cond (in_run i (suc k) x) (set x) x ≡ cond (in_run (i + 1) k (cond (is_nth i x) (at i x) x)) (set (cond (is_nth i x) (at i x) x)) (cond (is_nth i x) (at i x) x)
    point k i x = go (is_nth i x) refl
      where
        go : (b : Bool) → is_nth i x ≡ b → cond (b || in_run (i + 1) k x) (set x) x ≡ cond (in_run (i + 1) k (cond b (at i x) x)) (set (cond b (at i x) x)) (cond b (at i x) x)
        go true e =
            ap (λ n. at n x) (is_number i x e)
            ∙ sym (ap (λ b. cond b (set (at i x)) (at i x)) (run_kept k (i + 1) i x ∙ apart k i x e))
        go false e = refl

    step : (k i : ℕ) (xs : List X) → update_where (in_run i (suc k)) set xs ≡ update_where (in_run (i + 1) k) set (update_where (is_nth i) (at i) xs)
    step k i [] = refl
    step k i (x ∷ xs) = λ j. point k i x j ∷ step k i xs j

    run_marks : (k i : ℕ) (xs : List X) → update_where (in_run i k) set xs ≡ marks i k xs
    run_marks zero i xs = none_changed set xs
    run_marks (suc k) i xs = step k i xs ∙ run_marks k (i + 1) (update_where (is_nth i) (at i) xs)

    -- each row of the run is there, and passes
    abbrev pub AreThere : (p : X → Bool) → (from : ℕ) → (many : ℕ) → List X → Type 0
    AreThere p i zero xs = Unit {0}
    AreThere p i (suc k) xs = ((x : X) × (find (is_nth i) xs ≡ Some x) × (p x ≡ true)) × AreThere p (i + 1) k xs

    others : (i j n : ℕ) (xs : List X) → i < j → find (is_nth j) (update_where (is_nth i) (at n) xs) ≡ find (is_nth j) xs
    others i j n [] l = refl
    others i j n (x ∷ xs) l = go (is_nth i x) refl (others i j n xs l)
      where
        go : (b : Bool) → is_nth i x ≡ b → find (is_nth j) (update_where (is_nth i) (at n) xs) ≡ find (is_nth j) xs
            → cond (is_nth j (cond b (at n x) x)) (Some (cond b (at n x) x)) (find (is_nth j) (update_where (is_nth i) (at n) xs)) ≡ cond (is_nth j x) (Some x) (find (is_nth j) xs)
        go true e more = let no = nth_apart i j x l e in
            ap (λ b. cond b (Some (at n x)) (find (is_nth j) (update_where (is_nth i) (at n) xs))) (nth_kept j n x ∙ no) ∙ more ∙ sym (ap (λ b. cond b (Some x) (find (is_nth j) xs)) no)
        go false e more = ap (λ o. cond (is_nth j x) (Some x) o) more

    -- those after a row are there once it is marked
    pub still_there : (p : X → Bool) (k i j n : ℕ) (xs : List X) → i < j → AreThere p j k xs → AreThere p j k (update_where (is_nth i) (at n) xs)
    still_there p zero i j n xs l there = tt
    still_there p (suc k) i j n xs l there = ((there.0.0, others i j n xs l ∙ there.0.1, there.0.2), still_there p k i (j + 1) n xs (omega (arith, l)) there.1)

    module _ (xs : List X) (one : (i : ℕ) → length (filter (is_nth i) xs) ≤ 1) where
      few : (k i : ℕ) → length (filter (in_run i k) xs) ≤ k
      few zero i = none_passes xs
      few (suc k) i = omega (arith, either (is_nth i) (in_run (i + 1) k) xs, few k (i + 1), one i)

      there_in : (P : X → Type 0) (p : X → Bool) → AllByRecursion P xs → (k i : ℕ) → ((x : X) → P x → in_run i k x ≡ true → p x ≡ true) → k ≤ length (filter (in_run i k) xs) → AreThere p i k xs
      there_in P p all zero i passes many = tt
      there_in P p all (suc k) i passes many =
          let most = either (is_nth i) (in_run (i + 1) k) xs in
          let it = once_found P (is_nth i) xs all (omega (arith, many, most, few k (i + 1), one i)) in (
            (it.0, it.1, passes it.0 it.2 (ap (λ b. b || in_run (i + 1) k it.0) it.3)),
            there_in P p all k (i + 1) (λ x holds h. passes x holds (later (is_nth i x) (in_run (i + 1) k x) h)) (omega (arith, many, most, few k (i + 1), one i)),
          )
        where
          later : (a b : Bool) → b ≡ true → (a || b) ≡ true
          later true b e = refl
          later false b e = e

      -- The rows that pass a narrower test, as one that they were not marked before, are as many as the run is long: then all of the run passed it, and was marked.
      pub run_is_marks : (p : X → Bool) (k i : ℕ) → ((x : X) → p x ≡ true → in_run i k x ≡ true) → length (filter p xs) ≡ k → (update_where p set xs ≡ marks i k xs) × AreThere p i k xs
      run_is_marks p k i within all =
          let same = tests_agree p (in_run i k) within xs (omega (arith, all, few k i)) in
          let more = no_more p (in_run i k) within xs in (
            updates_agree p (in_run i k) set xs same ∙ run_marks k i xs,
            there_in (λ x. p x ≡ in_run i k x) p same k i (λ x agree h. agree ∙ h) (omega (arith, all, more)),
          )
