-- What is found in lists, where at most one element passes.
use Rattle.std.proofs.Common.{◌≡◌, ℕ, zero, suc, ◌+◌, ◌<◌, ◌≤◌, ◌&&◌, ◌==◌, Bool, true, false, cond, List, [], ◌∷◌, map, filter, find, length, Option, Some, None, option_map, refl, sym, subst, ap, ◌∙◌, arith, true≢false}
use Rattle.std.specs.Prelude.{Contains}
use Rattle.std.specs.List.{AllByRecursion, range_with_len}
use Rattle.std.specs.Option.{option_or}
use Rattle.std.proofs.lemmas.Bool.{ne_eqb, eqb-true}
use Rattle.std.proofs.lemmas.List.{get_or-map, length-map}
use Rattle.sqlite_keyed.proofs.ListLemmas.{all_weaker}

pub find-map : {X Y : Type 0} (p : Y → Bool) (f : X → Y) (xs : List X) → find p (map f xs) ≡ option_map f (find (λ x. p (f x)) xs)
find-map p f [] = refl
find-map p f (x ∷ xs) = elim (p (f x)) as (λ b. cond b (Some (f x)) (find p (map f xs)) ≡ option_map f (cond b (Some x) (find (λ y. p (f y)) xs))) [ true ↦ refl | false ↦ find-map p f xs ]

pub contains-map : {X Y : Type 0} (f : X → Y) (xs : List X) (x : X) → Contains xs x → Contains (map f xs) (f x)
contains-map f xs x h = (h.0, subst (λ n. h.0 < n) (sym (length-map xs f)) h.1, get_or-map f xs h.0 x (f x) h.1 ∙ ap f h.2)

pub filter-both : {X : Type 0} (p q : X → Bool) (xs : List X) → filter (λ x. p x && q x) xs ≡ filter q (filter p xs)
filter-both p q [] = refl
filter-both p q (x ∷ xs) = elim (p x) as (λ b. cond (b && q x) (x ∷ filter (λ y. p y && q y) xs) (filter (λ y. p y && q y) xs) ≡ filter q (cond b (x ∷ filter p xs) (filter p xs))) [
  | true ↦ ap (λ l. cond (q x) (x ∷ l) l) (filter-both p q xs)
  | false ↦ filter-both p q xs
]

pub nothing_mapped : {X Y : Type 0} (f : X → Y) (xs : List X) → map f xs ≡ [] → xs ≡ []
nothing_mapped f [] h = refl
nothing_mapped f (x ∷ xs) h = cc

pub or_none : {X : Type 0} (o : Option X) → option_or o None ≡ o
or_none None = refl
or_none (Some x) = refl

module _ {X : Type 0} (p : X → Bool) where
  pub found_passes : (xs : List X) (x : X) → find p xs ≡ Some x → p x ≡ true
  found_passes [] x is = cc
  found_passes (y ∷ ys) x is = go (p y) refl is (found_passes ys x)
    where
      go : (b : Bool) → p y ≡ b → cond b (Some y) (find p ys) ≡ Some x → (find p ys ≡ Some x → p x ≡ true) → p x ≡ true
      go true e found more = let same : y ≡ x = cc in subst (λ z. p z ≡ true) same e
      go false e found more = more found

  pub found_holds : (P : X → Type 0) (xs : List X) (x : X) → AllByRecursion P xs → find p xs ≡ Some x → P x
  found_holds P [] x all is = cc
  found_holds P (y ∷ ys) x all is = go (p y) is (found_holds P ys x all.1)
    where
      go : (b : Bool) → cond b (Some y) (find p ys) ≡ Some x → (find p ys ≡ Some x → P x) → P x
      go true found more = let same : y ≡ x = cc in subst P same all.0
      go false found more = more found

  pub none_passes : (xs : List X) → find p xs ≡ None → AllByRecursion (λ x. p x ≡ false) xs
  none_passes [] is = tt
  none_passes (y ∷ ys) is = go (p y) refl is (none_passes ys)
    where
      go : (b : Bool) → p y ≡ b → cond b (Some y) (find p ys) ≡ None → (find p ys ≡ None → AllByRecursion (λ x. p x ≡ false) ys) → AllByRecursion (λ x. p x ≡ false) (y ∷ ys)
      go true e found more = cc
      go false e found more = (e, more found)

  pub none_found : (xs : List X) → AllByRecursion (λ x. p x ≡ false) xs → find p xs ≡ None
  none_found [] all = refl
  none_found (y ∷ ys) all = ap (λ b. cond b (Some y) (find p ys)) all.0 ∙ none_found ys all.1

  -- none passes where none is counted
  pub none_counted : (xs : List X) → length (filter p xs) ≤ 0 → AllByRecursion (λ x. p x ≡ false) xs
  none_counted [] few = tt
  none_counted (y ∷ ys) few = go (p y) refl few (none_counted ys)
    where
      go : (b : Bool) → p y ≡ b → length (cond b (y ∷ filter p ys) (filter p ys)) ≤ 0 → (length (filter p ys) ≤ 0 → AllByRecursion (λ x. p x ≡ false) ys) → AllByRecursion (λ x. p x ≡ false) (y ∷ ys)
      go true e k more = absurd (omega (arith, k))
      go false e k more = (e, more k)

  -- what passes is the one that is found
  pub alone : (xs : List X) → length (filter p xs) ≤ 1 → AllByRecursion (λ x. p x ≡ true → find p xs ≡ Some x) xs
  alone [] few = tt
  alone (y ∷ ys) few = go (p y) refl few (alone ys)
    where
      go : (b : Bool) → p y ≡ b → length (cond b (y ∷ filter p ys) (filter p ys)) ≤ 1 → (length (filter p ys) ≤ 1 → AllByRecursion (λ x. p x ≡ true → find p ys ≡ Some x) ys)
          → (p y ≡ true → cond b (Some y) (find p ys) ≡ Some y) × AllByRecursion (λ x. p x ≡ true → cond b (Some y) (find p ys) ≡ Some x) ys
      go true e k more = ((λ _. refl), all_weaker _ (λ x. p x ≡ true → Some y ≡ Some x) (λ x out is. absurd (true≢false (sym is ∙ out))) ys (none_counted ys (omega (arith, k))))
      go false e k more = ((λ is. absurd (true≢false (sym is ∙ e))), more k)

  pub filter_found : (xs : List X) (x : X) → length (filter p xs) ≤ 1 → find p xs ≡ Some x → filter p xs ≡ x ∷ []
  filter_found [] x few is = cc
  filter_found (y ∷ ys) x few is = go (p y) few is (filter_found ys x)
    where
      empty : (zs : List X) → length zs ≤ 0 → zs ≡ []
      empty [] h = refl
      empty (z ∷ zs) h = absurd (omega (arith, h))

      go : (b : Bool) → length (cond b (y ∷ filter p ys) (filter p ys)) ≤ 1 → cond b (Some y) (find p ys) ≡ Some x → (length (filter p ys) ≤ 1 → find p ys ≡ Some x → filter p ys ≡ x ∷ [])
          → cond b (y ∷ filter p ys) (filter p ys) ≡ x ∷ []
      go true k found more = let same : y ≡ x = cc in λ i. same i ∷ empty (filter p ys) (omega (arith, k)) i
      go false k found more = more k found

-- ---- numbers that go on from a first one

module _ {X : Type 0} (number : X → ℕ) (n : ℕ) where
  none_below : (a m : ℕ) (xs : List X) → map number xs ≡ range_with_len a m → n < a → length (filter (λ x. number x == n) xs) ≡ 0
  none_below a m [] is low = refl
  none_below a zero (x ∷ xs) is low = cc
  none_below a (suc m) (x ∷ xs) is low =
      let first : number x ≡ a = cc in
      let rest : map number xs ≡ range_with_len (a + 1) m = cc in
      ap (λ b. length (cond b (x ∷ filter (λ y. number y == n) xs) (filter (λ y. number y == n) xs))) (ne_eqb (number x) n (λ e. omega (arith, e, first, low)))
      ∙ none_below (a + 1) m xs rest (omega (arith, low))

  pub once_numbered : (a m : ℕ) (xs : List X) → map number xs ≡ range_with_len a m → length (filter (λ x. number x == n) xs) ≤ 1
  once_numbered a m [] is = omega arith
  once_numbered a zero (x ∷ xs) is = cc
  once_numbered a (suc m) (x ∷ xs) is =
      let first : number x ≡ a = cc in
      let rest : map number xs ≡ range_with_len (a + 1) m = cc in
      go (number x == n) refl first (once_numbered (a + 1) m xs rest) (none_below (a + 1) m xs rest)
    where
      go : (b : Bool) → (number x == n) ≡ b → number x ≡ a → length (filter (λ y. number y == n) xs) ≤ 1 → (n < a + 1 → length (filter (λ y. number y == n) xs) ≡ 0)
          → length (cond b (x ∷ filter (λ y. number y == n) xs) (filter (λ y. number y == n) xs)) ≤ 1
      go true e first more none = let at : number x ≡ n = eqb-true (number x) n e in let z = none (omega (arith, at, first)) in omega (arith, z)
      go false e first more none = more
