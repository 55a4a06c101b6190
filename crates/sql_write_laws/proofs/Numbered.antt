-- Rows that are numbered from 1 in the order in which they came.
use Rattle.std.proofs.Common.{◌≡◌, ℕ, zero, suc, ◌+◌, ◌<◌, cond, List, [], ◌∷◌, ◌++◌, map, length, reverse, slice_get, Option, Some, unwrap_or, refl, sym, ap, ◌∙◌, arith}
use Rattle.std.specs.List.{enumerate_from, range_with_len}
use Rattle.std.specs.Ordering.{nat_cmp, on, is_gt}
use Rattle.std.specs.declared.cmp.Ordering.TheVariants.{Greater}
use Rattle.std.specs.Cmp.{nat_cmp_is}
use Rattle.std.proofs.lemmas.List.{reverse-append, map-append}
use Rattle.std.proofs.lemmas.Option.{slice_get-map}
use Rattle.sqlite_keyed.specs.Lists.{insert_sorted}
use Rattle.sql_tables.specs.TableEdits.{next_number}

map-reverse : {A B : Type 0} (f : A → B) (xs : List A) → map f (reverse xs) ≡ reverse (map f xs)
map-reverse f [] = refl
map-reverse f (x ∷ xs) =
    ap (map f) (reverse-append (x ∷ []) xs)
    ∙ map-append f (reverse xs) (x ∷ [])
    ∙ ap (λ l. l ++ f x ∷ []) (map-reverse f xs)
    ∙ sym (reverse-append (f x ∷ []) (map f xs))

pub range_more : (a n : ℕ) → range_with_len a (suc n) ≡ range_with_len a n ++ (n + a) ∷ []
range_more a zero = ap (λ k. k ∷ []) (let e : a ≡ 0 + a = omega arith in e)
range_more a (suc n) = ap (λ l. a ∷ l) (range_more (a + 1) n ∙ ap (λ k. range_with_len (a + 1) n ++ k ∷ []) (let e : n + (a + 1) ≡ suc n + a = omega arith in e))

last_of_range : (m : ℕ) → unwrap_or (slice_get (reverse (range_with_len 1 m)) 0) 0 ≡ m
last_of_range zero = refl
last_of_range (suc m) = ap (λ l. unwrap_or (slice_get (reverse l) 0) 0) (range_more 1 m) ∙ ap (λ l. unwrap_or (slice_get l 0) 0) (reverse-append (range_with_len 1 m) ((m + 1) ∷ [])) ∙ (let e : m + 1 ≡ suc m = omega arith in e)

module _ {X : Type 0} (number : X → ℕ) where
  -- the number after the last
  pub next_is : (xs : List X) (m : ℕ) → map number xs ≡ range_with_len 1 m → next_number number xs ≡ m + 1
  next_is xs m is =
      ap (λ (o : Option ℕ). unwrap_or o 0 + 1) (sym (slice_get-map number (reverse xs) 0) ∙ ap (λ l. slice_get l 0) (map-reverse number xs ∙ ap reverse is))
      ∙ ap (λ k. k + 1) (last_of_range m)

  -- what has the next number stands behind the others
  pub insert_last : (xs : List X) (new : X) (a m : ℕ) → map number xs ≡ range_with_len a m → number new ≡ m + a → insert_sorted (on number nat_cmp) new xs ≡ xs ++ new ∷ []
  insert_last [] new a m is next = refl
  insert_last (x ∷ xs) new a zero is next = cc
  insert_last (x ∷ xs) new a (suc m) is next =
      let first : number x ≡ a = cc in
      let rest : map number xs ≡ range_with_len (a + 1) m = cc in
      let above : number x < number new = omega (arith, first, next) in
      let greater : nat_cmp (number new) (number x) ≡ Greater = sym (nat_cmp_is (number new) (number x) Greater above) in
      ap (λ o. cond (is_gt o) (x ∷ insert_sorted (on number nat_cmp) new xs) (new ∷ x ∷ xs)) greater
      ∙ ap (λ l. x ∷ l) (insert_last xs new (a + 1) m rest (omega (arith, next)))

-- rows made of what is enumerated have its numbers
pub numbers_are : {X Y : Type 0} (number : Y → ℕ) (row : ℕ × X → Option Y) → ((p : ℕ × X) (y : Y) → row p ≡ Some y → number y ≡ p.0)
    → (n : ℕ) (xs : List X) (ys : List Y) → map Some ys ≡ map row (enumerate_from n xs) → map number ys ≡ range_with_len n (length xs)
numbers_are number row has n [] [] is = refl
numbers_are number row has n [] (y ∷ ys) is = cc
numbers_are number row has n (x ∷ xs) [] is = cc
numbers_are number row has n (x ∷ xs) (y ∷ ys) is =
    let first : row (n, x) ≡ Some y = cc in
    let rest : map Some ys ≡ map row (enumerate_from (n + 1) xs) = cc in
    λ i. has (n, x) y first i ∷ numbers_are number row has (n + 1) xs ys rest i

pub some_same : {X : Type 0} {x y : X} → Some x ≡ Some y → x ≡ y
some_same h = cc
