-- What a plain table holds after an edit.
use Rattle.std.proofs.Common.{◌≡◌, ℕ, ℤ, pos, ◌+ℤ◌, Bool, true, false, not, ◌||◌, cond, List, [], ◌∷◌, ◌++◌, map, filter, fold, refl, sym, ap, ◌∙◌, subst, arith, Ordering, Less, Equal, Greater, int_cmp, int_eq, IsPermutation, true≢false, append-nil}
use Rattle.std.specs.List.{AllByRecursion, list_any}
use Rattle.std.specs.Ordering.{match_ordering}
use Rattle.std.proofs.lemmas.Bool.{and_parts, not-true, or_parts}
use Rattle.std.proofs.lemmas.List.Sorted.{IsPermutation-refl, IsPermutation-cons, IsPermutation-trans, IsPermutation-sym, IsPermutation-middle, IsPermutation-map, IsPermutation-append_right, IsPermutation-append_left, list_any-IsPermutation}
use Rattle.sqlite_value.specs.Order.{Row}
use Rattle.sqlite_value.proofs.OrderLemmas.{value_cmp-Int}
use Rattle.sqlite_trees.specs.Tree.{put_row}
use Rattle.sqlite_rules.specs.Edit.{put_all, without_all, is_taken, are_fresh, next_rowid}
use Rattle.sqlite_keyed.specs.Keyed.{IsKeyedBy, insert_by}
use Rattle.sqlite_keyed.specs.Lists.{without_key, delete_where, update_where}
use Rattle.sqlite_keyed.proofs.KeyedLemmas.{IsKeyedBy-insert_by, IsKeyedBy-delete_where}
use Rattle.sqlite_keyed.proofs.WriteLemmas.{removes_delete}
use Rattle.sqlite_keyed.proofs.ListLemmas.{along_permutation, IsPermutation-filter, filter-map, filter_same, map-map}
use Rattle.sqlite_typed.proofs.RowLemmas.{puts-map, deletes-map}
use Rattle.sql_statements.specs.StoredRows.{Form, rowid_of, row_of, Stores}

-- what a list of images is in another order, its sources are
pub unmapped : {A B : Type 0} (f : A → B) (ps : List A) (ys : List B) → IsPermutation (map f ps) ys → (qs : List A) × (ys ≡ map f qs) × IsPermutation ps qs
unmapped {A} {B} f ps ys h =
    along_permutation (λ xs ys. (ps : List A) → xs ≡ map f ps → (qs : List A) × (ys ≡ map f qs) × IsPermutation ps qs)
    (λ xs ps is. (ps, is, IsPermutation-refl ps))
    skip turn
    (λ xs ys zs one two ps is. let a = one ps is in let b = two a.0 a.1 in (b.0, b.1, IsPermutation-trans _ _ _ a.2 b.2))
    (map f ps) ys h ps refl
  where
    skip : (x : B) (xs ys : List B) → ((ps : List A) → xs ≡ map f ps → (qs : List A) × (ys ≡ map f qs) × IsPermutation ps qs)
        → (ps : List A) → x ∷ xs ≡ map f ps → (qs : List A) × (x ∷ ys ≡ map f qs) × IsPermutation ps qs
    skip x xs ys one [] is = cc
    skip x xs ys one (p ∷ ps) is =
        let first : x ≡ f p = cc in
        let later = one ps cc in
        (p ∷ later.0, Rattle.std.proofs.Common.ap₂ (λ a l. a ∷ l) first later.1, IsPermutation-cons p _ _ later.2)

    turn : (x y : B) (xs : List B) (ps : List A) → x ∷ y ∷ xs ≡ map f ps → (qs : List A) × (y ∷ x ∷ xs ≡ map f qs) × IsPermutation ps qs
    turn x y xs [] is = cc
    turn x y xs (p ∷ []) is = cc
    turn x y xs (p ∷ r ∷ ps) is =
        let a : x ≡ f p = cc in let b : y ≡ f r = cc in let c : xs ≡ map f ps = cc in
        (r ∷ p ∷ ps, rw (a, b, c) refl, IsPermutation-sym _ _ (IsPermutation-middle (r ∷ []) p ps))

-- those that pass are set, and the others follow
split_update : {X : Type 0} (p : X → Bool) (f : X → X) (xs : List X) → IsPermutation (map f (filter p xs) ++ delete_where p xs) (update_where p f xs)
split_update p f [] = IsPermutation-refl []
split_update {X} p f (x ∷ xs) = go (p x) (split_update p f xs)
  where
    go : (b : Bool) → IsPermutation (map f (filter p xs) ++ delete_where p xs) (update_where p f xs)
        → IsPermutation (map f (cond b (x ∷ filter p xs) (filter p xs)) ++ cond (not b) (x ∷ delete_where p xs) (delete_where p xs)) (cond b (f x) x ∷ update_where p f xs)
    go true more = IsPermutation-cons (f x) _ _ more
    go false more = IsPermutation-trans _ _ _ (IsPermutation-middle (map f (filter p xs)) x (delete_where p xs)) (IsPermutation-cons x _ _ more)

module _ {X : Type 0} (key : X → ℤ) where
  abbrev is_gone : List ℤ → X → Bool
  is_gone ids x = list_any (λ id. int_eq (key x) id) ids

  removed_are : (ids : List ℤ) (xs : List X) → fold (without_key key) xs ids ≡ filter (λ x. not (is_gone ids x)) xs
  removed_are [] [] = refl
  removed_are [] (x ∷ xs) = ap (λ l. x ∷ l) (removed_are [] xs)
  removed_are (id ∷ ids) xs = removed_are ids (without_key key xs id) ∙ both xs
    where
      both : (xs : List X) → filter (λ x. not (is_gone ids x)) (without_key key xs id) ≡ filter (λ x. not (is_gone (id ∷ ids) x)) xs
      both [] = refl
      both (x ∷ xs) =
          rw (← both xs) (elim (int_eq (key x) id) as (λ b. filter (λ y. not (is_gone ids y)) (cond (not b) (x ∷ without_key key xs id) (without_key key xs id))
          ≡ cond (not (b || is_gone ids x)) (x ∷ filter (λ y. not (is_gone ids y)) (without_key key xs id)) (filter (λ y. not (is_gone ids y)) (without_key key xs id))) [ true ↦ refl | false ↦ refl ])

  -- the keys may come in any order
  pub removes_in_any_order : (p : X → Bool) (xs sel : List X) → IsKeyedBy key xs → IsPermutation (filter p xs) sel → fold (without_key key) xs (map key sel) ≡ delete_where p xs
  removes_in_any_order p xs sel up same =
      removed_are (map key sel) xs
      ∙ filter_same _ _ (λ x. ap not (sym (list_any-IsPermutation (λ id. int_eq (key x) id) _ _ (IsPermutation-map key _ _ same)))) xs
      ∙ sym (removed_are (map key (filter p xs)) xs) ∙ removes_delete key p xs up

module _ {X : Type 0} (form : Form X) where
  abbrev id : ℤ × X → ℤ
  id = rowid_of form

  abbrev has_id : List (ℤ × X) → ℤ × X → Bool
  has_id ps new = list_any (λ p. int_eq (id p) (id new)) ps

  taken_is : (ps : List (ℤ × X)) (new : ℤ × X) → is_taken (map (row_of form) ps) (row_of form new) ≡ has_id ps new
  taken_is [] new = refl
  taken_is (p ∷ ps) new = rw (value_cmp-Int (id p) (id new), taken_is ps new) refl

  apart_from : (p new : ℤ × X) → int_eq (id p) (id new) ≡ false → int_cmp (id p) (id new) ≡ Equal → ⊥
  apart_from p new h e = true≢false (sym (ap Rattle.std.specs.Ordering.is_eq e) ∙ h)

  put_moves : (ps : List (ℤ × X)) (new : ℤ × X) → has_id ps new ≡ false → IsPermutation (new ∷ ps) (insert_by id ps new)
  put_moves [] new free = IsPermutation-refl _
  put_moves (p ∷ ps) new free = go (int_cmp (id p) (id new)) refl (put_moves ps new (or_parts _ _ free).1)
    where
      go : (o : Ordering) → int_cmp (id p) (id new) ≡ o → IsPermutation (new ∷ ps) (insert_by id ps new) → IsPermutation (new ∷ p ∷ ps) (match_ordering o (p ∷ insert_by id ps new) (new ∷ ps) (new ∷ p ∷ ps))
      go Less e more = IsPermutation-trans _ _ _ (IsPermutation-sym _ _ (IsPermutation-middle (p ∷ []) new ps)) (IsPermutation-cons p _ _ more)
      go Equal e more = absurd (apart_from p new (or_parts _ _ free).0 e)
      go Greater e more = IsPermutation-refl _

  -- the rows that were put in, each under a rowid that was free
  pub puts_store : (news ps : List (ℤ × X)) → are_fresh (map (row_of form) ps) (map (row_of form) news) ≡ true → IsKeyedBy id ps
      → (qs : List (ℤ × X)) × (put_all (map (row_of form) ps) (map (row_of form) news) ≡ map (row_of form) qs) × IsKeyedBy id qs × IsPermutation (news ++ ps) qs
  puts_store [] ps fresh up = (ps, refl, up, IsPermutation-refl ps)
  puts_store (n ∷ news) ps fresh up =
      let parts = and_parts _ _ fresh in
      let free : has_id ps n ≡ false = sym (taken_is ps n) ∙ not-true _ parts.0 in
      let put : put_row (row_of form n) (map (row_of form) ps) ≡ map (row_of form) (insert_by id ps n) = puts-map id (row_of form) (λ _. refl) (n ∷ []) ps in
      let rest = puts_store news (insert_by id ps n) (subst (λ l. are_fresh l (map (row_of form) news) ≡ true) put parts.1) (IsKeyedBy-insert_by id ps n up) in (
        rest.0,
        ap (λ l. put_all l (map (row_of form) news)) put ∙ rest.1,
        rest.2,
        IsPermutation-trans _ _ _ (IsPermutation-sym _ _ (IsPermutation-middle news n ps)) (IsPermutation-trans _ _ _ (IsPermutation-append_right news _ _ (put_moves ps n free)) rest.3),
      )

  -- a new row under the rowid that the table chooses
  pub stores_insert : (rows next : List Row) (xs : List X) (x : X) → Stores form rows xs
      → let new = row_of form (next_rowid rows, x) in are_fresh rows (new ∷ []) ≡ true → next ≡ put_all rows (new ∷ []) → Stores form next (x ∷ xs)
  stores_insert rows next xs x h fresh is =
      let i = next_rowid rows in
      let put = puts_store ((i, x) ∷ []) h.numbered (subst (λ l. are_fresh l (row_of form (i, x) ∷ []) ≡ true) h.are fresh) h.rise in
      record {
        numbered = put.0;
        are = is ∙ ap (λ l. put_all l (row_of form (i, x) ∷ [])) h.are ∙ put.1;
        rise = put.2;
        same = IsPermutation-trans _ _ _ (IsPermutation-sym _ _ (IsPermutation-map (λ (p : ℤ × X). p.1) _ _ put.3)) (IsPermutation-cons x _ _ h.same);
      }

  -- the values in another order
  pub stores_in : (rows : List Row) (xs ys : List X) → IsPermutation xs ys → Stores form rows xs → Stores form rows ys
  stores_in rows xs ys same h = record { numbered = h.numbered; are = h.are; rise = h.rise; same = IsPermutation-trans _ _ _ h.same same }

  -- The rows of those that pass are taken out, in any order, and these are put in.
  pub stores_edit : (rows next : List Row) (xs : List X) (p : X → Bool) (h : Stores form rows xs) (sel news : List (ℤ × X)) → IsPermutation (filter (λ r. p r.1) h.numbered) sel
      → let left = without_all rows (map id sel) in are_fresh left (map (row_of form) news) ≡ true → next ≡ put_all left (map (row_of form) news)
      → Stores form next (map (λ r. r.1) news ++ delete_where p xs)
  stores_edit rows next xs p h sel news same fresh is =
      let passes = λ (r : ℤ × X). p r.1 in
      let left : without_all rows (map id sel) ≡ map (row_of form) (delete_where passes h.numbered) =
      ap (λ l. without_all l (map id sel)) h.are ∙ deletes-map id (row_of form) (λ _. refl) (map id sel) h.numbered
      ∙ ap (map (row_of form)) (removes_in_any_order id passes h.numbered sel h.rise same) in
      let put = puts_store news (delete_where passes h.numbered) (subst (λ l. are_fresh l (map (row_of form) news) ≡ true) left fresh) (IsKeyedBy-delete_where id passes h.numbered h.rise) in
      let values = λ (r : ℤ × X). r.1 in
      record {
        numbered = put.0;
        are = is ∙ ap (λ l. put_all l (map (row_of form) news)) left ∙ put.1;
        rise = put.2;
        same = IsPermutation-trans _ _ _ (IsPermutation-sym _ _ (IsPermutation-map values _ _ put.3))
            (subst (λ l. IsPermutation l (map values news ++ delete_where p xs)) (sym (Rattle.std.proofs.lemmas.List.map-append values news (delete_where passes h.numbered)))
            (IsPermutation-append_right (map values news) _ _ (subst (λ l. IsPermutation l (delete_where p xs)) (filter-map (λ x. not (p x)) values h.numbered) (IsPermutation-filter (λ x. not (p x)) _ _ h.same))));
      }

  pub stores_update : (rows next : List Row) (xs : List X) (p : X → Bool) (f : X → X) (h : Stores form rows xs) (sel : List (ℤ × X)) → IsPermutation (filter (λ r. p r.1) h.numbered) sel
      → let news = map {B = ℤ × X} (λ (r : ℤ × X). (r.0, f r.1)) sel in let left = without_all rows (map id sel) in are_fresh left (map (row_of form) news) ≡ true → next ≡ put_all left (map (row_of form) news)
      → Stores form next (update_where p f xs)
  stores_update rows next xs p f h sel same fresh is =
      let news = map {B = ℤ × X} (λ (r : ℤ × X). (r.0, f r.1)) sel in
      let values = λ (r : ℤ × X). r.1 in
      let picked : IsPermutation (map values sel) (filter p xs) =
      IsPermutation-trans _ _ _ (IsPermutation-sym _ _ (IsPermutation-map values _ _ same))
      (subst (λ l. IsPermutation l (filter p xs)) (filter-map p values h.numbered) (IsPermutation-filter p _ _ h.same)) in
      let moved : IsPermutation (map values news ++ delete_where p xs) (map f (filter p xs) ++ delete_where p xs) =
      IsPermutation-append_left (delete_where p xs) _ _ (subst (λ l. IsPermutation l (map f (filter p xs))) (map-map f values sel ∙ sym (map-map {B = ℤ × X} values (λ (r : ℤ × X). (r.0, f r.1)) sel)) (IsPermutation-map f _ _ picked)) in
      stores_in next _ (update_where p f xs) (IsPermutation-trans _ _ _ moved (split_update p f xs)) (stores_edit rows next xs p h sel news same fresh is)
