-- What is looked up after a row was put under its key, or set where the key is there.
use Rattle.std.proofs.Common.{◌≡◌, Bool, true, false, ◌||◌, cond, List, [], ◌∷◌, find, Option, Some, None, option_map, refl, sym, ap, ◌∙◌, is_gt, true≢false}
use Rattle.std.specs.List.{list_any}
use Rattle.std.specs.declared.cmp.Ordering.{Ordering}
use Rattle.sqlite_keyed.specs.Lists.{insert_sorted, update_where}

module _ {X K V : Type 0} (cmp : X → X → Ordering) (is : K → X → Bool) (value : X → V) (eq : K → K → Bool)
    (k : K) (new : X) (set : X → X) (v : V)
    (own : (j : K) → is j new ≡ eq k j) (keeps : (j : K) (x : X) → is j (set x) ≡ is j x)
    (new_value : value new ≡ v) (set_value : (x : X) → value (set x) ≡ v)
    (mine : (j : K) (x : X) → is k x ≡ true → is j x ≡ eq k j) (same : (j : K) → eq k j ≡ true → (x : X) → is j x ≡ is k x) where
  abbrev lookup : List X → K → Option V
  lookup xs j = option_map value (find (is j) xs)

  -- no row of the key is there
  placed : (xs : List X) (j : K) → list_any (is k) xs ≡ false → lookup (insert_sorted cmp new xs) j ≡ cond (eq k j) (Some v) (lookup xs j)
  placed [] j none =
      ap (λ b. option_map value (cond b (Some new) None)) (own j)
      ∙ elim (eq k j) as (λ b. option_map value (cond b (Some new) None) ≡ cond b (Some v) None) [ true ↦ ap Some new_value | false ↦ refl ]
  placed (x ∷ xs) j none = go (is_gt (cmp new x)) (is k x) (eq k j) (is j x) refl refl refl (placed xs j) none
    where
      go : (g a b c : Bool) → is k x ≡ a → eq k j ≡ b → is j x ≡ c → (list_any (is k) xs ≡ false → lookup (insert_sorted cmp new xs) j ≡ cond (eq k j) (Some v) (lookup xs j))
          → (a || list_any (is k) xs) ≡ false
          → option_map value (find (is j) (cond g (x ∷ insert_sorted cmp new xs) (new ∷ x ∷ xs))) ≡ cond b (Some v) (option_map value (cond c (Some x) (find (is j) xs)))
      go g true b c e f d more no_one = absurd (true≢false no_one)
      go true false true true e f d more no_one = absurd (true≢false (sym d ∙ (same j f x ∙ e)))
      go true false true false e f d more no_one = ap (λ t. option_map value (cond t (Some x) (find (is j) (insert_sorted cmp new xs)))) d ∙ more no_one ∙ ap (λ t. cond t (Some v) (lookup xs j)) f
      go true false false true e f d more no_one = ap (λ t. option_map value (cond t (Some x) (find (is j) (insert_sorted cmp new xs)))) d
      go true false false false e f d more no_one = ap (λ t. option_map value (cond t (Some x) (find (is j) (insert_sorted cmp new xs)))) d ∙ more no_one ∙ ap (λ t. cond t (Some v) (lookup xs j)) f
      go false false true c e f d more no_one = ap (λ t. option_map value (cond t (Some new) (find (is j) (x ∷ xs)))) (own j ∙ f) ∙ ap Some new_value
      go false false false c e f d more no_one =
          ap (λ t. option_map value (cond t (Some new) (find (is j) (x ∷ xs)))) (own j ∙ f) ∙ ap (λ t. option_map value (cond t (Some x) (find (is j) xs))) d

  abbrev after : List X → K → Option X
  after xs j = find (is j) (update_where (is k) set xs)

  -- one is
  reset : (xs : List X) (j : K) → lookup (update_where (is k) set xs) j ≡ cond (eq k j) (option_map (λ _. v) (find (is j) xs)) (lookup xs j)
  reset [] j = elim (eq k j) as (λ b. ◌≡◌ {A = Option V} None (cond b None None)) [ true ↦ refl | false ↦ refl ]
  reset (x ∷ xs) j = go (is k x) (eq k j) (is j x) refl refl refl (reset xs j)
    where
      go : (a b c : Bool) → is k x ≡ a → eq k j ≡ b → is j x ≡ c → option_map value (after xs j) ≡ cond (eq k j) (option_map (λ _. v) (find (is j) xs)) (lookup xs j)
          → option_map value (find (is j) (cond a (set x) x ∷ update_where (is k) set xs)) ≡ cond b (option_map (λ _. v) (cond c (Some x) (find (is j) xs))) (option_map value (cond c (Some x) (find (is j) xs)))
      go true true true e f d more = ap (λ t. option_map value (cond t (Some (set x)) (after xs j))) (keeps j x ∙ d) ∙ ap Some (set_value x)
      go true true false e f d more = ap (λ t. option_map value (cond t (Some (set x)) (after xs j))) (keeps j x ∙ d) ∙ more ∙ ap (λ t. cond t (option_map (λ _. v) (find (is j) xs)) (lookup xs j)) f
      go true false true e f d more = absurd (true≢false (sym d ∙ (mine j x e ∙ f)))
      go true false false e f d more = ap (λ t. option_map value (cond t (Some (set x)) (after xs j))) (keeps j x ∙ d) ∙ more ∙ ap (λ t. cond t (option_map (λ _. v) (find (is j) xs)) (lookup xs j)) f
      go false true true e f d more = absurd (true≢false (sym d ∙ (same j f x ∙ e)))
      go false true false e f d more = ap (λ t. option_map value (cond t (Some x) (after xs j))) d ∙ more ∙ ap (λ t. cond t (option_map (λ _. v) (find (is j) xs)) (lookup xs j)) f
      go false false true e f d more = ap (λ t. option_map value (cond t (Some x) (after xs j))) d
      go false false false e f d more = ap (λ t. option_map value (cond t (Some x) (after xs j))) d ∙ more ∙ ap (λ t. cond t (option_map (λ _. v) (find (is j) xs)) (lookup xs j)) f

  found_some : (xs : List X) → list_any (is k) xs ≡ true → option_map (λ _. v) (find (is k) xs) ≡ Some v
  found_some [] h = absurd (true≢false (sym h))
  found_some (x ∷ xs) h = go (is k x) h (found_some xs)
    where
      go : (a : Bool) → (a || list_any (is k) xs) ≡ true → (list_any (is k) xs ≡ true → option_map (λ _. v) (find (is k) xs) ≡ Some v) → option_map (λ _. v) (cond a (Some x) (find (is k) xs)) ≡ Some v
      go true h more = refl
      go false h more = more h

  pub put_found : (xs : List X) (j : K) → lookup (cond (list_any (is k) xs) (update_where (is k) set xs) (insert_sorted cmp new xs)) j ≡ cond (eq k j) (Some v) (lookup xs j)
  put_found xs j = go (list_any (is k) xs) refl
    where
      all_same : (b : Bool) → eq k j ≡ b → list_any (is k) xs ≡ true → cond b (option_map (λ _. v) (find (is j) xs)) (lookup xs j) ≡ cond b (Some v) (lookup xs j)
      all_same true e h = ap (λ (p : X → Bool). option_map (λ _. v) (find p xs)) (λ i x. same j e x i) ∙ found_some xs h
      all_same false e h = refl

      go : (b : Bool) → list_any (is k) xs ≡ b → lookup (cond b (update_where (is k) set xs) (insert_sorted cmp new xs)) j ≡ cond (eq k j) (Some v) (lookup xs j)
      go true e = reset xs j ∙ all_same (eq k j) refl e
      go false e = placed xs j e
