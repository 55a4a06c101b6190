-- A new row stands between those below its key and those above.
use Rattle.std.proofs.Common.{◌≡◌, ◌+◌, ◌≤◌, Bool, true, false, cond, List, [], ◌∷◌, ◌++◌, filter, find, length, Option, Some, None, refl, sym, ap, ◌∙◌, is_gt, arith, append-nil}
use Rattle.std.specs.Prelude.{Contains, filter_map}
use Rattle.std.specs.Cmp.{IsTotalOrder}
use Rattle.std.specs.List.{AllByRecursion, cons_option}
use Rattle.std.specs.Option.{option_or}
use Rattle.std.specs.declared.cmp.Ordering.{Ordering}
use Rattle.std.specs.declared.cmp.Ordering.TheVariants.{Less, Equal, Greater}
use Rattle.std.proofs.lemmas.List.Elements.{All-from_recursion, recursion_from_All, All-contains, All-contains_itself, filter-append}
use Rattle.std.proofs.lemmas.List.Folds.{find-append}
use Rattle.sqlite_trees.specs.Tree.{IsAscending}
use Rattle.sqlite_keyed.specs.Lists.{insert_sorted}
use Rattle.sqlite_keyed.proofs.ListLemmas.{all_weaker}

module _ {X : Type 0} (cmp : X → X → Ordering) (new : X) where
  pub insert_between : (before after : List X) → AllByRecursion (λ y. is_gt (cmp new y) ≡ true) before → AllByRecursion (λ y. is_gt (cmp new y) ≡ false) after → insert_sorted cmp new (before ++ after) ≡ before ++ new ∷ after
  insert_between [] [] above below = refl
  insert_between [] (y ∷ ys) above below = ap (λ b. cond b (y ∷ insert_sorted cmp new ys) (new ∷ y ∷ ys)) below.0
  insert_between (x ∷ xs) after above below =
      ap (λ b. cond b (x ∷ insert_sorted cmp new (xs ++ after)) (new ∷ x ∷ xs ++ after)) above.0
      ∙ ap (λ l. x ∷ l) (insert_between xs after above.1 below)

  -- where a list goes on below and above a key
  pub record Split (xs : List X) : Type 0 where
    pub before : List X
    pub after : List X
    pub is : xs ≡ before ++ after
    pub above : AllByRecursion (λ y. cmp new y ≡ Greater) before
    pub below : AllByRecursion (λ y. cmp new y ≡ Less) after

  pub split : IsTotalOrder cmp → (xs : List X) → IsAscending (λ a b. cmp a b ≡ Less) xs → AllByRecursion (λ y. cmp new y ≡ Equal → ⊥) xs → Split xs
  split total [] up apart = record { before = []; after = []; is = refl; above = tt; below = tt }
  split total (x ∷ xs) up apart = go (cmp new x) refl (split total xs up.1 apart.1)
    where
      go : (o : Ordering) → cmp new x ≡ o → Split xs → Split (x ∷ xs)
      go Less e rest = record { before = []; after = x ∷ xs; is = refl; above = tt; below = (e, all_weaker _ (λ y. cmp new y ≡ Less) (λ y. total.trans new x y e) xs up.0) }
      go Equal e rest = absurd (apart.0 e)
      go Greater e rest = record { before = x ∷ rest.before; after = rest.after; is = ap (λ l. x ∷ l) rest.is; above = (e, rest.above); below = rest.below }

pub parts : {X : Type 0} (P : X → Type 0) (xs ys : List X) → AllByRecursion P (xs ++ ys) → AllByRecursion P xs × AllByRecursion P ys
parts P [] ys h = (tt, h)
parts P (x ∷ xs) ys h = let more = parts P xs ys h.1 in ((h.0, more.0), more.1)

module _ {X : Type 0} (new : X) (before after : List X) where
  pub all_middle : (P : X → Type 0) → P new → AllByRecursion P (before ++ after) → AllByRecursion P (before ++ new ∷ after)
  all_middle P h all = go before all
    where
      go : (xs : List X) → AllByRecursion P (xs ++ after) → AllByRecursion P (xs ++ new ∷ after)
      go [] k = (h, k)
      go (x ∷ xs) k = (k.0, go xs k.1)

  pub contains_middle : (y : X) → Contains (before ++ after) y → Contains (before ++ new ∷ after) y
  contains_middle y h =
      let all = before ++ new ∷ after in
      let both = parts (Contains all) before (new ∷ after) (recursion_from_All (Contains all) all (All-contains_itself all)) in
      All-contains (Contains all) (before ++ after) y (All-from_recursion (Contains all) (before ++ after) (joined (Contains all) before both.0 both.1.1)) h
    where
      joined : (P : X → Type 0) (xs : List X) → AllByRecursion P xs → AllByRecursion P after → AllByRecursion P (xs ++ after)
      joined P [] h k = k
      joined P (x ∷ xs) h k = (h.0, joined P xs h.1 k)

  module _ (p : X → Bool) where
    pub find_middle : p new ≡ false → find p (before ++ new ∷ after) ≡ find p (before ++ after)
    find_middle out = find-append p before (new ∷ after) ∙ ap (λ b. option_or (find p before) (cond b (Some new) (find p after))) out ∙ sym (find-append p before after)

    pub filter_middle : p new ≡ false → filter p (before ++ new ∷ after) ≡ filter p (before ++ after)
    filter_middle out = filter-append p before (new ∷ after) ∙ ap (λ b. filter p before ++ cond b (new ∷ filter p after) (filter p after)) out ∙ sym (filter-append p before after)

    -- what passes stands last, where nothing after it does
    pub filter_last : filter p after ≡ [] → filter p (before ++ new ∷ after) ≡ filter p (before ++ after) ++ cond (p new) (new ∷ []) []
    filter_last none =
        filter-append p before (new ∷ after)
        ∙ ap (λ l. filter p before ++ cond (p new) (new ∷ l) l) none
        ∙ ap (λ l. l ++ cond (p new) (new ∷ []) []) (sym (filter-append p before after ∙ ap (λ l. filter p before ++ l) none ∙ append-nil (filter p before)))

    pub length_middle : length (filter p (before ++ new ∷ after)) ≤ length (filter p (before ++ after)) + 1
    length_middle = go before
      where
        first : (b : Bool) (l : List X) → length (cond b (new ∷ l) l) ≤ length l + 1
        first true l = omega arith
        first false l = omega arith

        longer : (b : Bool) (x : X) (k l : List X) → length k ≤ length l + 1 → length (cond b (x ∷ k) k) ≤ length (cond b (x ∷ l) l) + 1
        longer true x k l h = omega (arith, h)
        longer false x k l h = h

        go : (xs : List X) → length (filter p (xs ++ new ∷ after)) ≤ length (filter p (xs ++ after)) + 1
        go [] = first (p new) (filter p after)
        go (x ∷ xs) = longer (p x) x (filter p (xs ++ new ∷ after)) (filter p (xs ++ after)) (go xs)

    -- what gives nothing may be left out
    pub filter_map_middle : {Y : Type 0} (g : X → Option Y) → g new ≡ None → filter_map g (filter p (before ++ new ∷ after)) ≡ filter_map g (filter p (before ++ after))
    filter_map_middle {Y} g none = go before
      where
        first : (b : Bool) (l : List X) → filter_map g (cond b (new ∷ l) l) ≡ filter_map g l
        first true l = ap (λ o. cons_option o (filter_map g l)) none
        first false l = refl

        both : (b : Bool) (x : X) (k l : List X) → filter_map g k ≡ filter_map g l → filter_map g (cond b (x ∷ k) k) ≡ filter_map g (cond b (x ∷ l) l)
        both true x k l h = ap (λ m. cons_option (g x) m) h
        both false x k l h = h

        go : (xs : List X) → filter_map g (filter p (xs ++ new ∷ after)) ≡ filter_map g (filter p (xs ++ after))
        go [] = first (p new) (filter p after)
        go (x ∷ xs) = both (p x) x (filter p (xs ++ new ∷ after)) (filter p (xs ++ after)) (go xs)
