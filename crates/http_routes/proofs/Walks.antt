-- One pattern against a path, and the rows that contain it.
use Rattle.std.proofs.Common.{◌≡◌, ℕ, ◌⊎◌, inl, inr, Bool, true, false, not, ◌&&◌, ◌||◌, cond, List, [], ◌∷◌, Some, refl, sym, ap, ◌∙◌, subst}
use Rattle.std.proofs.lemmas.Bool.{eqb-true}
use Rattle.std.specs.Prelude.{◌==◌, ltb, IsSome}
use Rattle.std.specs.List.{list_all}
use Rattle.matchit.specs.Rows.{RowsOf}
use Rattle.matchit.specs.Seek.{segment, cuts, same_text, own, step, better, longest_from, with_suffix}

-- what is left of a path from its first slash on
abbrev pub after_run : List ℕ → List ℕ
after_run [] = []
after_run (b ∷ p) = cond (b == 47) (b ∷ p) (after_run p)

-- whether the tokens of one pattern take the whole path
abbrev pub takes : List ℕ → List ℕ → Bool
takes [] [] = true
takes [] (b ∷ p) = false
takes (x ∷ t) [] = false
takes (x ∷ t) (b ∷ p) = cond (x == 256) (not (b == 47) && takes t (after_run p)) ((x == b) && takes t p)

-- what follows a parameter is a slash, or nothing
abbrev pub ends_piece : List ℕ → Bool
ends_piece [] = true
ends_piece (x ∷ t) = x == 47

-- no token is a catch-all, and each parameter is a piece of its own
abbrev pub is_plain : List ℕ → Bool
is_plain [] = true
is_plain (x ∷ t) = not (x == 257) && (cond (x == 256) (ends_piece t) true && is_plain t)

abbrev pub byte : ℕ → Bool
byte b = ltb b 256

both : (a b : Bool) → (a && b) ≡ true → (a ≡ true) × (b ≡ true)
both true b e = (refl, e)
both false b e = absurd (cc)

pub first_true : (a b : Bool) → (a && b) ≡ true → a ≡ true
first_true a b e = (both a b e).0

pub second_true : (a b : Bool) → (a && b) ≡ true → b ≡ true
second_true a b e = (both a b e).1

pub and_true : (a b : Bool) → a ≡ true → b ≡ true → (a && b) ≡ true
and_true true b e f = f
and_true false b e f = absurd (cc)

abbrev pub best_of : Bool → List ℕ
best_of true = 47 ∷ []
best_of false = []

module _ {K : Type 0} where
  -- the rows have this one
  abbrev pub Among : List ℕ → K → RowsOf K → Type 0
  Among t k [] = ⊥
  Among t k ((u, l) ∷ rs) = ((t ≡ u) × (k ≡ l)) ⊎ Among t k rs

  -- every row's tokens pass
  abbrev pub every : (List ℕ → Bool) → RowsOf K → Bool
  every test rs = list_all (λ r. test r.0) rs

  pub own_among : (rs : RowsOf K) (k : K) → own rs ≡ Some k → Among [] k rs
  own_among [] k e = absurd (cc)
  own_among (([], l) ∷ rs) k e = inl (refl, (cc))
  own_among ((x ∷ t, l) ∷ rs) k e = inr (own_among rs k e)

  pub among_own : (rs : RowsOf K) (k : K) → Among [] k rs → IsSome (own rs)
  among_own [] k m = absurd m
  among_own (([], l) ∷ rs) k m = refl
  among_own ((x ∷ t, l) ∷ rs) k (inl m) = absurd (let e = m.0 in cc)
  among_own ((x ∷ t, l) ∷ rs) k (inr m) = among_own rs k m

  pub step_among : (b : ℕ) (rs : RowsOf K) (t : List ℕ) (k : K) → Among t k (step b rs) → Among (b ∷ t) k rs
  step_among b [] t k m = absurd m
  step_among b (([], l) ∷ rs) t k m = inr (step_among b rs t k m)
  step_among b ((x ∷ u, l) ∷ rs) t k m = by_test (x == b) refl m (λ n. step_among b rs t k n)
    where
      by_test : (c : Bool) → (x == b) ≡ c → Among t k (cond c ((u, l) ∷ step b rs) (step b rs)) → (Among t k (step b rs) → Among (b ∷ t) k rs)
          → Among (b ∷ t) k ((x ∷ u, l) ∷ rs)
      by_test true e (inl m) later = let same = eqb-true x b e in let tail = m.0 in inl ((cc), m.1)
      by_test true e (inr m) later = inr (later m)
      by_test false e m later = inr (later m)

  pub among_step : (x b : ℕ) (rs : RowsOf K) (t : List ℕ) (k : K) → (x == b) ≡ true → Among (x ∷ t) k rs → Among t k (step b rs)
  among_step x b [] t k e m = absurd m
  among_step x b (([], l) ∷ rs) t k e (inl m) = absurd (let f = m.0 in cc)
  among_step x b (([], l) ∷ rs) t k e (inr m) = among_step x b rs t k e m
  among_step x b ((y ∷ u, l) ∷ rs) t k e (inl m) =
      let heads : x ≡ y = let f = m.0 in cc in
      let tails : t ≡ u = let f = m.0 in cc in
      let same : (y == b) ≡ true = ap (λ z. z == b) (sym heads) ∙ e in
      let P : Bool → Type 0 = λ c. Among t k (cond c ((u, l) ∷ step b rs) (step b rs)) in
      subst P (sym same) (inl (tails, m.1))
  among_step x b ((y ∷ u, l) ∷ rs) t k e (inr m) = by_test (y == b) (among_step x b rs t k e m)
    where
      by_test : (c : Bool) → Among t k (step b rs) → Among t k (cond c ((u, l) ∷ step b rs) (step b rs))
      by_test true later = inr later
      by_test false later = later

  -- the rows that go on are plain where all are
  pub plain_step : (b : ℕ) (rs : RowsOf K) → every is_plain rs ≡ true → every is_plain (step b rs) ≡ true
  plain_step b [] e = refl
  plain_step b (([], l) ∷ rs) e = plain_step b rs e
  plain_step b ((x ∷ u, l) ∷ rs) e = by_test (x == b) (plain_step b rs (second_true (is_plain (x ∷ u)) _ e))
    where
      here : is_plain u ≡ true
      here = second_true (cond (x == 256) (ends_piece u) true) _ (second_true (not (x == 257)) _ (first_true (is_plain (x ∷ u)) _ e))

      by_test : (c : Bool) → every is_plain (step b rs) ≡ true → every is_plain (cond c ((u, l) ∷ step b rs) (step b rs)) ≡ true
      by_test true later = and_true (is_plain u) _ here later
      by_test false later = later

  -- what goes on after a parameter goes on with a slash, or ends
  pub pieces_step : (rs : RowsOf K) → every is_plain rs ≡ true → every ends_piece (step 256 rs) ≡ true
  pieces_step [] e = refl
  pieces_step (([], l) ∷ rs) e = pieces_step rs e
  pieces_step ((x ∷ u, l) ∷ rs) e = by_test (x == 256) refl (pieces_step rs (second_true (is_plain (x ∷ u)) _ e))
    where
      here : cond (x == 256) (ends_piece u) true ≡ true
      here = first_true _ (is_plain u) (second_true (not (x == 257)) _ (first_true (is_plain (x ∷ u)) _ e))

      by_test : (c : Bool) → (x == 256) ≡ c → every ends_piece (step 256 rs) ≡ true
          → every ends_piece (cond c ((u, l) ∷ step 256 rs) (step 256 rs)) ≡ true
      by_test true same later = and_true (ends_piece u) _ (ap (λ (c : Bool). cond c (ends_piece u) true) (sym same) ∙ here) later
      by_test false same later = later

  -- no row ends with a catch-all
  pub no_catch : (rs : RowsOf K) → every is_plain rs ≡ true → step 257 rs ≡ []
  no_catch [] e = refl
  no_catch (([], l) ∷ rs) e = no_catch rs e
  no_catch ((x ∷ u, l) ∷ rs) e = by_test (x == 257) refl (no_catch rs (second_true (is_plain (x ∷ u)) _ e))
    where
      here : not (x == 257) ≡ true
      here = first_true _ _ (first_true (is_plain (x ∷ u)) _ e)

      by_test : (c : Bool) → (x == 257) ≡ c → step 257 rs ≡ [] → cond c ((u, l) ∷ step 257 rs) (step 257 rs) ≡ []
      by_test true same later = let no_way : false ≡ true = ap not (sym same) ∙ here in absurd (cc)
      by_test false same later = later

  -- some row goes on
  abbrev pub goes_on : RowsOf K → Bool
  goes_on [] = false
  goes_on (([], l) ∷ rs) = goes_on rs
  goes_on ((x ∷ t, l) ∷ rs) = true

  pub among_goes_on : (rs : RowsOf K) (x : ℕ) (t : List ℕ) (k : K) → Among (x ∷ t) k rs → goes_on rs ≡ true
  among_goes_on [] x t k m = absurd m
  among_goes_on (([], l) ∷ rs) x t k (inl m) = absurd (let f = m.0 in cc)
  among_goes_on (([], l) ∷ rs) x t k (inr m) = among_goes_on rs x t k m
  among_goes_on ((y ∷ u, l) ∷ rs) x t k m = refl

  pub suffix_among : (s : List ℕ) (rs : RowsOf K) (t : List ℕ) (k : K) → Among t k (with_suffix s rs) → Among t k rs
  suffix_among s [] t k m = absurd m
  suffix_among s ((u, l) ∷ rs) t k m = by_test (same_text (segment u) s) m (λ n. suffix_among s rs t k n)
    where
      by_test : (c : Bool) → Among t k (cond c ((u, l) ∷ with_suffix s rs) (with_suffix s rs)) → (Among t k (with_suffix s rs) → Among t k rs)
          → Among t k ((u, l) ∷ rs)
      by_test true (inl m) later = inl m
      by_test true (inr m) later = inr (later m)
      by_test false m later = inr (later m)

  pub among_suffix : (rs : RowsOf K) (t : List ℕ) (k : K) → Among (47 ∷ t) k rs → Among (47 ∷ t) k (with_suffix (47 ∷ []) rs)
  among_suffix [] t k m = absurd m
  among_suffix ((u, l) ∷ rs) t k (inl m) =
      let same : same_text (segment u) (47 ∷ []) ≡ true = ap (λ v. same_text (segment v) (47 ∷ [])) (sym m.0) in
      let P : Bool → Type 0 = λ c. Among (47 ∷ t) k (cond c ((u, l) ∷ with_suffix (47 ∷ []) rs) (with_suffix (47 ∷ []) rs)) in
      subst P (sym same) (inl m)
  among_suffix ((u, l) ∷ rs) t k (inr m) = by_test (same_text (segment u) (47 ∷ [])) (among_suffix rs t k m)
    where
      by_test : (c : Bool) → Among (47 ∷ t) k (with_suffix (47 ∷ []) rs) → Among (47 ∷ t) k (cond c ((u, l) ∷ with_suffix (47 ∷ []) rs) (with_suffix (47 ∷ []) rs))
      by_test true later = inr later
      by_test false later = later

  -- the longest suffix of rows that go on with a slash or end
  pub longest_is : (seg : List ℕ) (found : Bool) (rs : RowsOf K) → every ends_piece rs ≡ true
      → longest_from seg (best_of found) rs ≡ best_of (found || (cuts seg (47 ∷ []) && goes_on rs))
  longest_is seg true [] e = refl
  longest_is seg false [] e = none (cuts seg (47 ∷ []))
    where
      none : (c : Bool) → best_of false ≡ best_of (c && false)
      none true = refl
      none false = refl
  longest_is seg true (([], l) ∷ rs) e = longest_is seg true rs e
  longest_is seg false (([], l) ∷ rs) e = longest_is seg false rs e
  longest_is seg true ((x ∷ t, l) ∷ rs) e =
      let at = eqb-true x 47 (first_true (x == 47) _ e) in
      let is : segment (x ∷ t) ≡ 47 ∷ [] = ap (λ y. segment (y ∷ t)) at in
      ap (λ s. longest_from seg (better seg (47 ∷ []) s) rs) is ∙ longest_is seg true rs (second_true (x == 47) _ e)
  longest_is seg false ((x ∷ t, l) ∷ rs) e =
      let at = eqb-true x 47 (first_true (x == 47) _ e) in
      let is : segment (x ∷ t) ≡ 47 ∷ [] = ap (λ y. segment (y ∷ t)) at in
      let rest = second_true (x == 47) _ e in
      ap (λ s. longest_from seg (better seg [] s) rs) is ∙ by_cut (cuts seg (47 ∷ [])) refl (longest_is seg true rs rest) (longest_is seg false rs rest)
    where
      by_cut : (c : Bool) → cuts seg (47 ∷ []) ≡ c → longest_from seg (47 ∷ []) rs ≡ 47 ∷ []
          → longest_from seg [] rs ≡ best_of (cuts seg (47 ∷ []) && goes_on rs)
          → longest_from seg (cond (true && c) (47 ∷ []) []) rs ≡ best_of (c && true)
      by_cut true cut found none = found
      by_cut false cut found none = none ∙ ap (λ (c : Bool). best_of (c && goes_on rs)) cut
