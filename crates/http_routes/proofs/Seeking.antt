-- A router of plain patterns finds a row whose tokens take the path, if there is one.
use Rattle.std.proofs.Common.{◌≡◌, ℕ, ◌-◌, ◌<◌, inl, inr, Bool, true, false, not, ◌&&◌, ◌||◌, cond, List, [], ◌∷◌, length, drop, zero, suc, Option, Some, None, refl, sym, ap, ◌∙◌, subst, arith}
use Rattle.std.proofs.lemmas.Bool.{eqb-true}
use Rattle.std.proofs.lemmas.Bool.Decides.{nat_tests}
use Rattle.std.specs.Prelude.{◌==◌, ltb, nat_eq, IsSome}
use Rattle.std.specs.List.{ends_with, list_all}
use Rattle.std.specs.Cmp.Lexicographic.{pointwise}
use Rattle.matchit.specs.Rows.{RowsOf}
use Rattle.matchit.specs.Seek.{segment, has_slash, cuts, same_text, own, step, or_else, longest_suffix, with_suffix, param_step, seek}
use Rattle.http_routes.proofs.Walks.{after_run, takes, ends_piece, is_plain, byte, first_true, second_true, and_true, Among, every, own_among, among_own, step_among, among_step, plain_step, pieces_step, no_catch, goes_on, among_goes_on, suffix_among, among_suffix, best_of, longest_is}

-- ---- the first piece of a path

last_of : ℕ → List ℕ → ℕ
last_of x [] = x
last_of x (y ∷ l) = last_of y l

drop_last : (x : ℕ) (l : List ℕ) → drop (length (x ∷ l) - 1) (x ∷ l) ≡ last_of x l ∷ []
unfolding last_of
drop_last x [] = refl
drop_last x (y ∷ l) = let e : length (x ∷ y ∷ l) - 1 ≡ suc (length (y ∷ l) - 1) = omega arith in ap (λ n. drop n (x ∷ y ∷ l)) e ∙ drop_last y l

last_is_slash : (b : ℕ) (p : List ℕ) → (b == 47) ≡ false → nat_eq 47 (last_of b (segment p)) ≡ has_slash p
unfolding last_of
last_is_slash b [] e = grind (arith, nat_tests)
last_is_slash b (c ∷ p) e = by_test (c == 47) refl (λ f. last_is_slash c p f)
  where
    by_test : (t : Bool) → (c == 47) ≡ t → ((c == 47) ≡ false → nat_eq 47 (last_of c (segment p)) ≡ has_slash p)
        → nat_eq 47 (last_of b (cond t (c ∷ []) (c ∷ segment p))) ≡ cond t true (has_slash p)
    by_test true f later = grind (arith, nat_tests)
    by_test false f later = later f

and_first : (a : Bool) → (a && true) ≡ a
and_first true = refl
and_first false = refl

-- a segment with a slash after some bytes ends with one
pub cuts_is : (b : ℕ) (p : List ℕ) → (b == 47) ≡ false → cuts (b ∷ segment p) (47 ∷ []) ≡ has_slash p
cuts_is b [] e = refl
cuts_is b (c ∷ p) e =
    let long : ltb 1 (length (b ∷ segment (c ∷ p))) ≡ true = some (c == 47) in
    let last : ends_with nat_eq (b ∷ segment (c ∷ p)) (47 ∷ []) ≡ has_slash (c ∷ p) =
    ap (λ l. pointwise nat_eq (47 ∷ []) l) (drop_last b (segment (c ∷ p))) ∙ and_first _ ∙ last_is_slash b (c ∷ p) e in
    ap (λ (t : Bool). t && ends_with nat_eq (b ∷ segment (c ∷ p)) (47 ∷ [])) long ∙ last
  where
    some : (t : Bool) → ltb 1 (length (b ∷ cond t (c ∷ []) (c ∷ segment p))) ≡ true
    some true = grind (arith, nat_tests)
    some false = grind (arith, nat_tests)

segment_some : (p : List ℕ) → has_slash p ≡ true → 0 < length (segment p)
segment_some [] e = absurd (cc)
segment_some (c ∷ p) e = by_test (c == 47)
  where
    by_test : (t : Bool) → 0 < length (cond t (c ∷ []) (c ∷ segment p))
    by_test true = omega arith
    by_test false = omega arith

-- the text after the first piece, if a slash follows it
run_with_slash : (p : List ℕ) → has_slash p ≡ true → drop (length (segment p) - 1) p ≡ after_run p
run_with_slash [] e = absurd (cc)
run_with_slash (c ∷ p) e = by_test (c == 47) e (λ f. run_with_slash p f) (λ f. segment_some p f)
  where
    by_test : (t : Bool) → cond t true (has_slash p) ≡ true → (has_slash p ≡ true → drop (length (segment p) - 1) p ≡ after_run p)
        → (has_slash p ≡ true → 0 < length (segment p))
        → drop (length (cond t (c ∷ []) (c ∷ segment p)) - 1) (c ∷ p) ≡ cond t (c ∷ p) (after_run p)
    by_test true f later some = refl
    by_test false f later some =
        let here = some f in
        let less : length (c ∷ segment p) - 1 ≡ suc (length (segment p) - 1) = omega (arith, here) in
        ap (λ n. drop n (c ∷ p)) less ∙ later f

-- where none does
run_without_slash : (p : List ℕ) → has_slash p ≡ false → drop (length p) p ≡ after_run p
run_without_slash [] e = refl
run_without_slash (c ∷ p) e = by_test (c == 47) e (λ f. run_without_slash p f)
  where
    by_test : (t : Bool) → cond t true (has_slash p) ≡ false → (has_slash p ≡ false → drop (length p) p ≡ after_run p)
        → drop (length (c ∷ p)) (c ∷ p) ≡ cond t (c ∷ p) (after_run p)
    by_test true f later = absurd (cc)
    by_test false f later = later f

-- what follows the first piece begins with a slash exactly where the path has one
none_after_run : (p : List ℕ) → has_slash p ≡ false → after_run p ≡ []
none_after_run [] e = refl
none_after_run (c ∷ p) e = by_test (c == 47) e (λ f. none_after_run p f)
  where
    by_test : (t : Bool) → cond t true (has_slash p) ≡ false → (has_slash p ≡ false → after_run p ≡ []) → cond t (c ∷ p) (after_run p) ≡ []
    by_test true f later = absurd (cc)
    by_test false f later = later f

slash_after_run : (p : List ℕ) → has_slash p ≡ true → (rest : List ℕ) × (after_run p ≡ 47 ∷ rest)
slash_after_run [] e = absurd (cc)
slash_after_run (c ∷ p) e = by_test (c == 47) refl e (λ f. slash_after_run p f)
  where
    by_test : (t : Bool) → (c == 47) ≡ t → cond t true (has_slash p) ≡ true → (has_slash p ≡ true → (rest : List ℕ) × (after_run p ≡ 47 ∷ rest))
        → (rest : List ℕ) × (cond t (c ∷ p) (after_run p) ≡ 47 ∷ rest)
    by_test true f g later = (p, ap (λ x. x ∷ p) (eqb-true c 47 f))
    by_test false f g later = later g

-- tokens that end a piece take a slash alone
none_starts : (t : List ℕ) (rest : List ℕ) → ends_piece t ≡ true → takes t (47 ∷ rest) ≡ true → (u : List ℕ) × (t ≡ 47 ∷ u)
none_starts [] rest e f = absurd (cc)
none_starts (x ∷ u) rest e f = (u, ap (λ y. y ∷ u) (eqb-true x 47 e))

takes_byte : (b : ℕ) (t p : List ℕ) → byte b ≡ true → takes t p ≡ true → takes (b ∷ t) (b ∷ p) ≡ true
takes_byte b t p low f =
    let other : (b == 256) ≡ false = grind (arith, nat_tests) in
    let same : (b == b) ≡ true = grind (arith, nat_tests) in
    ap (λ (c : Bool). cond c (not (b == 47) && takes t (after_run p)) ((b == b) && takes t p)) other ∙ and_true (b == b) _ same f

-- two patterns that do not both take one path, as far as this test shows
abbrev pub apart : List ℕ → List ℕ → Bool
apart [] [] = false
apart [] (y ∷ u) = true
apart (x ∷ t) [] = true
apart (x ∷ t) (y ∷ u) = cond (x == 256) (cond (y == 256) (apart t u) (y == 47)) (cond (y == 256) (x == 47) (not (x == y) || apart t u))

apart_takes : (t u p : List ℕ) → apart t u ≡ true → takes t p ≡ true → takes u p ≡ true → ⊥
apart_takes [] [] p e f g = cc
apart_takes [] (y ∷ u) [] e f g = cc
apart_takes [] (y ∷ u) (b ∷ p) e f g = cc
apart_takes (x ∷ t) [] [] e f g = cc
apart_takes (x ∷ t) [] (b ∷ p) e f g = cc
apart_takes (x ∷ t) (y ∷ u) [] e f g = cc
apart_takes (x ∷ t) (y ∷ u) (b ∷ p) e f g =
    by_tests (x == 256) (y == 256) refl refl e f g (λ a q h k. apart_takes t u q a h k)
  where
    by_tests : (c d : Bool) → (x == 256) ≡ c → (y == 256) ≡ d
        → cond c (cond d (apart t u) (y == 47)) (cond d (x == 47) (not (x == y) || apart t u)) ≡ true
        → cond c (not (b == 47) && takes t (after_run p)) ((x == b) && takes t p) ≡ true
        → cond d (not (b == 47) && takes u (after_run p)) ((y == b) && takes u p) ≡ true
        → (apart t u ≡ true → (q : List ℕ) → takes t q ≡ true → takes u q ≡ true → ⊥) → ⊥
    by_tests true true c d e f g later = later e (after_run p) (second_true (not (b == 47)) _ f) (second_true (not (b == 47)) _ g)
    by_tests true false c d e f g later =
        let none = first_true (not (b == 47)) _ f in
        let same : y ≡ b = eqb-true y b (first_true (y == b) _ g) in
        let no_way : not (y == 47) ≡ true = ap (λ z. not (z == 47)) same ∙ none in
        let slash : not (y == 47) ≡ false = ap not e in cc
    by_tests false true c d e f g later =
        let none = first_true (not (b == 47)) _ g in
        let same : x ≡ b = eqb-true x b (first_true (x == b) _ f) in
        let no_way : not (x == 47) ≡ true = ap (λ z. not (z == 47)) same ∙ none in
        let slash : not (x == 47) ≡ false = ap not e in cc
    by_tests false false c d e f g later =
        let one = eqb-true x b (first_true (x == b) _ f) in
        let two = eqb-true y b (first_true (y == b) _ g) in
        let same : (x == y) ≡ true = let eq : x ≡ y = one ∙ sym two in grind (arith, nat_tests) in
        let rest : apart t u ≡ true = ap (λ (z : Bool). not z || apart t u) (sym same) ∙ e in
        later rest p (second_true (x == b) _ f) (second_true (y == b) _ g)

-- ---- one step by a parameter

module _ {K : Type 0} where
  -- how much a parameter takes, and the rows that go on, by whether the path begins with a slash, has one, and a row goes on
  by_tests : RowsOf K → ℕ → List ℕ → Bool → Bool → Bool → ℕ × RowsOf K
  by_tests rs b p true has on = (0, [])
  by_tests rs b p false true true = (length (segment p), with_suffix (47 ∷ []) rs)
  by_tests rs b p false true false = (0, [])
  by_tests rs b p false false on = (suc (length p), rs)

  -- the step, from the first piece, the longest suffix, and whether the path has a slash
  abbrev param_by : RowsOf K → List ℕ → List ℕ → List ℕ → Bool → ℕ × RowsOf K
  param_by rs path seg suffix has =
      cond (ltb 0 (length suffix)) (length seg - length suffix, with_suffix suffix rs) (cond has (0, []) (length path, rs))

  step_by : (rs : RowsOf K) (path seg suffix : List ℕ) (has : Bool) → segment path ≡ seg → longest_suffix (segment path) rs ≡ suffix
      → has_slash path ≡ has → param_step rs path ≡ param_by rs path seg suffix has
  unfolding param_step
  step_by rs path seg suffix has s l h = λ i. param_by rs path (s i) (l i) (h i)

  param_is : (rs : RowsOf K) (b : ℕ) (p : List ℕ) → every ends_piece rs ≡ true
      → (starts has on : Bool) → (b == 47) ≡ starts → has_slash p ≡ has → goes_on rs ≡ on → param_step rs (b ∷ p) ≡ by_tests rs b p starts has on
  unfolding by_tests
  param_is rs b p e true has on s h o =
      let seg : segment (b ∷ p) ≡ b ∷ [] = ap (λ (t : Bool). cond t (b ∷ []) (b ∷ segment p)) s in
      let slash : has_slash (b ∷ p) ≡ true = ap (λ (t : Bool). cond t true (has_slash p)) s in
      let suffix : longest_suffix (segment (b ∷ p)) rs ≡ [] =
      longest_is (segment (b ∷ p)) false rs e ∙ ap (λ l. best_of (cuts l (47 ∷ []) && goes_on rs)) seg in
      step_by rs (b ∷ p) (b ∷ []) [] true seg suffix slash
  param_is rs b p e false has on s h o = rest has on h o
    where
      seg : segment (b ∷ p) ≡ b ∷ segment p
      seg = ap (λ (t : Bool). cond t (b ∷ []) (b ∷ segment p)) s

      slash : has_slash (b ∷ p) ≡ has_slash p
      slash = ap (λ (t : Bool). cond t true (has_slash p)) s

      suffix : longest_suffix (segment (b ∷ p)) rs ≡ best_of (has_slash p && goes_on rs)
      suffix = longest_is (segment (b ∷ p)) false rs e
          ∙ ap (λ l. best_of (cuts l (47 ∷ []) && goes_on rs)) seg ∙ ap (λ (t : Bool). best_of (t && goes_on rs)) (cuts_is b p s)

      both_are : (has on : Bool) → has_slash p ≡ has → goes_on rs ≡ on → longest_suffix (segment (b ∷ p)) rs ≡ best_of (has && on)
      both_are has on h o = suffix ∙ (λ i. best_of (h i && o i))

      rest : (has on : Bool) → has_slash p ≡ has → goes_on rs ≡ on → param_step rs (b ∷ p) ≡ by_tests rs b p false has on
      rest true true h o =
          step_by rs (b ∷ p) (b ∷ segment p) (47 ∷ []) true seg (both_are true true h o) (slash ∙ h)
          ∙ (let less : length (b ∷ segment p) - 1 ≡ length (segment p) = omega arith in λ i. (less i, with_suffix (47 ∷ []) rs))
      rest true false h o = step_by rs (b ∷ p) (b ∷ segment p) [] true seg (both_are true false h o) (slash ∙ h)
      rest false on h o = step_by rs (b ∷ p) (b ∷ segment p) [] false seg (both_are false on h o) (slash ∙ h)

  -- the row goes on after the step, with what the step left of the path
  abbrev Goes : List ℕ → K → List ℕ → ℕ × RowsOf K → Type 0
  Goes t k p s = Among t k s.1 × (takes t (drop (s.0 - 1) p) ≡ true)

  -- what goes on after the parameter is a row that had it
  param_sound : (rs : RowsOf K) (b : ℕ) (p t : List ℕ) (k : K) → every ends_piece rs ≡ true
      → Among t k (param_step rs (b ∷ p)).1 → takes t (drop ((param_step rs (b ∷ p)).0 - 1) p) ≡ true
      → Among t k rs × (takes (256 ∷ t) (b ∷ p) ≡ true)
  unfolding by_tests
  param_sound rs b p t k e m f =
      by_case (b == 47) (has_slash p) (goes_on rs) refl refl refl (subst (Goes t k p) (param_is rs b p e _ _ _ refl refl refl) (m, f))
    where
      takes_it : (b == 47) ≡ false → takes t (after_run p) ≡ true → takes (256 ∷ t) (b ∷ p) ≡ true
      takes_it s g = and_true (not (b == 47)) _ (ap not s) g

      by_case : (starts has on : Bool) → (b == 47) ≡ starts → has_slash p ≡ has → goes_on rs ≡ on
          → Goes t k p (by_tests rs b p starts has on) → Among t k rs × (takes (256 ∷ t) (b ∷ p) ≡ true)
      by_case true has on s h o q = absurd q.0
      by_case false true true s h o q =
          (suffix_among (47 ∷ []) rs t k q.0, takes_it s (ap (takes t) (sym (run_with_slash p h)) ∙ q.1))
      by_case false true false s h o q = absurd q.0
      by_case false false on s h o q =
          let all : suc (length p) - 1 ≡ length p = omega arith in
          (q.0, takes_it s (ap (takes t) (sym (run_without_slash p h)) ∙ ap (λ n. takes t (drop n p)) (sym all) ∙ q.1))

  -- a row that had the parameter goes on
  param_complete : (rs : RowsOf K) (b : ℕ) (p t : List ℕ) (k : K) → every ends_piece rs ≡ true → ends_piece t ≡ true
      → Among t k rs → takes (256 ∷ t) (b ∷ p) ≡ true
      → Among t k (param_step rs (b ∷ p)).1 × (takes t (drop ((param_step rs (b ∷ p)).0 - 1) p) ≡ true)
  unfolding by_tests
  param_complete rs b p t k e piece m f =
      subst (Goes t k p) (sym (param_is rs b p e _ _ _ refl refl refl)) (by_case (b == 47) (has_slash p) (goes_on rs) refl refl refl)
    where
      no_slash : (b == 47) ≡ true → ⊥
      no_slash s = let g : not (b == 47) ≡ true = first_true (not (b == 47)) _ f in let no_way : false ≡ true = ap not (sym s) ∙ g in absurd (cc)

      after : takes t (after_run p) ≡ true
      after = second_true (not (b == 47)) _ f

      slashed : has_slash p ≡ true → (u : List ℕ) × (t ≡ 47 ∷ u)
      slashed h = let found = slash_after_run p h in none_starts t found.0 piece (ap (takes t) (sym found.1) ∙ after)

      by_case : (starts has on : Bool) → (b == 47) ≡ starts → has_slash p ≡ has → goes_on rs ≡ on → Goes t k p (by_tests rs b p starts has on)
      by_case true has on s h o = absurd (no_slash s)
      by_case false true true s h o =
          let found = slashed h in
          let Q : List ℕ → Type 0 = λ v. Among v k rs in
          let R : List ℕ → Type 0 = λ v. Among v k (with_suffix (47 ∷ []) rs) in
          (subst R (sym found.1) (among_suffix rs found.0 k (subst Q found.1 m)), ap (takes t) (run_with_slash p h) ∙ after)
      by_case false true false s h o =
          let found = slashed h in
          let Q : List ℕ → Type 0 = λ v. Among v k rs in
          let going : goes_on rs ≡ true = among_goes_on rs 47 found.0 k (subst Q found.1 m) in absurd (cc)
      by_case false false on s h o =
          let all : suc (length p) - 1 ≡ length p = omega arith in
          (m, ap (λ n. takes t (drop n p)) all ∙ ap (takes t) (run_without_slash p h) ∙ after)

  -- ---- the whole path

  either : {A : Type 0} (x y : Option K) (k : K) → or_else x y ≡ Some k → (x ≡ Some k → A) → (y ≡ Some k → A) → A
  either None y k e first second = second e
  either (Some l) y k e first second = first e

  plain_suffix : (s : List ℕ) (rs : RowsOf K) → every is_plain rs ≡ true → every is_plain (with_suffix s rs) ≡ true
  plain_suffix s [] e = refl
  plain_suffix s ((u, l) ∷ rs) e = by_test (same_text (segment u) s) (plain_suffix s rs (second_true (is_plain u) _ e))
    where
      by_test : (c : Bool) → every is_plain (with_suffix s rs) ≡ true → every is_plain (cond c ((u, l) ∷ with_suffix s rs) (with_suffix s rs)) ≡ true
      by_test true later = and_true (is_plain u) _ (first_true (is_plain u) _ e) later
      by_test false later = later

  abbrev IsPlainStep : ℕ × RowsOf K → Type 0
  IsPlainStep s = every is_plain s.1 ≡ true

  plain_param : (rs : RowsOf K) (b : ℕ) (p : List ℕ) → every ends_piece rs ≡ true → every is_plain rs ≡ true → every is_plain (param_step rs (b ∷ p)).1 ≡ true
  unfolding by_tests
  plain_param rs b p e plain =
      subst IsPlainStep (sym (param_is rs b p e _ _ _ refl refl refl)) (by_case (b == 47) (has_slash p) (goes_on rs))
    where
      by_case : (starts has on : Bool) → IsPlainStep (by_tests rs b p starts has on)
      by_case true has on = refl
      by_case false true true = plain_suffix (47 ∷ []) rs plain
      by_case false true false = refl
      by_case false false on = plain

  of_every : (test : List ℕ → Bool) (rs : RowsOf K) (t : List ℕ) (k : K) → every test rs ≡ true → Among t k rs → test t ≡ true
  of_every test [] t k e m = absurd m
  of_every test ((u, l) ∷ rs) t k e (inl m) = ap test m.0 ∙ first_true (test u) _ e
  of_every test ((u, l) ∷ rs) t k e (inr m) = of_every test rs t k (second_true (test u) _ e) m

  -- what is found is a row that takes the path
  pub seek_sound : (skip : ℕ) (rs : RowsOf K) (p : List ℕ) (k : K) → every is_plain rs ≡ true → list_all byte p ≡ true
      → seek skip rs p ≡ Some k → (t : List ℕ) × Among t k rs × (takes t (drop skip p) ≡ true)
  unfolding seek
  seek_sound zero rs [] k plain low e = ([], own_among rs k e, refl)
  seek_sound (suc skip) rs [] k plain low e = ([], own_among rs k e, refl)
  seek_sound (suc skip) rs (b ∷ p) k plain low e = seek_sound skip rs p k plain (second_true (byte b) _ low) e
  seek_sound zero rs (b ∷ p) k plain low e =
      either (seek 0 (step b rs) p) _ k e
      (λ f.
      let found = seek_sound 0 (step b rs) p k (plain_step b rs plain) (second_true (byte b) _ low) f in
      (b ∷ found.0, step_among b rs found.0 k found.1, takes_byte b found.0 p (first_true (byte b) _ low) found.2))
      (λ f. either (seek ((param_step (step 256 rs) (b ∷ p)).0 - 1) (param_step (step 256 rs) (b ∷ p)).1 p) _ k f
      (λ g.
      let after = step 256 rs in
      let pieces = pieces_step rs plain in
      let found = seek_sound ((param_step after (b ∷ p)).0 - 1) (param_step after (b ∷ p)).1 p k
      (plain_param after b p pieces (plain_step 256 rs plain)) (second_true (byte b) _ low) g in
      let here = param_sound after b p found.0 k pieces found.1 found.2 in
      (256 ∷ found.0, step_among 256 rs found.0 k here.0, here.1))
      (λ g. let none : own (step 257 rs) ≡ None = ap own (no_catch rs plain) in absurd (cc)))

  or_first : (x y : Option K) → IsSome x → IsSome (or_else x y)
  or_first None y some = absurd (cc)
  or_first (Some k) y some = refl

  or_second : (x y : Option K) → IsSome y → IsSome (or_else x y)
  or_second None y some = some
  or_second (Some k) y some = refl

  no_tokens : (rs : RowsOf K) (t : List ℕ) (k : K) → Among t k rs → takes t [] ≡ true → IsSome (own rs)
  no_tokens rs [] k m f = among_own rs k m
  no_tokens rs (x ∷ t) k m f = absurd (cc)

  -- where a row takes the path, one is found
  pub seek_complete : (skip : ℕ) (rs : RowsOf K) (p t : List ℕ) (k : K) → every is_plain rs ≡ true
      → Among t k rs → takes t (drop skip p) ≡ true → IsSome (seek skip rs p)
  unfolding seek
  seek_complete zero rs [] t k plain m f = no_tokens rs t k m f
  seek_complete (suc skip) rs [] t k plain m f = no_tokens rs t k m f
  seek_complete (suc skip) rs (b ∷ p) t k plain m f = seek_complete skip rs p t k plain m f
  seek_complete zero rs (b ∷ p) [] k plain m f = absurd (cc)
  seek_complete zero rs (b ∷ p) (x ∷ t) k plain m f =
      by_test (x == 256) refl
      (λ g h. seek_complete 0 (step b rs) p t k (plain_step b rs plain) (among_step x b rs t k g m) h)
      (λ n g. seek_complete ((param_step (step 256 rs) (b ∷ p)).0 - 1) (param_step (step 256 rs) (b ∷ p)).1 p t k
      (plain_param (step 256 rs) b p (pieces_step rs plain) (plain_step 256 rs plain)) n g)
    where
      by_test : (c : Bool) → (x == 256) ≡ c
          → ((x == b) ≡ true → takes t p ≡ true → IsSome (seek 0 (step b rs) p))
          → (Among t k (param_step (step 256 rs) (b ∷ p)).1 → takes t (drop ((param_step (step 256 rs) (b ∷ p)).0 - 1) p) ≡ true
          → IsSome (seek ((param_step (step 256 rs) (b ∷ p)).0 - 1) (param_step (step 256 rs) (b ∷ p)).1 p))
          → IsSome (seek 0 rs (b ∷ p))
      by_test true is first second =
          let same : x ≡ 256 = eqb-true x 256 is in
          let piece : ends_piece t ≡ true =
          ap (λ (c : Bool). cond c (ends_piece t) true) (sym is)
          ∙ first_true _ (is_plain t) (second_true (not (x == 257)) _ (of_every is_plain rs (x ∷ t) k plain m)) in
          let taken : takes (256 ∷ t) (b ∷ p) ≡ true = ap (λ y. takes (y ∷ t) (b ∷ p)) (sym same) ∙ f in
          let here = param_complete (step 256 rs) b p t k (pieces_step rs plain) piece (among_step x 256 rs t k is m) taken in
          or_second (seek 0 (step b rs) p) _ (or_first _ _ (second here.0 here.1))
      by_test false is first second =
          let taken : ((x == b) && takes t p) ≡ true = ap (λ (c : Bool). cond c (not (b == 47) && takes t (after_run p)) ((x == b) && takes t p)) (sym is) ∙ f in
          or_first _ _ (first (first_true (x == b) _ taken) (second_true (x == b) _ taken))

  -- ---- rows of which no two take one path

  -- the first row that takes the path
  abbrev pub find_row : RowsOf K → List ℕ → Option K
  find_row [] p = None
  find_row ((t, k) ∷ rs) p = cond (takes t p) (Some k) (find_row rs p)

  found_among : (rs : RowsOf K) (p : List ℕ) (k : K) → find_row rs p ≡ Some k → (t : List ℕ) × Among t k rs × (takes t p ≡ true)
  found_among [] p k e = absurd (cc)
  found_among ((u, l) ∷ rs) p k e = by_test (takes u p) refl e (λ f. found_among rs p k f)
    where
      by_test : (c : Bool) → takes u p ≡ c → cond c (Some l) (find_row rs p) ≡ Some k
          → (find_row rs p ≡ Some k → (t : List ℕ) × Among t k rs × (takes t p ≡ true))
          → (t : List ℕ) × Among t k ((u, l) ∷ rs) × (takes t p ≡ true)
      by_test true f e later = (u, inl (refl, (cc)), f)
      by_test false f e later = let found = later e in (found.0, inr found.1, found.2)

  -- no two rows take one path
  abbrev pub all_apart : RowsOf K → Bool
  all_apart [] = true
  all_apart ((t, k) ∷ rs) = every (apart t) rs && all_apart rs

  found_is : (rs : RowsOf K) (p t : List ℕ) (k : K) → all_apart rs ≡ true → Among t k rs → takes t p ≡ true → find_row rs p ≡ Some k
  found_is [] p t k e m f = absurd m
  found_is ((u, l) ∷ rs) p t k e (inl m) f =
      let here : takes u p ≡ true = ap (λ v. takes v p) (sym m.0) ∙ f in
      ap (λ (c : Bool). cond c (Some l) (find_row rs p)) here ∙ ap Some (sym m.1)
  found_is ((u, l) ∷ rs) p t k e (inr m) f = by_test (takes u p) refl (found_is rs p t k (second_true (every (apart u) rs) _ e) m f)
    where
      by_test : (c : Bool) → takes u p ≡ c → find_row rs p ≡ Some k → cond c (Some l) (find_row rs p) ≡ Some k
      by_test true g later = absurd (apart_takes u t p (of_every (apart u) rs t k (first_true (every (apart u) rs) _ e) m) g f)
      by_test false g later = later

  -- the router finds the first row that takes the path
  pub seek_is : (rs : RowsOf K) (p : List ℕ) → every is_plain rs ≡ true → all_apart rs ≡ true → list_all byte p ≡ true
      → seek 0 rs p ≡ find_row rs p
  seek_is rs p plain one low = by_sought (seek 0 rs p) refl
    where
      none : (found : Option K) → find_row rs p ≡ found → seek 0 rs p ≡ None → None ≡ found
      none None e s = refl
      none (Some k) e s =
          let (t, m, f) = found_among rs p k e in
          let P : Option K → Type 0 = λ o. IsSome o in
          let some : P None = subst P s (seek_complete 0 rs p t k plain m f) in absurd (cc)

      by_sought : (sought : Option K) → seek 0 rs p ≡ sought → sought ≡ find_row rs p
      by_sought None e = none (find_row rs p) refl e
      by_sought (Some k) e = let (t, m, f) = seek_sound 0 rs p k plain low e in sym (found_is rs p t k one m f)
