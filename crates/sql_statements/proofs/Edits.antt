-- One edit of a transaction after another.
use Rattle.std.proofs.Common.{◌≡◌, ℕ, suc, ◌+◌, List, [], ◌∷◌, ◌++◌, length, IsTrue, refl, sym, ap, ◌∙◌, subst, arith}
use Rattle.std.specs.List.{enumerate_from}
use Rattle.sqlite.specs.State.{State}
use Rattle.sql_statements.specs.Edits.{Edit, only_tells, no_edit, then_edit, each_edit, each_edit_from}
use Rattle.sql_statements.specs.Layouts.{Layout, Holds}
use Rattle.sql_statements.specs.Transactions.{Makes}
use Rattle.sql_statements.specs.Promises.{GoesOn, SeesInside}

shows_then : (old mid new : State) → GoesOn old mid → GoesOn mid new → GoesOn old new
shows_then old mid new a b = record { was_open = a.was_open; is_open = b.is_open; now_is = refl; committed_is = b.committed_is ∙ a.committed_is; mode = b.mode }

module _ (layout : Layout) where
  -- a statement makes an edit, if it does so of the tables that the database holds
  pub makes_of : (edit : Edit layout.Tables) (old new : State) → GoesOn old new
      → ((t : layout.Tables) → Holds layout old.now t → Holds layout new.now (edit.after t) × edit.Tells t) → Makes layout edit old new
  makes_of edit old new shown holds inside is_open = record { shown = shown; holds = holds }

  pub makes_then : (first last : Edit layout.Tables) (old mid new : State) → Makes layout first old mid → Makes layout last mid new → Makes layout (then_edit first last) old new
  makes_then first last old mid new a b inside is_open =
      let x = a inside is_open in
      let y = b (subst IsTrue (sym x.shown.mode) refl) x.shown.is_open in
      record {
        shown = shows_then old mid new x.shown y.shown;
        holds = λ t h. let one = x.holds t h in let two = y.holds (first.after t) one.0 in (two.0, (one.1, two.1));
      }

  -- an edit is another one, if what it tells shows that both make the same
  pub makes_as : (edit other : Edit layout.Tables) → ((t : layout.Tables) → edit.Tells t → (other.after t ≡ edit.after t) × other.Tells t) → (old new : State) → Makes layout edit old new → Makes layout other old new
  makes_as edit other same old new made inside is_open =
      let it = made inside is_open in
      record {
        shown = it.shown;
        holds = λ t h. let x = it.holds t h in let y = same t x.1 in (subst (Holds layout new.now) (sym y.0) x.0, y.1);
      }

  pub makes_both : (first last whole : Edit layout.Tables) → ((t : layout.Tables) → first.Tells t → last.Tells (first.after t) → (whole.after t ≡ last.after (first.after t)) × whole.Tells t)
      → (old mid new : State) → Makes layout first old mid → Makes layout last mid new → Makes layout whole old new
  makes_both first last whole joins old mid new a b = makes_as (then_edit first last) whole (λ t told. joins t told.0 told.1) old new (makes_then first last old mid new a b)

  -- what changes nothing, as a read does, makes the edit that tells what it found
  pub makes_told : (Tells : layout.Tables → Type 0) (old new : State) → SeesInside old new → ((t : layout.Tables) → Holds layout old.now t → Tells t) → Makes layout (only_tells Tells) old new
  makes_told Tells old new shown told =
      makes_of (only_tells Tells) old new (record { was_open = shown.was_open; is_open = shown.is_open; now_is = refl; committed_is = shown.committed_is; mode = shown.mode })
      (λ t h. (subst (λ d. Holds layout d t) (sym shown.now_is) h, told t h))

  pub makes_none : (s : State) → Makes layout no_edit s s
  makes_none s inside is_open = record { shown = record { was_open = is_open; is_open = is_open; now_is = refl; committed_is = refl; mode = inside }; holds = λ t h. (h, tt) }

  module _ {X : Type 0} (edit : X → Edit layout.Tables) where
    pub after_more : (xs : List X) (x : X) (t : layout.Tables) → (each_edit edit (xs ++ x ∷ [])).after t ≡ (edit x).after ((each_edit edit xs).after t)
    after_more [] x t = refl
    after_more (y ∷ xs) x t = after_more xs x ((edit y).after t)

    pub tells_more : (xs : List X) (x : X) (t : layout.Tables) → (each_edit edit xs).Tells t → (edit x).Tells ((each_edit edit xs).after t) → (each_edit edit (xs ++ x ∷ [])).Tells t
    tells_more [] x t none it = (it, tt)
    tells_more (y ∷ xs) x t all it = (all.0, tells_more xs x ((edit y).after t) all.1 it)

    -- one more row of a loop
    pub makes_more : (xs : List X) (x : X) (old mid new : State) → Makes layout (each_edit edit xs) old mid → Makes layout (edit x) mid new → Makes layout (each_edit edit (xs ++ x ∷ [])) old new
    makes_more xs x = makes_both (each_edit edit xs) (edit x) (each_edit edit (xs ++ x ∷ [])) (λ t all it. (after_more xs x t, tells_more xs x t all it))

    -- what needs no number is the same from any first number
    pub unnumbered : (first : ℕ) (xs : List X) → each_edit_from (λ _. edit) first xs ≡ each_edit edit xs
    unnumbered first [] = refl
    unnumbered first (x ∷ xs) = ap (then_edit (edit x)) (unnumbered (first + 1) xs)

numbered_more : {X : Type 0} (first : ℕ) (xs : List X) (x : X) → enumerate_from first (xs ++ x ∷ []) ≡ enumerate_from first xs ++ (first + length xs, x) ∷ []
numbered_more first [] x = ap (λ n. (n, x) ∷ []) (plus_none first)
  where
    plus_none : (n : ℕ) → n ≡ n + 0
    plus_none n = omega arith
numbered_more first (y ∷ xs) x = ap (λ l. (first, y) ∷ l) (numbered_more (first + 1) xs x ∙ ap (λ n. enumerate_from (first + 1) xs ++ (n, x) ∷ []) (plus_one first (length xs)))
  where
    plus_one : (n m : ℕ) → (n + 1) + m ≡ n + suc m
    plus_one n m = omega arith

module _ (layout : Layout) {X : Type 0} (edit : ℕ → X → Edit layout.Tables) where
  -- one more row of a loop that numbers its rows
  pub makes_more_from : (first : ℕ) (xs : List X) (x : X) (old mid new : State) → Makes layout (each_edit_from edit first xs) old mid → Makes layout (edit (first + length xs) x) mid new
      → Makes layout (each_edit_from edit first (xs ++ x ∷ [])) old new
  makes_more_from first xs x old mid new a b =
      subst (λ l. Makes layout (each_edit (λ p. edit p.0 p.1) l) old new) (sym (numbered_more first xs x))
      (makes_more layout (λ p. edit p.0 p.1) (enumerate_from first xs) (first + length xs, x) old mid new a b)
