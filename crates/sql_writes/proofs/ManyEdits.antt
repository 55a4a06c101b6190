-- Some rows of a loop are made, and then others.
use Rattle.std.proofs.Common.{◌≡◌, ℕ, ◌+◌, List, [], ◌∷◌, ◌++◌, length, refl, sym, ap, ◌∙◌, subst, arith, append-nil, append_assoc, length-append}
use Rattle.std.specs.List.{enumerate_from}
use Rattle.sqlite.specs.State.{State, HasCleanDisk}
use Rattle.sql_statements.proofs.Edits.{makes_both}
use Rattle.sql_statements.specs.Edits.{Edit, each_edit, each_edit_from}
use Rattle.sql_statements.specs.Layouts.{Layout}
use Rattle.sql_statements.specs.Transactions.{Makes}
use Rattle.sql_tables.proofs.KeptRows.{numbered_append}

module _ (layout : Layout) where
  module _ {X : Type 0} (edit : X → Edit layout.Tables) where
    after_all : (xs ys : List X) (t : layout.Tables) → (each_edit edit (xs ++ ys)).after t ≡ (each_edit edit ys).after ((each_edit edit xs).after t)
    after_all [] ys t = refl
    after_all (x ∷ xs) ys t = after_all xs ys ((edit x).after t)

    tells_all : (xs ys : List X) (t : layout.Tables) → (each_edit edit xs).Tells t → (each_edit edit ys).Tells ((each_edit edit xs).after t) → (each_edit edit (xs ++ ys)).Tells t
    tells_all [] ys t none more = more
    tells_all (x ∷ xs) ys t all more = (all.0, tells_all xs ys ((edit x).after t) all.1 more)

    makes_all : (xs ys : List X) (old mid new : State) → Makes layout (each_edit edit xs) old mid → Makes layout (each_edit edit ys) mid new → Makes layout (each_edit edit (xs ++ ys)) old new
    makes_all xs ys = makes_both layout (each_edit edit xs) (each_edit edit ys) (each_edit edit (xs ++ ys)) (λ t all more. (after_all xs ys t, tells_all xs ys t all more))

  -- they are numbered on
  pub makes_all_from : {X : Type 0} (edit : ℕ → X → Edit layout.Tables) (first : ℕ) (xs ys : List X) (old mid new : State) → Makes layout (each_edit_from edit first xs) old mid
      → Makes layout (each_edit_from edit (first + length xs) ys) mid new → Makes layout (each_edit_from edit first (xs ++ ys)) old new
  makes_all_from edit first xs ys old mid new a b =
      let turned : length xs + first ≡ first + length xs = omega arith in
      let numbered = numbered_append first xs ys ∙ ap (λ n. enumerate_from first xs ++ enumerate_from n ys) turned in
      subst (λ l. Makes layout (each_edit (λ p. edit p.0 p.1) l) old new) (sym numbered)
      (makes_all (λ p. edit p.0 p.1) (enumerate_from first xs) (enumerate_from (first + length xs) ys) old mid new a b)

  module _ {X : Type 0} (edit : ℕ → X → Edit layout.Tables) (first : ℕ) (rows : List X) (start : State) where
    -- The rows before those that are left are made, and the first of these has that number.
    pub record MadeBefore (now : State) (number : ℕ) (left : List X) : Type 0 where
      pub done : List X
      pub are : rows ≡ done ++ left
      pub at : number ≡ first + length done
      pub makes : HasCleanDisk now → Makes layout (each_edit_from edit first done) start now

    module _ (mid now : State) (number : ℕ) (left : List X) (before : MadeBefore mid number left) (clean_before : HasCleanDisk now → HasCleanDisk mid) where
      -- some more of them are made
      pub more_made : (next : ℕ) (these later : List X) → left ≡ these ++ later → next ≡ number + length these → (HasCleanDisk now → Makes layout (each_edit_from edit number these) mid now) → MadeBefore now next later
      more_made next these later split after makes = record {
        done = before.done ++ these;
        are = before.are ∙ ap (λ l. before.done ++ l) split ∙ sym (append_assoc before.done these later);
        at = omega (arith, after, before.at, length-append before.done these);
        makes = λ clean. makes_all_from edit first before.done these start mid now (before.makes (clean_before clean)) (subst (λ n. Makes layout (each_edit_from edit n these) mid now) before.at (makes clean));
      }

      -- all that are left are made
      pub rest_made : HasCleanDisk now → Makes layout (each_edit_from edit number left) mid now → Makes layout (each_edit_from edit first rows) start now
      rest_made clean makes =
          subst (λ l. Makes layout (each_edit_from edit first l) start now) (sym before.are)
          (makes_all_from edit first before.done left start mid now (before.makes (clean_before clean)) (subst (λ n. Makes layout (each_edit_from edit n left) mid now) before.at makes))

    -- none is left
    pub all_made : (now : State) (number : ℕ) (left : List X) → MadeBefore now number left → left ≡ [] → HasCleanDisk now → Makes layout (each_edit_from edit first rows) start now
    all_made now number left before none clean =
        subst (λ l. Makes layout (each_edit_from edit first l) start now) (sym (before.are ∙ ap (λ l. before.done ++ l) none ∙ append-nil before.done)) (before.makes clean)
