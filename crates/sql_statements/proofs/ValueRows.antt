-- What rows of parameters are, where each has the values of one row after those of another.
use Rattle.std.proofs.Common.{◌≡◌, ◌+◌, ℕ, suc, zero, true, List, [], ◌∷◌, ◌++◌, map, length, take, drop, refl, ap, ap₂, ◌∙◌, subst, append_assoc}
use Rattle.std.specs.List.{flat_map}
use Rattle.std.proofs.lemmas.List.{length-append}
use Rattle.sqlite.specs.Effect.{value_rows}
use Rattle.sqlite.specs.Term.{Term}
use Rattle.sqlite.specs.declared.types.Value.{Value}
use Rattle.sqlite.specs.declared.types.Value.TheVariants.{Null, Int}
use Rattle.sqlite_sql.specs.Term.{eval_all}
use Rattle.sqlite_value.specs.Order.{Row, column}
use Rattle.sql_statements.specs.Statements.{params_from, row_shown, rows_shown}
use Rattle.sql_statements.specs.StoredRows.{Form, whole, keyed, is_keyed, parameters_of, new_row}

behind : (before : Row) (v : Value) (more : Row) → column (before ++ v ∷ more) (length before) ≡ v
behind [] v more = refl
behind (w ∷ before) v more = behind before v more

-- what stands behind others is read
read_are : (before r more : Row) → eval_all (params_from (length before) (length r)) ((before ++ (r ++ more)) ∷ []) ≡ r
read_are before [] more = refl
read_are before (v ∷ r) more =
    let after : length (before ++ v ∷ []) ≡ length before + 1 = length-append before (v ∷ []) in
    ap₂ (λ a l. a ∷ l) (behind before v (r ++ more))
    (subst (λ n. eval_all (params_from n (length r)) ((before ++ (v ∷ (r ++ more))) ∷ []) ≡ r) after
    (subst (λ l. eval_all (params_from (length (before ++ v ∷ [])) (length r)) (l ∷ []) ≡ r) (append_assoc before (v ∷ []) (r ++ more)) (read_are (before ++ v ∷ []) r more)))

front : {A : Type 0} (xs ys : List A) → take (length xs) (xs ++ ys) ≡ xs
front [] ys = refl
front (x ∷ xs) ys = ap (λ l. x ∷ l) (front xs ys)

back : {A : Type 0} (xs ys : List A) → drop (length xs) (xs ++ ys) ≡ ys
back [] ys = refl
back (x ∷ xs) ys = back xs ys

read_long : (first n : ℕ) → length (params_from first n) ≡ n
read_long first zero = refl
read_long first (suc n) = ap suc (read_long (first + 1) n)

-- the row of one value, whose parameters stand behind others
row_is : {X : Type 0} (form : Form X) (columns : ℕ) (x : X) → length (parameters_of form x) ≡ columns → (before more : Row)
    → eval_all (row_shown (is_keyed form) columns (length before)) ((before ++ (parameters_of form x ++ more)) ∷ []) ≡ new_row form x
row_is (whole row) columns x wide before more =
    ap (λ l. Null ∷ l) (subst (λ n. eval_all (params_from (length before) n) ((before ++ (row x ++ more)) ∷ []) ≡ row x) wide (read_are before (row x) more))
row_is (keyed key others) columns x wide before more =
    subst (λ n. eval_all (row_shown true n (length before)) ((before ++ ((Int (key x) ∷ others x) ++ more)) ∷ []) ≡ Int (key x) ∷ Null ∷ others x) wide
    (ap (λ l. column l 0 ∷ Null ∷ drop 1 l) (read_are before (Int (key x) ∷ others x) more))

row_long : {X : Type 0} (form : Form X) (columns : ℕ) (x : X) → length (parameters_of form x) ≡ columns → (first : ℕ) → length (row_shown (is_keyed form) columns first) ≡ suc columns
row_long (whole row) columns x wide first = ap suc (read_long first columns)
row_long (keyed key others) columns x wide first =
    subst (λ n. length (row_shown true n first) ≡ suc n) wide (ap (λ n. suc (suc n)) (read_long (first + 1) (length (others x))))

module _ {X : Type 0} (form : Form X) (columns : ℕ) (wide : (x : X) → length (parameters_of form x) ≡ columns) where
  abbrev given : X → Row
  given = parameters_of form

  abbrev shown : ℕ → ℕ → List Term
  shown = rows_shown (is_keyed form) columns

  pub values_are : (xs : List X) (before : Row) → value_rows (before ++ flat_map given xs) (suc columns) (length xs) (shown (length before) (length xs)) ≡ map (new_row form) xs
  values_are [] before = refl
  values_are (x ∷ xs) before =
      let params : Row = before ++ (given x ++ flat_map given xs) in
      let one : List Term = row_shown (is_keyed form) columns (length before) in
      let others : List Term = shown (length before + columns) (length xs) in
      let long : length one ≡ suc columns = row_long form columns x (wide x) (length before) in
      let first : eval_all (take (suc columns) (one ++ others)) (params ∷ []) ≡ new_row form x =
      ap (λ l. eval_all l (params ∷ [])) (subst (λ n. take n (one ++ others) ≡ one) long (front one others)) ∙ row_is form columns x (wide x) before (flat_map given xs) in
      let after : length (before ++ given x) ≡ length before + columns = length-append before (given x) ∙ ap (λ n. length before + n) (wide x) in
      let rest : value_rows params (suc columns) (length xs) (drop (suc columns) (one ++ others)) ≡ map (new_row form) xs =
      ap (value_rows params (suc columns) (length xs)) (subst (λ n. drop n (one ++ others) ≡ others) long (back one others))
      ∙ subst (λ n. value_rows params (suc columns) (length xs) (shown n (length xs)) ≡ map (new_row form) xs) after
      (subst (λ l. value_rows l (suc columns) (length xs) (shown (length (before ++ given x)) (length xs)) ≡ map (new_row form) xs) (append_assoc before (given x) (flat_map given xs)) (values_are xs (before ++ given x))) in
      ap₂ (λ a l. a ∷ l) first rest
