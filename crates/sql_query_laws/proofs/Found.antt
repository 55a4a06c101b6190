-- What is read back of the rows of a query is what the tables have.
use Rattle.std.proofs.Common.{◌≡◌, ℕ, Bool, List, [], ◌∷◌, map, filter, find, slice_get, Option, None, Some, option_map, Result, Ok, Err, IfOk, refl, ap, ◌∙◌}
use Rattle.std.specs.List.{AllByRecursion}
use Rattle.std.specs.Prelude.{⊤}
use Rattle.sqlite.specs.State.{State}
use Rattle.sqlite_keyed.proofs.ListLemmas.{slice_get-filter}
use Rattle.sqlite_value.specs.Order.{Row}
use Rattle.sql_statements.specs.Findings.{Finds}
use Rattle.sql_tables.specs.Layout.{desk_layout}
use Rattle.sql_tables.specs.Ranges.{FitsIfAny}
use Rattle.sql_tables.specs.Tables.{Tables}
use Rattle.sql_query_laws.specs.Shows.{IsInjective, ShowsAll, ShowsFirst, ReadsAll, ReadsFirst}

-- a value in the range of its columns is told apart by its row
module _ {X : Type 0} (show : X → Row) (Fits : X → Type 0) (apart : (x y : X) → Fits x → show x ≡ show y → x ≡ y) where
  same_within : (xs ys : List X) → AllByRecursion Fits xs → map show xs ≡ map show ys → xs ≡ ys
  same_within [] [] fit e = refl
  same_within [] (y ∷ ys) fit e = cc
  same_within (x ∷ xs) [] fit e = cc
  same_within (x ∷ xs) (y ∷ ys) fit e =
      let first = apart x y fit.0 (let h = e in cc) in
      let rest = same_within xs ys fit.1 (let h = e in cc) in
      λ i. first i ∷ rest i

  same_if_any : (x y : Option X) → FitsIfAny Fits x → option_map show x ≡ option_map show y → x ≡ y
  same_if_any None None fits e = refl
  same_if_any None (Some y) fits e = cc
  same_if_any (Some x) None fits e = cc
  same_if_any (Some x) (Some y) fits e = ap Some (apart x y fits (let h = e in cc))

  pub all_found_within : {sql : List ℕ} {params : Row} {values : Tables → List X} {old new : State} {xs : List X} → ShowsAll sql params show values → ReadsAll sql params show old new xs → AllByRecursion Fits xs → Finds desk_layout (λ t. xs ≡ values t) old
  all_found_within {values = values} {xs = xs} shows read fit =
      record { was_open = read.was_open; told = λ t h. same_within xs (values t) fit (read.are ∙ shows.rows t _ _ h read.rows read.shown) }

  pub first_found_within : {sql : List ℕ} {params : Row} {value : Tables → Option X} {old new : State} {x : Option X} → ShowsFirst sql params show value → ReadsFirst sql params show old new x → FitsIfAny Fits x → Finds desk_layout (λ t. x ≡ value t) old
  first_found_within {value = value} {x = x} shows read fits =
      record { was_open = read.was_open; told = λ t h. same_if_any x (value t) fits (read.is ∙ shows.row t _ _ h read.rows read.shown) }

-- where each value has a row of its own
module _ {X : Type 0} (show : X → Row) (apart : IsInjective show) where
  all_fit : (xs : List X) → AllByRecursion (λ _. ⊤) xs
  all_fit [] = tt
  all_fit (x ∷ xs) = (tt, all_fit xs)

  any_fits : (x : Option X) → FitsIfAny (λ _. ⊤) x
  any_fits None = tt
  any_fits (Some x) = tt

  pub same_option : (x y : Option X) → option_map show x ≡ option_map show y → x ≡ y
  same_option x y e = same_if_any show (λ _. ⊤) (λ x y fits. apart x y) x y (any_fits x) e

  pub all_found : {sql : List ℕ} {params : Row} {values : Tables → List X} {old new : State} {xs : List X} → ShowsAll sql params show values → ReadsAll sql params show old new xs → Finds desk_layout (λ t. xs ≡ values t) old
  all_found {xs = xs} shows read = all_found_within show (λ _. ⊤) (λ x y fits. apart x y) shows read (all_fit xs)

  pub first_found : {sql : List ℕ} {params : Row} {value : Tables → Option X} {old new : State} {x : Option X} → ShowsFirst sql params show value → ReadsFirst sql params show old new x → Finds desk_layout (λ t. x ≡ value t) old
  first_found {x = x} shows read = first_found_within show (λ _. ⊤) (λ x y fits. apart x y) shows read (any_fits x)

  -- where there is always one
  pub one_found : {sql : List ℕ} {params : Row} {value : Tables → X} {old new : State} {o : Option X} {x : X} → ShowsFirst sql params show (λ t. Some (value t)) → ReadsFirst sql params show old new o → o ≡ Some x → Finds desk_layout (λ t. x ≡ value t) old
  one_found shows read is =
      let found = first_found shows read in
      record { was_open = found.was_open; told = λ t h. let e = found.told t h in cc }

-- the first of the values that pass
pub first_passing : {X Y : Type 0} (show : Y → Row) (f : X → Y) (p : X → Bool) (xs : List X) (rows : List Row) → rows ≡ map (λ x. show (f x)) (filter p xs) → slice_get rows 0 ≡ option_map show (option_map f (find p xs))
first_passing show f p xs rows are = ap (λ l. slice_get l 0) are ∙ first (filter p xs) ∙ ap (λ o. option_map show (option_map f o)) (slice_get-filter p xs)
  where
    first : (l : List _) → slice_get (map (λ x. show (f x)) l) 0 ≡ option_map show (option_map f (slice_get l 0))
    first [] = refl
    first (x ∷ l) = refl

-- what two clauses say of a result
pub together : {X E : Type 0} (r : Result X E) (P Q R : X → Type 0) → ((x : X) → P x → Q x → R x) → IfOk r P → IfOk r Q → IfOk r R
together (Ok x) P Q R both p q = both x p q
together (Err e) P Q R both p q = tt
