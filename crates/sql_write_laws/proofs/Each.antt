-- One edit after another is one step of the flat rows after another.
use Rattle.std.proofs.Common.{◌≡◌, ℕ, ◌+◌, List, [], ◌∷◌, ◌++◌, sym, ap, ◌∙◌, append-nil, append_assoc}
use Rattle.std.specs.Prelude.{⊤, fold}
use Rattle.std.specs.List.{AllByRecursion}
use Rattle.sqlite_keyed.proofs.ListLemmas.{all_of, all_weaker}
use Rattle.sql_statements.specs.Edits.{Edit, each_edit, each_edit_from}
use Rattle.desk_book.specs.Book.{Book}
use Rattle.desk_store.specs.Rows.{Rows, flat_book}
use Rattle.sql_tables.specs.Beside.{Beside}
use Rattle.sql_tables.specs.Encodes.{Encodes}
use Rattle.sql_tables.specs.Layout.{IsBookIn}
use Rattle.sql_tables.specs.Tables.{Tables}

-- the tables are those of the flat rows
abbrev pub AreOf : Tables → Rows → Type 0
AreOf t r = Encodes t r × Beside t r

pub in_book : (t : Tables) (r : Rows) (b : Book) → AreOf t r → b ≡ flat_book r → IsBookIn t b
in_book t r b are is = record { rows = r; encodes = are.0; beside = are.1; book = is }

pub rows_in_book : (t : Tables) (b : Book) → (h : IsBookIn t b) → AreOf t h.rows
rows_in_book t b h = (h.encodes, h.beside)

module _ {X : Type 0} (edit : X → Edit Tables) (step : X → Rows → Rows)
    (one : (x : X) (t : Tables) (r : Rows) → AreOf t r → (edit x).Tells t → AreOf ((edit x).after t) (step x r)) where
  pub each_made : (xs : List X) (t : Tables) (r : Rows) → AreOf t r → (each_edit edit xs).Tells t → AreOf ((each_edit edit xs).after t) (fold (λ s x. step x s) r xs)
  each_made [] t r are told = are
  each_made (x ∷ xs) t r are told = each_made xs ((edit x).after t) (step x r) (one x t r are told.0) told.1

-- the same of rows that are numbered on and fit what was there before, as no step changes
module _ {X : Type 0} (edit : ℕ → X → Edit Tables) (step : X → Rows → Rows) (count : Rows → ℕ) (counts : (x : X) (r : Rows) → count (step x r) ≡ count r + 1)
    (Fits : Rows → X → Type 0) (stay : (x y : X) (r : Rows) → Fits r y → Fits (step x r) y)
    (one : (n : ℕ) (x : X) (t : Tables) (r : Rows) → n ≡ count r + 1 → Fits r x → AreOf t r → (edit n x).Tells t → AreOf ((edit n x).after t) (step x r)) where
  pub each_fitting : (xs : List X) (n : ℕ) (t : Tables) (r : Rows) → n ≡ count r + 1 → AllByRecursion (Fits r) xs → AreOf t r → (each_edit_from edit n xs).Tells t → AreOf ((each_edit_from edit n xs).after t) (fold (λ s x. step x s) r xs)
  each_fitting [] n t r at fit are told = are
  each_fitting (x ∷ xs) n t r at fit are told =
      each_fitting xs (n + 1) ((edit n x).after t) (step x r) (ap (λ k. k + 1) at ∙ ap (λ k. k + 1) (sym (counts x r))) (all_weaker (Fits r) (Fits (step x r)) (λ y. stay x y r) xs fit.1) (one n x t r at fit.0 are told.0) told.1

-- the same of rows that fit whatever was there
module _ {X : Type 0} (edit : ℕ → X → Edit Tables) (step : X → Rows → Rows) (count : Rows → ℕ) (counts : (x : X) (r : Rows) → count (step x r) ≡ count r + 1)
    (one : (n : ℕ) (x : X) (t : Tables) (r : Rows) → n ≡ count r + 1 → AreOf t r → (edit n x).Tells t → AreOf ((edit n x).after t) (step x r)) where
  pub each_numbered : (xs : List X) (n : ℕ) (t : Tables) (r : Rows) → n ≡ count r + 1 → AreOf t r → (each_edit_from edit n xs).Tells t → AreOf ((each_edit_from edit n xs).after t) (fold (λ s x. step x s) r xs)
  each_numbered xs n t r at are told = each_fitting edit step count counts (λ r x. ⊤) (λ x y r fits. tt) (λ n x t r at fits. one n x t r at) xs n t r at (all_of (λ x. ⊤) (λ x. tt) xs) are told

-- steps that each put one more at the end of a list put all of them there
pub all_appended : {X R : Type 0} (put : List X → R) (step : R → X → R) → ((xs : List X) (x : X) → step (put xs) x ≡ put (xs ++ x ∷ [])) → (xs ys : List X) → fold step (put xs) ys ≡ put (xs ++ ys)
all_appended put step h xs [] = ap put (sym (append-nil xs))
all_appended put step h xs (y ∷ ys) = ap (λ r. fold step r ys) (h xs y) ∙ all_appended put step h (xs ++ y ∷ []) ys ∙ ap put (append_assoc xs (y ∷ []) ys)
