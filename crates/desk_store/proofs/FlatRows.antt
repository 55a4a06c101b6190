-- The effect of a change of flat lists on the look-ups of a book.
use Rattle.std.proofs.Common.{◌≡◌, ℕ, ◌+◌, List, [], ◌∷◌, ◌++◌, map, Bool, true, false, cond, refl, sym, ap, ◌∙◌, inl, inr, arith}
use Rattle.std.specs.Prelude.{if◌then◌else◌, filter, count_by, bytes_eq}
use Rattle.std.proofs.lemmas.Bool.{cases_Bool, false_from_ne_true}
use Rattle.std.proofs.lemmas.List.{append-nil, map-append, map-id}
use Rattle.std.proofs.lemmas.List.Elements.{filter-append}
use Rattle.std.proofs.lemmas.List.Sums.{sum_by-append}
use Rattle.std.proofs.lemmas.Slice.Eq.{bytes_eq-Decides}
use Rattle.desk_book.specs.declared.row.Row.{Row}
use Rattle.desk_store.specs.Rows.{CompanyRow}
use Rattle.desk_book.specs.Steps.{change_at}
use Rattle.desk_store.specs.Changes.{in_company}

abbrev pub is_of : List ℕ → CompanyRow → Bool
is_of c x = bytes_eq x.company c

abbrev pub rows_of : List CompanyRow → List ℕ → List Row
rows_of xs c = map (λ x. x.row) (filter (is_of c) xs)

-- ---- a change of one company's rows

-- a change that leaves the companies as they are is a change of each company's rows
rows_each : (step : CompanyRow → CompanyRow) (made : Row → Row) (d : List ℕ) → ((x : CompanyRow) → is_of d (step x) ≡ is_of d x) → ((x : CompanyRow) → is_of d x ≡ true → (step x).row ≡ made x.row) → (xs : List CompanyRow) → rows_of (map step xs) d ≡ map made (rows_of xs d)
rows_each step made d keeps makes [] = refl
rows_each step made d keeps makes (x ∷ xs) =
    let rest = filter (is_of d) (map step xs) in
    let before = λ (t : Bool). map made (map (λ y. y.row) (cond t (x ∷ filter (is_of d) xs) (filter (is_of d) xs))) in
    elim (cases_Bool (is_of d x)) [
      | inl is ↦ ap (λ (t : Bool). map (λ y. y.row) (cond t (step x ∷ rest) rest)) (keeps x ∙ is) ∙ (λ i. makes x is i ∷ rows_each step made d keeps makes xs i) ∙ ap before (sym is)
      | inr out ↦ ap (λ (t : Bool). map (λ y. y.row) (cond t (step x ∷ rest) rest)) (keeps x ∙ out) ∙ rows_each step made d keeps makes xs ∙ ap before (sym out)
    ]

module _ (c : List ℕ) (change : Row → Row) where
  keeps : (d : List ℕ) (x : CompanyRow) → is_of d (in_company c change x) ≡ is_of d x
  keeps d x = elim (bytes_eq x.company c) as (λ t. bytes_eq (if t then record x { row = change x.row } else x).company d ≡ bytes_eq x.company d) [ true ↦ refl | false ↦ refl ]

  own : (d : List ℕ) → bytes_eq c d ≡ true → (x : CompanyRow) → is_of d x ≡ true → (in_company c change x).row ≡ change x.row
  own d here x is =
      let same : bytes_eq x.company c ≡ true = (bytes_eq-Decides x.company c).1 ((bytes_eq-Decides x.company d).0 is ∙ sym ((bytes_eq-Decides c d).0 here)) in
      ap (λ (t : Bool). (if t then record x { row = change x.row } else x).row) same

  other : (d : List ℕ) → bytes_eq c d ≡ false → (x : CompanyRow) → is_of d x ≡ true → (in_company c change x).row ≡ x.row
  other d away x is =
      let differ : bytes_eq x.company c ≡ false = false_from_ne_true (bytes_eq x.company c) (λ same.
      let here : bytes_eq c d ≡ true = (bytes_eq-Decides c d).1 (sym ((bytes_eq-Decides x.company c).0 same) ∙ (bytes_eq-Decides x.company d).0 is) in
      cc) in
      ap (λ (t : Bool). (if t then record x { row = change x.row } else x).row) differ

-- it is a change of the look-up at that company
pub rows_changed : (c : List ℕ) (change : Row → Row) (xs : List CompanyRow) (d : List ℕ)
    → rows_of (map (in_company c change) xs) d ≡ change_at c (map change) (rows_of xs) d
rows_changed c change xs d =
    let before = rows_of xs d in
    elim (cases_Bool (bytes_eq c d)) [
      | inl here ↦ rows_each (in_company c change) change d (keeps c change d) (own c change d here) xs ∙ ap (λ (t : Bool). if t then map change before else before) (sym here)
      | inr away ↦ rows_each (in_company c change) (λ row. row) d (keeps c change d) (other c change d away) xs ∙ map-id before ∙ ap (λ (t : Bool). if t then map change before else before) (sym away)
    ]

-- ---- one more at the end

-- it is found where it passes the test
pub passing_more : {X Y : Type 0} (row : X → Y) (p : X → Bool) (xs : List X) (x : X)
    → map row (filter p (xs ++ x ∷ [])) ≡ map row (filter p xs) ++ (if p x then row x ∷ [] else [])
passing_more row p xs x =
    ap (map row) (filter-append p xs (x ∷ []))
    ∙ map-append row (filter p xs) (filter p (x ∷ []))
    ∙ elim (p x) as (λ t. map row (filter p xs) ++ map row (cond t (x ∷ []) []) ≡ map row (filter p xs) ++ (if t then row x ∷ [] else [])) [ true ↦ refl | false ↦ refl ]

-- it comes last among its company's
pub own_more : {X Y : Type 0} (row : X → Y) (company : X → List ℕ) (xs : List X) (x : X) (c : List ℕ)
    → map row (filter (λ y. bytes_eq (company y) c) (xs ++ x ∷ [])) ≡ change_at (company x) (λ ys. ys ++ row x ∷ []) (λ d. map row (filter (λ y. bytes_eq (company y) d) xs)) c
own_more row company xs x c =
    passing_more row (λ y. bytes_eq (company y) c) xs x
    ∙ (let before = map row (filter (λ y. bytes_eq (company y) c) xs) in
    elim (bytes_eq (company x) c) as (λ t. before ++ (if t then row x ∷ [] else []) ≡ (if t then before ++ row x ∷ [] else before)) [ true ↦ refl | false ↦ append-nil before ])

-- it counts where it passes
pub count_more : {X : Type 0} (p : X → Bool) (xs : List X) (x : X) → count_by p (xs ++ x ∷ []) ≡ count_by p xs + (if p x then 1 else 0)
count_more p xs x = sum_by-append (λ y. cond (p y) 1 0) xs (x ∷ []) ∙ (let e : 0 + cond (p x) 1 0 ≡ cond (p x) 1 0 = omega arith in ap (λ n. count_by p xs + n) e)
