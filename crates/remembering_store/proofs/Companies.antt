-- What is known of one company follows a step, and that of the others stays.
use Rattle.std.proofs.Common.{◌≡◌, ◌∙◌, refl, ap, sym, subst, ℕ, ◌+◌, ◌<◌, ◌≤◌, Bool, true, false, List, [], ◌∷◌, length, take, get_or, Option, Some, cond}
use Rattle.std.proofs.lemmas.List.{take_all}
use Rattle.std.proofs.lemmas.List.Sums.{fold_more}
use Rattle.std.specs.Prelude.{if◌then◌else◌, IfSome, bytes_eq, fold}
use Rattle.std.specs.HashMap.{HashMap, get}
use Rattle.std.specs.Cmp.Lexicographic.{same_text}
use Rattle.desk_book.specs.Book.{Book}
use Rattle.desk_book.specs.declared.row.Row.{Row}
use Rattle.desk_book.specs.declared.flat_rows.ChangedRow.{ChangedRow}
use Rattle.desk_book.specs.declared.flat_rows.FileRow.{FileRow}
use Rattle.desk_book.specs.Steps.{put_change, put_file}
use Rattle.remembering_store.specs.CompanyKeys.{is_same_company}
use Rattle.remembering_store.specs.KnownSums.{SumsRight}
use Rattle.remembering_store.specs.KnownCompany.{AgreesWith}
use Rattle.remembering_store.specs.declared.company_key.CompanyKey.{CompanyKey}
use Rattle.remembering_store.specs.declared.sums.KnownSums.{KnownSums}
use Rattle.remembering_store.proofs.Registering.{key}

-- what is known of a company agrees with its rows
pub company_found : {V S : Type 0} (Agrees : V → List Row → Type 0) (c : List ℕ) (m : HashMap CompanyKey V S) (v : V) (b : Book) → Some v ≡ get is_same_company m (key c)
    → ((q : CompanyKey) → IfSome (get is_same_company m q) (λ x. Agrees x (b.rows q.company))) → Agrees v (b.rows c)
company_found {V} Agrees c m v b found all = subst (λ (o : Option V). IfSome o (λ x. Agrees x (b.rows c))) (sym found) (all (key c))

pub company_followed : {V S : Type 0} (Agrees : V → List Row → Type 0) (c : List ℕ) (turn : List Row → List Row) (m n : HashMap CompanyKey V S) (v w : V) (b : Book)
    → Some v ≡ get is_same_company m (key c)
    → ((q : CompanyKey) → get is_same_company n q ≡ cond (is_same_company (key c) q) (Some w) (get is_same_company m q))
    → ((rs : List Row) → Agrees v rs → Agrees w (turn rs))
    → ((q : CompanyKey) → IfSome (get is_same_company m q) (λ x. Agrees x (b.rows q.company)))
    → (q : CompanyKey) → IfSome (get is_same_company n q) (λ x. Agrees x (if bytes_eq c q.company then turn (b.rows q.company) else b.rows q.company))
company_followed {V} Agrees c turn m n v w b found puts follows all q =
    subst (λ (o : Option V). IfSome o (λ x. Agrees x (if bytes_eq c q.company then turn (b.rows q.company) else b.rows q.company))) (sym (puts q)) (by (is_same_company (key c) q) refl) where
      by : (t : Bool) → bytes_eq c q.company ≡ t → IfSome (cond t (Some w) (get is_same_company m q)) (λ x. Agrees x (if bytes_eq c q.company then turn (b.rows q.company) else b.rows q.company))
      by true e =
          let was : Agrees v (b.rows c) = company_found Agrees c m v b found all in
          let here : Agrees v (b.rows q.company) = subst (λ (k : List ℕ). Agrees v (b.rows k)) (same_text c q.company (sym e)) was in
          subst (λ (t : Bool). Agrees w (if t then turn (b.rows q.company) else b.rows q.company)) (sym e) (follows (b.rows q.company) here)
      by false e = subst (λ (t : Bool). IfSome (get is_same_company m q) (λ x. Agrees x (if t then turn (b.rows q.company) else b.rows q.company))) (sym e) (all q)

-- the same, where the step is followed of the rows that the company has
pub company_followed_there : {V S : Type 0} (Agrees : V → List Row → Type 0) (c : List ℕ) (turn : List Row → List Row) (m n : HashMap CompanyKey V S) (v w : V) (b : Book)
    → Some v ≡ get is_same_company m (key c)
    → ((q : CompanyKey) → get is_same_company n q ≡ cond (is_same_company (key c) q) (Some w) (get is_same_company m q))
    → (Agrees v (b.rows c) → Agrees w (turn (b.rows c)))
    → ((q : CompanyKey) → IfSome (get is_same_company m q) (λ x. Agrees x (b.rows q.company)))
    → (q : CompanyKey) → IfSome (get is_same_company n q) (λ x. Agrees x (if bytes_eq c q.company then turn (b.rows q.company) else b.rows q.company))
company_followed_there {V} Agrees c turn m n v w b found puts follows all q =
    subst (λ (o : Option V). IfSome o (λ x. Agrees x (if bytes_eq c q.company then turn (b.rows q.company) else b.rows q.company))) (sym (puts q)) (by (is_same_company (key c) q) refl) where
      by : (t : Bool) → bytes_eq c q.company ≡ t → IfSome (cond t (Some w) (get is_same_company m q)) (λ x. Agrees x (if bytes_eq c q.company then turn (b.rows q.company) else b.rows q.company))
      by true e =
          let was : Agrees v (b.rows c) = company_found Agrees c m v b found all in
          let here : Agrees w (turn (b.rows q.company)) = subst (λ (k : List ℕ). Agrees w (turn (b.rows k))) (same_text c q.company (sym e)) (follows was) in
          subst (λ (t : Bool). Agrees w (if t then turn (b.rows q.company) else b.rows q.company)) (sym e) here
      by false e = subst (λ (t : Bool). IfSome (get is_same_company m q) (λ x. Agrees x (if t then turn (b.rows q.company) else b.rows q.company))) (sym e) (all q)

-- a company is put in
pub company_put : {V S : Type 0} (Agrees : V → List Row → Type 0) (c : List ℕ) (m n : HashMap CompanyKey V S) (w : V) (b : Book)
    → ((q : CompanyKey) → get is_same_company n q ≡ cond (is_same_company (key c) q) (Some w) (get is_same_company m q)) → Agrees w (b.rows c)
    → ((q : CompanyKey) → IfSome (get is_same_company m q) (λ x. Agrees x (b.rows q.company))) → (q : CompanyKey) → IfSome (get is_same_company n q) (λ x. Agrees x (b.rows q.company))
company_put {V} Agrees c m n w b puts is all q = subst (λ (o : Option V). IfSome o (λ x. Agrees x (b.rows q.company))) (sym (puts q)) (by (is_same_company (key c) q) refl) where
  by : (t : Bool) → bytes_eq c q.company ≡ t → IfSome (cond t (Some w) (get is_same_company m q)) (λ x. Agrees x (b.rows q.company))
  by true e = subst (λ (k : List ℕ). Agrees w (b.rows k)) (same_text c q.company (sym e)) is
  by false e = all q

-- ---- what a cut and a file write beside rows

pub same_rows : (m : KnownSums) (b after : Book) → after.rows ≡ b.rows → SumsRight m b → SumsRight m after
same_rows m b after same right k = subst (λ (rows : List ℕ → List Row). IfSome (get is_same_company m.companies k) (λ x. AgreesWith x (rows k.company))) (sym same) (right k)

pub files_keep_rows : (fs : List FileRow) (b : Book) → (fold put_file b fs).rows ≡ b.rows
files_keep_rows [] b = refl
files_keep_rows (f ∷ fs) b = files_keep_rows fs (put_file b f)

pub changes_keep_rows : (xs : List ChangedRow) (b : Book) → (fold put_change b xs).rows ≡ b.rows
changes_keep_rows [] b = refl
changes_keep_rows (x ∷ xs) b = changes_keep_rows xs (put_change b x)

-- ---- one step after another

-- what agreed with a book agrees with the one after a step
abbrev Along : {M : Type 0} (Right : M → Book → Type 0) → (old new : M) → (Book → Book) → Type 0
Along Right old new after = (b : Book) → Right old b → Right new (after b)

pub one_more : {M X : Type 0} (Right : M → Book → Type 0) (start : Book → Book) (step : Book → X → Book) (xs : List X) (i : ℕ) (x : X) (old m new : M) → i < length xs → x ≡ get_or xs i x
    → Along Right old m (λ b. fold step (start b) (take i xs)) → Along Right m new (λ b. step b x) → Along Right old new (λ b. fold step (start b) (take (i + 1) xs))
one_more Right start step xs i x old m new within is before follow b right =
    subst (Right new) (sym (fold_more step (start b) xs i x within ∙ ap (step (fold step (start b) (take i xs))) (sym is))) (follow (fold step (start b) (take i xs)) (before b right))

pub all_done : {M X : Type 0} (Right : M → Book → Type 0) (start : Book → Book) (step : Book → X → Book) (xs : List X) (i : ℕ) (old m : M) → length xs ≤ i
    → Along Right old m (λ b. fold step (start b) (take i xs)) → Along Right old m (λ b. fold step (start b) xs)
all_done {M} {X} Right start step xs i old m past before b right = subst (λ (ys : List X). Right m (fold step (start b) ys)) (take_all i xs past) (before b right)
