-- The effect of one more submission on the book.
use Rattle.std.proofs.Common.{◌≡◌, ◌∙◌, ap, sym, inl, inr, ℕ, ◌+◌, Bool, List, [], ◌∷◌, ◌++◌, map, length}
use Rattle.std.specs.Prelude.{filter, if◌then◌else◌, bytes_eq, Option}
use Rattle.std.proofs.lemmas.Bool.{cases_Bool}
use Rattle.std.proofs.lemmas.Slice.Eq.{bytes_eq-Decides}
use Rattle.desk_rules.specs.declared.bodies.submission.Retry.{Retry}
use Rattle.desk_rules.specs.declared.bodies.submission.Submission.{Submission}
use Rattle.desk_book.specs.declared.row.Row.{Row}
use Rattle.desk_book.specs.Standing.{next_row}
use Rattle.desk_store.specs.Held.{held_row}
use Rattle.desk_store.specs.Rows.{Rows, CompanyRow, flat_book}
use Rattle.desk_book.specs.Steps.{change_at, add_submission}
use Rattle.desk_store.proofs.FlatRows.{own_more}

-- the company's rows have the next one, and those of others are as they were
flat-push : (xs : List CompanyRow) (at : List ℕ) (order : ℕ) (s : Submission) (retry : Option Retry) (c : List ℕ) →
    (let rows : List ℕ → List Row = λ c. map (λ x. x.row) (filter (λ x. bytes_eq x.company c) xs) in
    order ≡ length (rows at) + 1 →
    map (λ x. x.row) (filter (λ x. bytes_eq x.company c) (xs ++ held_row at order s retry ∷ [])) ≡ change_at at (λ rs. rs ++ next_row rs s retry ∷ []) rows c)
flat-push xs at order s retry c next =
    let rows : List ℕ → List Row = λ c. map (λ x. x.row) (filter (λ x. bytes_eq x.company c) xs) in
    let row : ℕ → Row = λ n. (held_row at n s retry).row in
    own_more (λ x. x.row) (λ (x : CompanyRow). x.company) xs (held_row at order s retry) c
    ∙ elim (cases_Bool (bytes_eq at c)) [
      | inl own ↦
          let is : at ≡ c = (bytes_eq-Decides at c).0 own in
          let counted : order ≡ length (rows c) + 1 = next ∙ ap (λ (k : List ℕ). length (rows k) + 1) is in
          ap (λ (n : ℕ). if bytes_eq at c then rows c ++ row n ∷ [] else rows c) counted
      | inr other ↦
          ap (λ (t : Bool). if t then rows c ++ row order ∷ [] else rows c) other
          ∙ ap (λ (t : Bool). if t then rows c ++ row (length (rows c) + 1) ∷ [] else rows c) (sym other)
    ]

-- the book after one more held submission
pub flat-add : (r : Rows) (at : List ℕ) (order : ℕ) (s : Submission) (retry : Option Retry) →
    (add_submission at order s retry).Admits (flat_book r) →
    flat_book (record r { submissions = r.submissions ++ held_row at order s retry ∷ [] }) ≡ (add_submission at order s retry).after (flat_book r)
flat-add r at order s retry next = λ i. record (flat_book r) { rows = λ c. flat-push r.submissions at order s retry c next i }
