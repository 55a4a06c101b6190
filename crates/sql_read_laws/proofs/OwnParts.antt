-- What is found of the one submission of a company and a number, and of its entries.
use Rattle.std.proofs.Common.{◌≡◌, ℕ, zero, suc, ◌+◌, ◌<◌, ◌≤◌, ◌==◌, cond, List, [], ◌∷◌, filter, find, slice_get, Some, None, option_map, refl, sym, ap, ◌∙◌, arith}
use Rattle.std.specs.List.{AllByRecursion, Contains, enumerate_from}
use Rattle.std.proofs.lemmas.Bool.{eq-eqb, ne_eqb}
use Rattle.sqlite_trees.specs.Tree.{IsAscending}
use Rattle.sqlite_keyed.proofs.ListLemmas.{slice_get-filter}
use Rattle.desk_store.specs.Rows.{CompanyRow, Rows}
use Rattle.sql_tables.specs.CutTables.{is_row, is_entry_row}
use Rattle.sql_tables.specs.Encodes.{Encodes, submission_record, entry_record}
use Rattle.sql_tables.specs.Tables.{Tables}
use Rattle.sql_tables.specs.TableReads.{is_entry_of}
use Rattle.sql_tables.specs.declared.records.EntryRecord.{EntryRecord}
use Rattle.sql_tables.specs.declared.records.SubmissionRecord.{SubmissionRecord}
use Rattle.sql_read_laws.proofs.FoundRows.{record_found}
use Rattle.sql_tables.proofs.Lists.{find-map, find-both, of_contained}
use Rattle.sql_read_laws.proofs.Singles.{each_alone}
use Rattle.sql_read_laws.proofs.WholeRows.{is_own, own_entries}

module _ (t : Tables) (r : Rows) (e : Encodes t r) (x : CompanyRow) (alone : filter (is_own t r e x) r.submissions ≡ x ∷ []) where
  -- its record
  pub own_record : {X : Type 0} (of : SubmissionRecord → X) → option_map of (find (is_row x.company x.row.order) t.submissions) ≡ Some (of (submission_record r.printed x))
  own_record of =
      record_found t r e of (is_row x.company x.row.order)
      ∙ ap (option_map (λ y. of (submission_record r.printed y))) (sym (slice_get-filter (is_own t r e x) r.submissions) ∙ ap (λ l. slice_get l 0) alone)

  -- the entry that has a number
  pub own_entry : (index : ℕ) → find (is_entry_row x.company x.row.order index) t.entries ≡ option_map (entry_record r.sent x.company x.row.order) (find (λ p. p.0 == index) (enumerate_from 1 x.row.content.entries))
  own_entry index =
      sym (find-both (λ (z : EntryRecord). z.index == index) (is_entry_of x.company x.row.order) t.entries)
      ∙ ap (find (λ (z : EntryRecord). z.index == index)) (own_entries t r e x alone)
      ∙ find-map (λ (z : EntryRecord). z.index == index) (entry_record r.sent x.company x.row.order) (enumerate_from 1 x.row.content.entries)

-- ---- entries by their numbers

-- numbers from one on do not fall below it
pub below_none : {X : Type 0} (n k : ℕ) (xs : List X) → suc k ≤ n → find (λ (p : ℕ × X). p.0 == k) (enumerate_from n xs) ≡ None
below_none n k [] up = refl
below_none n k (x ∷ xs) up = ap (λ t. cond t (Some (n, x)) (find (λ p. p.0 == k) (enumerate_from (n + 1) xs))) (ne_eqb n k (λ same. absurd (omega arith))) ∙ below_none (n + 1) k xs (omega arith)

pub numbered_at : {X : Type 0} (n j : ℕ) (xs : List X) → find (λ (p : ℕ × X). p.0 == n + j) (enumerate_from n xs) ≡ slice_get (enumerate_from n xs) j
numbered_at n j [] = refl
numbered_at n zero (x ∷ xs) = ap (λ t. cond t (Some (n, x)) (find (λ p. p.0 == n + 0) (enumerate_from (n + 1) xs))) (eq-eqb n (n + 0) (omega arith))
numbered_at n (suc j) (x ∷ xs) =
    ap (λ t. cond t (Some (n, x)) (find (λ p. p.0 == n + suc j) (enumerate_from (n + 1) xs))) (ne_eqb n (n + suc j) (λ same. absurd (omega arith)))
    ∙ ap (λ (k : ℕ). find (λ p. p.0 == k) (enumerate_from (n + 1) xs)) (let at : n + suc j ≡ n + 1 + j = omega arith in at)
    ∙ numbered_at (n + 1) j xs

numbers_above : {X : Type 0} (m n : ℕ) (xs : List X) → m < n → AllByRecursion (λ (p : ℕ × X). m < p.0) (enumerate_from n xs)
numbers_above m n [] above = tt
numbers_above m n (x ∷ xs) above = (above, numbers_above m (n + 1) xs (omega arith))

numbers_rise : {X : Type 0} (n : ℕ) (xs : List X) → IsAscending (λ (p q : ℕ × X). p.0 < q.0) (enumerate_from n xs)
numbers_rise n [] = tt
numbers_rise n (x ∷ xs) = (numbers_above n (n + 1) xs (omega arith), numbers_rise (n + 1) xs)

-- one of them is found by its number
pub numbered_found : {X : Type 0} (n : ℕ) (xs : List X) (z : ℕ × X) → Contains (enumerate_from n xs) z → find (λ (p : ℕ × X). p.0 == z.0) (enumerate_from n xs) ≡ Some z
numbered_found {X = X} n xs z has =
    sym (slice_get-filter (λ (p : ℕ × X). p.0 == z.0) (enumerate_from n xs))
    ∙ ap (λ l. slice_get l 0) (of_contained (λ (y : ℕ × X). filter (λ (p : ℕ × X). p.0 == y.0) (enumerate_from n xs) ≡ y ∷ []) (enumerate_from n xs) z
    (each_alone (λ (p q : ℕ × X). p.0 < q.0) (λ p q. q.0 == p.0) (λ p. eq-eqb p.0 p.0 refl) (λ p q below. ne_eqb q.0 p.0 (λ same. absurd (omega arith))) (λ p q below. ne_eqb p.0 q.0 (λ same. absurd (omega arith))) (enumerate_from n xs) (numbers_rise n xs)) has)
