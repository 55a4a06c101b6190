-- What cuts and returns leave of a submission: its content, its retry and its number; so its returns, changes and
-- authorizations stand in the tables as they did.
use Rattle.std.proofs.Common.{◌≡◌, ℕ, ◌+◌, Bool, true, false, ◌==◌, ◌&&◌, List, [], ◌∷◌, ◌++◌, map, length, find, Some, option_map, refl, sym, subst, ap, ◌∙◌, arith, bytes_eq}
use Rattle.std.specs.Prelude.{if◌then◌else◌, filter_map, option_and_then}
use Rattle.std.specs.List.{enumerate_from, cons_option, AllByRecursion}
use Rattle.std.proofs.lemmas.List.{map-append}
use Rattle.desk_rules.specs.declared.bodies.submission.Retry.{Retry}
use Rattle.desk_rules.specs.declared.bodies.submission.Submission.{Submission}
use Rattle.desk_book.specs.declared.flat_rows.ChangedRow.{ChangedRow}
use Rattle.desk_book.specs.declared.flat_rows.LapsedRow.{LapsedRow}
use Rattle.desk_book.specs.declared.flat_rows.ReturnedRow.{ReturnedRow}
use Rattle.desk_book.specs.declared.flat_rows.SentRow.{SentRow}
use Rattle.desk_book.specs.declared.row.Row.{Row}
use Rattle.desk_book.specs.Standing.{sent_row, lapsed_row, is_row_under}
use Rattle.desk_book.specs.Steps.{if_order, returned_row_by, returned_state_by}
use Rattle.desk_store.specs.Changes.{in_company, send_in, lapse_in, return_in, in_turn}
use Rattle.desk_store.specs.Rows.{CompanyRow}
use Rattle.sql_tables.specs.Encodes.{order_under, is_submission_under, return_record, change_record, authorization_record, AsksAs, RetryFits, return_under, change_under}

-- the change leaves number, content and retry of a row
record KeepsRow (change : Row → Row) : Type 0 where
  order : (row : Row) → (change row).order ≡ row.order
  content : (row : Row) → (change row).content ≡ row.content
  retry : (row : Row) → (change row).retry ≡ row.retry

-- so does it of a company's row, with the company
pub record KeepsContent (change : CompanyRow → CompanyRow) : Type 0 where
  pub company : (x : CompanyRow) → (change x).company ≡ x.company
  pub order : (x : CompanyRow) → (change x).row.order ≡ x.row.order
  pub content : (x : CompanyRow) → (change x).row.content ≡ x.row.content
  pub retry : (x : CompanyRow) → (change x).row.retry ≡ x.row.retry

kept_if : (o : ℕ) (change : Row → Row) → KeepsRow change → KeepsRow (if_order o change)
kept_if o change k = record {
  order = λ row. elim (row.order == o) as (λ t. (if t then change row else row).order ≡ row.order) [ true ↦ k.order row | false ↦ refl ];
  content = λ row. elim (row.order == o) as (λ t. (if t then change row else row).content ≡ row.content) [ true ↦ k.content row | false ↦ refl ];
  retry = λ row. elim (row.order == o) as (λ t. (if t then change row else row).retry ≡ row.retry) [ true ↦ k.retry row | false ↦ refl ];
}

kept_in : (c : List ℕ) (change : Row → Row) → KeepsRow change → KeepsContent (in_company c change)
kept_in c change k = record {
  company = λ x. elim (bytes_eq x.company c) as (λ t. (if t then record x { row = change x.row } else x).company ≡ x.company) [ true ↦ refl | false ↦ refl ];
  order = λ x. elim (bytes_eq x.company c) as (λ t. (if t then record x { row = change x.row } else x).row.order ≡ x.row.order) [ true ↦ k.order x.row | false ↦ refl ];
  content = λ x. elim (bytes_eq x.company c) as (λ t. (if t then record x { row = change x.row } else x).row.content ≡ x.row.content) [ true ↦ k.content x.row | false ↦ refl ];
  retry = λ x. elim (bytes_eq x.company c) as (λ t. (if t then record x { row = change x.row } else x).row.retry ≡ x.row.retry) [ true ↦ k.retry x.row | false ↦ refl ];
}

pub send_keeps : (s : SentRow) → KeepsContent (send_in s)
send_keeps s = kept_in s.company (if_order s.order (sent_row s.settled)) (kept_if s.order (sent_row s.settled) (record { order = λ row. refl; content = λ row. refl; retry = λ row. refl }))

pub lapse_keeps : (l : LapsedRow) → KeepsContent (lapse_in l)
lapse_keeps l = kept_in l.company (if_order l.order lapsed_row) (kept_if l.order lapsed_row (record { order = λ row. refl; content = λ row. refl; retry = λ row. refl }))

abbrev pub restated : ReturnedRow → Row → Row
restated x row = record row { states = map (λ p. if p.0 == x.row.index then returned_state_by x p.1 else p.1) (enumerate_from 1 row.states) }

returned_keeps : (x : ReturnedRow) → KeepsRow (returned_row_by x)
returned_keeps x = record {
  order = λ row. elim (is_row_under x.row.reference row) as (λ t. (if t then restated x row else row).order ≡ row.order) [ true ↦ refl | false ↦ refl ];
  content = λ row. elim (is_row_under x.row.reference row) as (λ t. (if t then restated x row else row).content ≡ row.content) [ true ↦ refl | false ↦ refl ];
  retry = λ row. elim (is_row_under x.row.reference row) as (λ t. (if t then restated x row else row).retry ≡ row.retry) [ true ↦ refl | false ↦ refl ];
}

-- ---- one change of all rows

module _ (change : CompanyRow → CompanyRow) (k : KeepsContent change) where
  one_order : (c reference : List ℕ) (rows : List CompanyRow) → order_under (map change rows) c reference ≡ order_under rows c reference
  one_order c reference [] = refl
  one_order c reference (x ∷ rows) =
      ap (λ (t : Bool). option_map (λ (y : CompanyRow). y.row.order) (if t then Some (change x) else find (is_submission_under c reference) (map change rows))) same
      ∙ elim (is_submission_under c reference x) as (λ t. option_map (λ (y : CompanyRow). y.row.order) (if t then Some (change x) else find (is_submission_under c reference) (map change rows)) ≡ option_map (λ (y : CompanyRow). y.row.order) (if t then Some x else find (is_submission_under c reference) rows)) [
        | true ↦ ap Some (k.order x)
        | false ↦ one_order c reference rows
      ]
    where
      same : is_submission_under c reference (change x) ≡ is_submission_under c reference x
      same = λ i. bytes_eq (k.company x i) c && bytes_eq (k.content x i).reference reference

  one_authorization : (x : CompanyRow) → authorization_record (change x) ≡ authorization_record x
  one_authorization x = λ i. option_map (λ day. record { company = k.company x i; order = k.order x i; day = day }) (option_and_then (λ (retry : Retry). retry.authorized) (k.retry x i))

  one_authorized : (rows : List CompanyRow) → filter_map authorization_record (map change rows) ≡ filter_map authorization_record rows
  one_authorized [] = refl
  one_authorized (x ∷ rows) = λ i. cons_option (one_authorization x i) (one_authorized rows i)

  one_retry : (x : CompanyRow) → RetryFits x → RetryFits (change x)
  one_retry x h =
      subst (λ retry. AsksAs (change x).row.content.reference (change x).row.content.day retry) (sym (k.retry x))
      (subst (λ (content : Submission). AsksAs content.reference content.day x.row.retry) (sym (k.content x)) h)

  one_fitting : (rows : List CompanyRow) → AllByRecursion RetryFits rows → AllByRecursion RetryFits (map change rows)
  one_fitting [] h = tt
  one_fitting (x ∷ rows) h = (one_retry x h.0, one_fitting rows h.1)

-- ---- one change after another

module _ {X : Type 0} (change : X → CompanyRow → CompanyRow) (k : (x : X) → KeepsContent (change x)) where
  pub order_kept : (xs : List X) (c reference : List ℕ) (rows : List CompanyRow) → order_under (in_turn change xs rows) c reference ≡ order_under rows c reference
  order_kept [] c reference rows = refl
  order_kept (x ∷ xs) c reference rows = order_kept xs c reference (map (change x) rows) ∙ one_order (change x) (k x) c reference rows

  pub authorizations_kept : (xs : List X) (rows : List CompanyRow) → filter_map authorization_record (in_turn change xs rows) ≡ filter_map authorization_record rows
  authorizations_kept [] rows = refl
  authorizations_kept (x ∷ xs) rows = authorizations_kept xs (map (change x) rows) ∙ one_authorized (change x) (k x) rows

  pub retries_kept : (xs : List X) (rows : List CompanyRow) → AllByRecursion RetryFits rows → AllByRecursion RetryFits (in_turn change xs rows)
  retries_kept [] rows h = h
  retries_kept (x ∷ xs) rows h = retries_kept xs (map (change x) rows) (one_fitting (change x) (k x) rows h)

pub return_keeps : (x : ReturnedRow) → KeepsContent (return_in x)
return_keeps x = kept_in x.company (returned_row_by x) (returned_keeps x)

-- ---- what is numbered in the order in which it came

pub numbered_append : {X : Type 0} (n : ℕ) (xs ys : List X) → enumerate_from n (xs ++ ys) ≡ enumerate_from n xs ++ enumerate_from (length xs + n) ys
numbered_append n [] ys = ap (λ m. enumerate_from m ys) (let at : n ≡ 0 + n = omega arith in at)
numbered_append n (x ∷ xs) ys =
    ap (λ l. (n, x) ∷ l) (numbered_append (n + 1) xs ys ∙ ap (λ m. enumerate_from (n + 1) xs ++ enumerate_from m ys) (let at : length xs + (n + 1) ≡ length (x ∷ xs) + n = omega arith in at))

-- lines that come later stand behind the others, and are numbered on
pub numbered_more : {X Y : Type 0} (row : ℕ × X → Y) (xs ys : List X) → map row (enumerate_from 1 (xs ++ ys)) ≡ map row (enumerate_from 1 xs) ++ map row (enumerate_from (length xs + 1) ys)
numbered_more row xs ys = ap (map row) (numbered_append 1 xs ys) ∙ map-append row (enumerate_from 1 xs) (enumerate_from (length xs + 1) ys)

module _ (old new : List CompanyRow) (same : (c reference : List ℕ) → order_under new c reference ≡ order_under old c reference) where
  -- the rows of returns are those that they were, where order numbers are
  pub returns_kept : (n : ℕ) (xs : List ReturnedRow) → map (return_record new) (enumerate_from n xs) ≡ map (return_record old) (enumerate_from n xs)
  returns_kept n [] = refl
  returns_kept n (x ∷ xs) = λ i. option_map (λ order. return_under n (record x { order = order })) (same x.company x.row.reference i) ∷ returns_kept (n + 1) xs i

  -- and so are those of changes
  pub changes_kept : (n : ℕ) (xs : List ChangedRow) → map (change_record new) (enumerate_from n xs) ≡ map (change_record old) (enumerate_from n xs)
  changes_kept n [] = refl
  changes_kept n (x ∷ xs) = λ i. option_map (λ order. change_under n (record x { order = order })) (same x.company x.row.reference i) ∷ changes_kept (n + 1) xs i
