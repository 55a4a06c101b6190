-- A submission that waits was not printed, and nothing of it came back.
use Rattle.std.proofs.Common.{◌≡◌, ℕ, ◌+◌, true, false, List, [], ◌∷◌, map, filter, find, slice_get, IsSome, Option, Some, None, option_map, refl, sym, ap, ◌∙◌, true≢false}
use Rattle.std.specs.Prelude.{is_some, filter_map, option_and_then}
use Rattle.std.specs.List.{AllByRecursion, cons_option, enumerate_from}
use Rattle.std.proofs.lemmas.Bool.{false_from_ne_true, and_parts}
use Rattle.std.proofs.lemmas.List.Elements.{recursion_from_All}
use Rattle.std.proofs.lemmas.Slice.Eq.{bytes_eq-Decides}
use Rattle.sqlite_keyed.proofs.ListLemmas.{all_weaker, slice_get-filter}
use Rattle.desk_book.specs.declared.flat_rows.ReturnedRow.{ReturnedRow}
use Rattle.desk_book.specs.declared.flat_rows.SentRow.{SentRow}
use Rattle.desk_store.specs.Rows.{CompanyRow, Rows, is_printed_of}
use Rattle.sql_tables.specs.Beside.{AreNumbered, ArePrinted, ReturnsSettled, is_submission}
use Rattle.sql_tables.specs.CutTables.{is_row}
use Rattle.sql_tables.specs.Encodes.{is_return_of, is_submission_under, return_record, submission_record, return_under}
use Rattle.sql_tables.specs.TableEdits.{Waits}
use Rattle.sql_tables.specs.Tables.{Tables}
use Rattle.sql_tables.specs.declared.records.ReturnRecord.{ReturnRecord}
use Rattle.sql_tables.specs.declared.records.SubmissionRecord.{SubmissionRecord}
use Rattle.sql_tables.proofs.CutRecords.{pair_same, pair_from}
use Rattle.sql_write_laws.proofs.Each.{AreOf}
use Rattle.sql_write_laws.proofs.Found.{find-map, nothing_mapped, found_passes, found_holds, none_found, alone, filter_found}
use Rattle.sql_write_laws.proofs.Numbered.{some_same}
use Rattle.sql_write_laws.proofs.RowChanges.{one_of_order}

-- the submission of this number, which no cut has decided
pub record Waiting (c : List ℕ) (o : ℕ) (rows : List CompanyRow) : Type 0 where
  pub row : CompanyRow
  pub found : find (is_submission c o) rows ≡ Some row
  pub unsettled : row.row.settled ≡ None
  pub lasts : row.row.lapsed ≡ false

pub waiting_row : (c : List ℕ) (o : ℕ) (t : Tables) (r : Rows) → AreOf t r → Waits c o t → Waiting c o r.submissions
waiting_row c o t r are w = go (find (is_submission c o) r.submissions) refl (sym (find-map (is_row c o) (submission_record r.printed) r.submissions) ∙ sym (ap (find (is_row c o)) are.0.submissions) ∙ w.found)
  where
    go : (x : Option CompanyRow) → find (is_submission c o) r.submissions ≡ x → option_map (submission_record r.printed) x ≡ Some w.submission → Waiting c o r.submissions
    go None is h = cc
    go (Some x) is h =
        let same : submission_record r.printed x ≡ w.submission = some_same h in
        record { row = x; found = is; unsettled = ap (λ (s : SubmissionRecord). s.head.settled) same ∙ w.unsettled; lasts = ap (λ (s : SubmissionRecord). s.head.lapsed) same ∙ w.lasts }

module _ (c : List ℕ) (o : ℕ) (rows : List CompanyRow) (orders : AreNumbered rows) (w : Waiting c o rows) where
  abbrev pub IsIt : CompanyRow → Type 0
  IsIt x = is_submission c o x ≡ true → x ≡ w.row

  -- no other has its number
  pub the_waiting : AllByRecursion IsIt rows
  the_waiting = all_weaker _ IsIt (λ x h is. some_same (sym (h is) ∙ w.found)) rows (alone (is_submission c o) rows (one_of_order rows orders c o))

  pub not_printed : (printed : List SentRow) → ArePrinted printed rows → filter (is_printed_of c o) printed ≡ []
  not_printed printed are =
      nothing_mapped (λ (s : SentRow). s.settled) (filter (is_printed_of c o) printed)
      (are c o ∙ ap (filter_map (λ (x : CompanyRow). x.row.settled)) (filter_found (is_submission c o) rows w.row (one_of_order rows orders c o) w.found) ∙ ap (λ d. cons_option d []) w.unsettled)

  pub not_found_printed : (printed : List SentRow) → ArePrinted printed rows → find (is_printed_of c o) printed ≡ None
  not_found_printed printed are = sym (slice_get-filter (is_printed_of c o) printed) ∙ ap (λ (l : List SentRow). slice_get l 0) (not_printed printed are)

  -- a return is of what settled
  not_of_it : (index n : ℕ) (x : ReturnedRow) (y : ReturnRecord) → return_record rows (n, x) ≡ Some y → ReturnsSettled rows x → is_return_of c o index y ≡ false
  not_of_it index n x y made settled = false_from_ne_true _ (λ is. go is (find (is_submission_under x.company x.row.reference) rows) refl made settled)
    where
      go : is_return_of c o index y ≡ true → (z : Option CompanyRow) → find (is_submission_under x.company x.row.reference) rows ≡ z
          → option_map (λ order. return_under n (record x { order = order })) (option_map (λ (v : CompanyRow). v.row.order) z) ≡ Some y
          → IsSome (option_and_then (λ (v : CompanyRow). v.row.settled) z) → ⊥
      go is None found made some = cc
      go is (Some z) found made some =
          let same : return_under n (record x { order = z.row.order }) ≡ y = some_same made in
          let keys = pair_same y.company c y.order o (and_parts _ _ is).0 in
          let of : z.company ≡ x.company = (bytes_eq-Decides z.company x.company).0 (and_parts _ _ (found_passes (is_submission_under x.company x.row.reference) rows z found)).0 in
          let company : z.company ≡ c = of ∙ ap (λ (q : ReturnRecord). q.company) same ∙ keys.0 in
          let order : z.row.order ≡ o = ap (λ (q : ReturnRecord). q.order) same ∙ keys.1 in
          let it : z ≡ w.row = found_holds (is_submission_under x.company x.row.reference) IsIt rows z the_waiting found (pair_from z.company c z.row.order o company order) in
          let none : z.row.settled ≡ None = ap (λ (v : CompanyRow). v.row.settled) it ∙ w.unsettled in
          absurd (true≢false (sym some ∙ ap (λ (d : Option ℕ). is_some d) none))

  none_of_it : (index n : ℕ) (xs : List ReturnedRow) (ys : List ReturnRecord) → map Some ys ≡ map (return_record rows) (enumerate_from n xs) → AllByRecursion (ReturnsSettled rows) xs → AllByRecursion (λ y. is_return_of c o index y ≡ false) ys
  none_of_it index n [] [] is settled = tt
  none_of_it index n [] (y ∷ ys) is settled = cc
  none_of_it index n (x ∷ xs) [] is settled = cc
  none_of_it index n (x ∷ xs) (y ∷ ys) is settled =
      let first : return_record rows (n, x) ≡ Some y = cc in
      let rest : map Some ys ≡ map (return_record rows) (enumerate_from (n + 1) xs) = cc in
      (not_of_it index n x y first settled.0, none_of_it index (n + 1) xs ys rest settled.1)

pub no_returns : (c : List ℕ) (o : ℕ) (t : Tables) (r : Rows) → AreOf t r → Waiting c o r.submissions → (index : ℕ) → find (is_return_of c o index) t.returns ≡ None
no_returns c o t r are w index =
    none_found (is_return_of c o index) t.returns
    (none_of_it c o r.submissions are.1.orders w index 1 r.returned t.returns are.0.returns (recursion_from_All (ReturnsSettled r.submissions) r.returned are.1.back))
