-- Returns and changes of a company, with the references of their submissions.
use Rattle.std.proofs.Common.{◌≡◌, ℕ, ◌+◌, cond, List, [], ◌∷◌, map, filter, find, Option, Some, None, option_map, refl, sym, ap, ◌∙◌, inl, inr, bytes_eq}
use Rattle.std.specs.List.{enumerate_from}
use Rattle.std.proofs.lemmas.Bool.{cases_Bool, and_parts}
use Rattle.std.proofs.lemmas.Slice.Eq.{bytes_eq-Decides}
use Rattle.sqlite_keyed.proofs.ListLemmas.{map-map}
use Rattle.desk_book.specs.declared.flat_rows.ChangedRow.{ChangedRow}
use Rattle.desk_book.specs.declared.flat_rows.ReturnedRow.{ReturnedRow}
use Rattle.desk_store.specs.Rows.{CompanyRow, Rows, flat_book}
use Rattle.sql_tables.specs.Description.{key_cmp}
use Rattle.sql_tables.specs.DeskTables as the
use Rattle.sql_tables.specs.Encodes.{Encodes, submission_record, return_record, change_record, is_submission_under, return_under, change_under}
use Rattle.sql_tables.specs.KeyOrders.{IsInOrder}
use Rattle.sql_tables.specs.Selected.{facts_of, return_line_of, change_line_of}
use Rattle.sql_tables.specs.TableReads.{facts_in, return_lines_in, change_lines_in}
use Rattle.sql_tables.specs.Tables.{Tables}
use Rattle.sql_tables.specs.declared.records.ChangeRecord.{ChangeRecord}
use Rattle.sql_tables.specs.declared.records.ReturnRecord.{ReturnRecord}
use Rattle.sql_tables.specs.declared.row.submissions.SubmissionFacts.{SubmissionFacts}
use Rattle.sql_tables.specs.Composed.{return_row_of, return_row_in, change_row_of, change_row_in}
use Rattle.sql_tables.proofs.Lists.{found_passes}
use Rattle.sql_read_laws.proofs.OwnParts.{own_record}
use Rattle.sql_read_laws.proofs.WholeRows.{is_own, all_alone}

-- records are those of rows, one by one, where each of a company is its row's in turn
module _ {X Y Z : Type 0} (company_of : X → List ℕ) (company : Y → List ℕ) (made : ℕ × Y → Option X) (c : List ℕ) (line : X → Option Z) (row : Y → Z)
    (each : (n : ℕ) (y : Y) (x : X) → Some x ≡ made (n, y) → (company_of x ≡ company y) × (company y ≡ c → line x ≡ Some (row y))) where
  pub lines_of_rows : (n : ℕ) (ys : List Y) (xs : List X) → map Some xs ≡ map made (enumerate_from n ys) → map line (filter (λ x. bytes_eq (company_of x) c) xs) ≡ map (λ y. Some (row y)) (filter (λ y. bytes_eq (company y) c) ys)
  lines_of_rows n [] [] is = refl
  lines_of_rows n [] (x ∷ xs) is = absurd (let e = is in cc)
  lines_of_rows n (y ∷ ys) [] is = absurd (let e = is in cc)
  lines_of_rows n (y ∷ ys) (x ∷ xs) is =
      let head : Some x ≡ made (n, y) = (let e = is in cc) in
      let tail : map Some xs ≡ map made (enumerate_from (n + 1) ys) = (let e = is in cc) in
      let here = each n y x head in
      let more = lines_of_rows (n + 1) ys xs tail in
      ap (λ t. map line (cond t (x ∷ filter (λ x. bytes_eq (company_of x) c) xs) (filter (λ x. bytes_eq (company_of x) c) xs))) (ap (λ (d : List ℕ). bytes_eq d c) here.0)
      ∙ elim (cases_Bool (bytes_eq (company y) c)) [
        | inl own ↦
            ap (λ t. map line (cond t (x ∷ filter (λ x. bytes_eq (company_of x) c) xs) (filter (λ x. bytes_eq (company_of x) c) xs))) own
            ∙ (λ i. here.1 ((bytes_eq-Decides (company y) c).0 own) i ∷ more i)
            ∙ ap (λ t. map (λ y. Some (row y)) (cond t (y ∷ filter (λ y. bytes_eq (company y) c) ys) (filter (λ y. bytes_eq (company y) c) ys))) (sym own)
        | inr other ↦
            ap (λ t. map line (cond t (x ∷ filter (λ x. bytes_eq (company_of x) c) xs) (filter (λ x. bytes_eq (company_of x) c) xs))) other
            ∙ more
            ∙ ap (λ t. map (λ y. Some (row y)) (cond t (y ∷ filter (λ y. bytes_eq (company y) c) ys) (filter (λ y. bytes_eq (company y) c) ys))) (sym other)
      ]

module _ (t : Tables) (r : Rows) (e : Encodes t r) (rise : IsInOrder (key_cmp the.submissions) t.submissions) (c : List ℕ) where
  -- the facts of the submission that has a reference
  facts_under : (company reference : List ℕ) (x : CompanyRow) → company ≡ c → find (is_submission_under company reference) r.submissions ≡ Some x
      → (facts : SubmissionFacts) × (facts_in c x.row.order t ≡ Some facts) × (facts.reference ≡ reference)
  facts_under company reference x own found =
      let stands = found_passes (λ y. filter (is_own t r e y) r.submissions ≡ y ∷ []) (is_submission_under company reference) r.submissions x (all_alone t r e rise) found in
      let keys = and_parts _ _ stands.1 in
      let at : x.company ≡ c = (bytes_eq-Decides x.company company).0 keys.0 ∙ own in
      (facts_of (submission_record r.printed x), ap (λ (d : List ℕ). facts_in d x.row.order t) (sym at) ∙ own_record t r e x stands.0 facts_of, (bytes_eq-Decides x.row.content.reference reference).0 keys.1)

  one_return : (n : ℕ) (y : ReturnedRow) (x : ReturnRecord) → Some x ≡ return_record r.submissions (n, y) → (x.company ≡ y.company) × (y.company ≡ c → return_row_in c t (return_line_of x) ≡ Some y.row)
  one_return n y x is = go (find (is_submission_under y.company y.row.reference) r.submissions) refl is
    where
      go : (o : Option CompanyRow) → find (is_submission_under y.company y.row.reference) r.submissions ≡ o
          → Some x ≡ option_map (λ (order : ℕ). return_under n (record y { order = order })) (option_map (λ (z : CompanyRow). z.row.order) o)
          → (x.company ≡ y.company) × (y.company ≡ c → return_row_in c t (return_line_of x) ≡ Some y.row)
      go None found some = absurd (let e = some in cc)
      go (Some z) found some =
          let made : ReturnRecord = return_under n (record y { order = z.row.order }) in
          let same : x ≡ made = (let e = some in cc) in (
            ap (λ (k : ReturnRecord). k.company) same,
            λ own.
                let facts = facts_under y.company y.row.reference z own found in
                ap (λ (k : ReturnRecord). return_row_in c t (return_line_of k)) same
                ∙ ap (option_map (return_row_of (return_line_of made))) facts.1
                ∙ (λ i. Some (record { code = y.row.code; day = y.row.day; index = y.row.index; info = y.row.info; late = y.row.late; reference = facts.2 i })),
          )

  one_change : (n : ℕ) (y : ChangedRow) (x : ChangeRecord) → Some x ≡ change_record r.submissions (n, y) → (x.company ≡ y.company) × (y.company ≡ c → change_row_in c t (change_line_of x) ≡ Some y.row)
  one_change n y x is = go (find (is_submission_under y.company y.row.reference) r.submissions) refl is
    where
      go : (o : Option CompanyRow) → find (is_submission_under y.company y.row.reference) r.submissions ≡ o
          → Some x ≡ option_map (λ (order : ℕ). change_under n (record y { order = order })) (option_map (λ (z : CompanyRow). z.row.order) o)
          → (x.company ≡ y.company) × (y.company ≡ c → change_row_in c t (change_line_of x) ≡ Some y.row)
      go None found some = absurd (let e = some in cc)
      go (Some z) found some =
          let made : ChangeRecord = change_under n (record y { order = z.row.order }) in
          let same : x ≡ made = (let e = some in cc) in (
            ap (λ (k : ChangeRecord). k.company) same,
            λ own.
                let facts = facts_under y.company y.row.reference z own found in
                ap (λ (k : ChangeRecord). change_row_in c t (change_line_of k)) same
                ∙ ap (option_map (change_row_of (change_line_of made))) facts.1
                ∙ (λ i. Some (record { code = y.row.code; day = y.row.day; index = y.row.index; reference = facts.2 i; text = y.row.text })),
          )

  pub returns_found : map (return_row_in c t) (return_lines_in c t) ≡ map Some ((flat_book r).returns c)
  returns_found =
      map-map (return_row_in c t) return_line_of (filter (λ (x : ReturnRecord). bytes_eq x.company c) t.returns)
      ∙ lines_of_rows (λ (x : ReturnRecord). x.company) (λ (y : ReturnedRow). y.company) (return_record r.submissions) c (λ x. return_row_in c t (return_line_of x)) (λ (y : ReturnedRow). y.row) one_return 1 r.returned t.returns e.returns
      ∙ sym (map-map Some (λ (y : ReturnedRow). y.row) (filter (λ (y : ReturnedRow). bytes_eq y.company c) r.returned))

  pub changes_found : map (change_row_in c t) (change_lines_in c t) ≡ map Some ((flat_book r).changes c)
  changes_found =
      map-map (change_row_in c t) change_line_of (filter (λ (x : ChangeRecord). bytes_eq x.company c) t.changes)
      ∙ lines_of_rows (λ (x : ChangeRecord). x.company) (λ (y : ChangedRow). y.company) (change_record r.submissions) c (λ x. change_row_in c t (change_line_of x)) (λ (y : ChangedRow). y.row) one_change 1 r.changed t.changes e.changes
      ∙ sym (map-map Some (λ (y : ChangedRow). y.row) (filter (λ (y : ChangedRow). bytes_eq y.company c) r.changed))

-- lists that are alike once each is there are alike
pub all_there : {X : Type 0} (xs ys : List X) → map Some xs ≡ map Some ys → xs ≡ ys
all_there [] [] is = refl
all_there [] (y ∷ ys) is = absurd (let e = is in cc)
all_there (x ∷ xs) [] is = absurd (let e = is in cc)
all_there (x ∷ xs) (y ∷ ys) is =
    let head : x ≡ y = (let e = is in cc) in
    let tail : map Some xs ≡ map Some ys = (let e = is in cc) in
    λ i. head i ∷ all_there xs ys tail i
