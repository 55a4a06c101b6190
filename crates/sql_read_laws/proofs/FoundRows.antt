-- The rows that queries of submissions find are those of the flat rows that pass.
use Rattle.std.proofs.Common.{◌≡◌, Bool, List, map, filter, find, option_map, ap, ◌∙◌}
use Rattle.sqlite_keyed.proofs.ListLemmas.{map-map, filter-map, all-filter}
use Rattle.desk_store.specs.Rows.{CompanyRow, Rows}
use Rattle.sql_tables.specs.Description.{key_cmp}
use Rattle.sql_tables.specs.DeskTables as the
use Rattle.sql_tables.specs.Encodes.{Encodes, submission_record}
use Rattle.sql_tables.specs.KeyOrders.{IsInOrder}
use Rattle.sql_tables.specs.Selected.{head_of}
use Rattle.sql_tables.specs.TableReads.{whole_row, rows_in}
use Rattle.sql_tables.specs.Tables.{Tables}
use Rattle.sql_tables.specs.declared.records.SubmissionRecord.{SubmissionRecord}
use Rattle.sql_tables.proofs.Lists.{map_agrees, found_agrees, find-map, option_map-map}
use Rattle.sql_read_laws.proofs.WholeRows.{rows_whole}

module _ (t : Tables) (r : Rows) (e : Encodes t r) where
  abbrev stored : CompanyRow → SubmissionRecord
  stored = submission_record r.printed

  -- what a query finds of a submission
  pub record_found : {X : Type 0} (of : SubmissionRecord → X) (test : SubmissionRecord → Bool) → option_map of (find test t.submissions) ≡ option_map (λ x. of (stored x)) (find (λ x. test (stored x)) r.submissions)
  record_found of test =
      ap (λ l. option_map of (find test l)) e.submissions
      ∙ ap (option_map of) (find-map test stored r.submissions)
      ∙ option_map-map of stored (find (λ x. test (stored x)) r.submissions)

  module _ (rise : IsInOrder (key_cmp the.submissions) t.submissions) (test : SubmissionRecord → Bool) where
    pub rows_found : rows_in test t ≡ map (λ x. x.row) (filter (λ x. test (stored x)) r.submissions)
    rows_found =
        let passing : List CompanyRow = filter (λ x. test (stored x)) r.submissions in
        ap (λ l. map (whole_row t) (map head_of (filter test l))) e.submissions
        ∙ ap (λ l. map (whole_row t) (map head_of l)) (filter-map test stored r.submissions)
        ∙ ap (map (whole_row t)) (map-map head_of stored passing)
        ∙ map-map (whole_row t) (λ x. head_of (stored x)) passing
        ∙ map_agrees (λ x. whole_row t (head_of (stored x))) (λ x. x.row) passing (all-filter _ (λ x. test (stored x)) r.submissions (rows_whole t r e rise))

    pub row_found : option_map (whole_row t) (option_map head_of (find test t.submissions)) ≡ option_map (λ x. x.row) (find (λ x. test (stored x)) r.submissions)
    row_found =
        ap (option_map (whole_row t)) (record_found head_of test)
        ∙ option_map-map (whole_row t) (λ x. head_of (stored x)) (find (λ x. test (stored x)) r.submissions)
        ∙ found_agrees (λ x. whole_row t (head_of (stored x))) (λ x. x.row) (λ x. test (stored x)) r.submissions (rows_whole t r e rise)
