-- What queries find of a company's rows.
use Rattle.std.proofs.Common.{◌≡◌, ℕ, Bool, true, false, ◌&&◌, ◌||◌, not, List, [], ◌∷◌, map, filter, find, length, Option, Some, None, option_map, refl, sym, subst, ap, ◌∙◌, inl, inr}
use Rattle.std.specs.Prelude.{is_none, bytes_eq}
use Rattle.std.specs.List.{range_with_len, list_any, enumerate_from}
use Rattle.std.proofs.lemmas.Bool.{cases_Bool}
use Rattle.std.proofs.lemmas.List.{length-map}
use Rattle.std.proofs.lemmas.List.Elements.{recursion_from_All}
use Rattle.sqlite_keyed.proofs.ListLemmas.{map-map, filter-map, filter_same, all_weaker}
use Rattle.desk_rules.specs.declared.bodies.submission.Entry.{Entry}
use Rattle.desk_rules.specs.declared.bodies.submission.Retry.{Retry}
use Rattle.desk_rules.specs.declared.rules.entry_fact.EntryState.{EntryState}
use Rattle.desk_rules.specs.Exposure.{is_open_credit}
use Rattle.desk_history.specs.Retries.{is_same_entry}
use Rattle.desk_book.specs.declared.row.Row.{Row}
use Rattle.desk_book.specs.OpenRows.{is_open_row}
use Rattle.desk_book.specs.Reads.{submission, submission_count, open_rows_of, retries_of}
use Rattle.desk_book.specs.Standing.{is_row_under, row_under}
use Rattle.desk_store.specs.Rows.{CompanyRow, Rows, flat_book}
use Rattle.sql_tables.specs.Beside.{AreNumbered, orders_of}
use Rattle.sql_tables.specs.Description.{key_cmp}
use Rattle.sql_tables.specs.DeskTables as the
use Rattle.sql_tables.specs.Encodes.{Encodes, HasStates, submission_record, retried_entry, unless_lapsed, settled_state, entry_state, is_return_of, is_submission_under}
use Rattle.sql_tables.specs.KeyOrders.{IsInOrder}
use Rattle.sql_tables.specs.TableReads.{number_of_last, rows_in, row_under_in, is_of, is_under, is_open_of, is_retry_of, is_since, tries, last_order}
use Rattle.sql_tables.specs.Tables.{Tables}
use Rattle.sql_tables.specs.declared.records.ReturnRecord.{ReturnRecord}
use Rattle.sql_tables.specs.declared.records.SubmissionRecord.{SubmissionRecord}
use Rattle.sql_read_laws.proofs.FoundRows.{rows_found, row_found}
use Rattle.sql_tables.proofs.Lists.{filter-both, find-both, filter_agrees, find-map, last_counts}

abbrev pub is_in : List ℕ → CompanyRow → Bool
is_in c x = bytes_eq x.company c

-- a look-up among a company's rows is one among all
pub row_under_of : (rows : List CompanyRow) (c reference : List ℕ) → option_map (λ x. x.row) (find (is_submission_under c reference) rows) ≡ row_under (map (λ x. x.row) (filter (is_in c) rows)) reference
row_under_of rows c reference =
    ap (option_map (λ x. x.row)) (sym (find-both (λ x. is_row_under reference x.row) (is_in c) rows))
    ∙ sym (find-map (is_row_under reference) (λ (x : CompanyRow). x.row) (filter (is_in c) rows))

-- so is a choice among them
pub rows_of : (rows : List CompanyRow) (c : List ℕ) (p : Row → Bool) → map (λ x. x.row) (filter (λ x. is_in c x && p x.row) rows) ≡ filter p (map (λ x. x.row) (filter (is_in c) rows))
rows_of rows c p =
    ap (map (λ x. x.row)) (sym (filter-both (λ x. p x.row) (is_in c) rows))
    ∙ sym (filter-map p (λ (x : CompanyRow). x.row) (filter (is_in c) rows))

-- ---- open rows

module _ (since : ℕ) where
  one_open : (lapsed : Bool) (settled : Option ℕ) (back : Option ReturnRecord) → is_open_credit (unless_lapsed lapsed (settled_state settled back)) since ≡ true → (is_since since settled || (is_none settled && not lapsed)) ≡ true
  one_open true settled back is = absurd (let e = is in cc)
  one_open false None back is = refl
  one_open false (Some on) None is = ap (λ t. t || false) is
  one_open false (Some on) (Some r) is = ap (λ t. t || false) is

  -- a row of which an entry is open is found as one
  any_open : (returns : List ReturnRecord) (x : CompanyRow) (ps : List (ℕ × Entry)) → list_any (λ state. is_open_credit state since) (map (λ p. entry_state returns x p.0) ps) ≡ true → (is_since since x.row.settled || (is_none x.row.settled && not x.row.lapsed)) ≡ true
  any_open returns x [] is = absurd (let e = is in cc)
  any_open returns x (p ∷ ps) is = elim (cases_Bool (is_open_credit (entry_state returns x p.0) since)) [
    | inl here ↦ one_open x.row.lapsed x.row.settled (find (is_return_of x.company x.row.order p.0) returns) here
    | inr away ↦ any_open returns x ps (sym (ap (λ t. t || list_any (λ state. is_open_credit state since) (map (λ p. entry_state returns x p.0) ps)) away) ∙ is)
  ]

  narrower : (q w o : Bool) → (o ≡ true → w ≡ true) → ((q && w) && o) ≡ (q && o)
  narrower false w o h = refl
  narrower true w true h = ap (λ t. t && true) (h refl)
  narrower true true false h = refl
  narrower true false false h = refl

  pub open_agree : (c : List ℕ) (returns : List ReturnRecord) (x : CompanyRow) → HasStates returns x
      → (is_in c x && (is_since since x.row.settled || (is_none x.row.settled && not x.row.lapsed)) && is_open_row since x.row) ≡ (is_in c x && is_open_row since x.row)
  open_agree c returns x states =
      narrower (is_in c x) _ (is_open_row since x.row) (λ is. any_open returns x (enumerate_from 1 x.row.content.entries) (subst (λ (s : List EntryState). list_any (λ state. is_open_credit state since) s ≡ true) states is))

-- ---- all reads

same_tries : (of : List ℕ) (index : ℕ) (retry : Option Retry) → tries of index (option_map retried_entry retry) ≡ is_same_entry of index retry
same_tries of index None = refl
same_tries of index (Some r) = refl

module _ (t : Tables) (r : Rows) (e : Encodes t r) (rise : IsInOrder (key_cmp the.submissions) t.submissions) (c : List ℕ) where
  pub entries_found : rows_in (is_of c) t ≡ (flat_book r).rows c
  entries_found = rows_found t r e rise (is_of c)

  pub submission_found : (reference : List ℕ) → row_under_in c reference t ≡ submission c reference (flat_book r)
  submission_found reference = row_found t r e rise (is_under c reference) ∙ row_under_of r.submissions c reference

  pub retries_found : (of : List ℕ) (index : ℕ) → rows_in (is_retry_of c of index) t ≡ retries_of c of index (flat_book r)
  retries_found of index =
      rows_found t r e rise (is_retry_of c of index)
      ∙ ap (map (λ (x : CompanyRow). x.row)) (filter_same (λ x. is_in c x && tries of index (option_map retried_entry x.row.retry)) (λ x. is_in c x && is_same_entry of index x.row.retry) (λ x. ap (λ t. is_in c x && t) (same_tries of index x.row.retry)) r.submissions)
      ∙ rows_of r.submissions c (λ row. is_same_entry of index row.retry)

  pub open_found : (since : ℕ) → filter (is_open_row since) (rows_in (is_open_of c since) t) ≡ open_rows_of c since (flat_book r)
  open_found since =
      let wide : CompanyRow → Bool = λ x. is_in c x && (is_since since x.row.settled || (is_none x.row.settled && not x.row.lapsed)) in
      ap (filter (is_open_row since)) (rows_found t r e rise (is_open_of c since))
      ∙ filter-map (is_open_row since) (λ (x : CompanyRow). x.row) (filter wide r.submissions)
      ∙ ap (map (λ (x : CompanyRow). x.row)) (filter-both (λ x. is_open_row since x.row) wide r.submissions
      ∙ filter_agrees (λ x. wide x && is_open_row since x.row) (λ x. is_in c x && is_open_row since x.row) r.submissions
      (all_weaker (HasStates t.returns) _ (λ x states. open_agree since c t.returns x states) r.submissions (recursion_from_All (HasStates t.returns) r.submissions e.states)))
      ∙ rows_of r.submissions c (is_open_row since)

  pub count_found : AreNumbered r.submissions → last_order c t ≡ submission_count c (flat_book r)
  count_found numbered =
      let own : List CompanyRow = filter (is_in c) r.submissions in
      let number : SubmissionRecord → ℕ = λ s. s.head.order in
      let count : length (orders_of r.submissions c) ≡ length own = length-map own (λ x. x.row.order) in
      ap (λ l. number_of_last number (filter (is_of c) l)) e.submissions
      ∙ ap (number_of_last number) (filter-map (is_of c) (submission_record r.printed) r.submissions)
      ∙ last_counts number (map (submission_record r.printed) own) (length own)
      (map-map number (submission_record r.printed) own ∙ numbered c ∙ ap (range_with_len 1) count)
      ∙ sym (length-map own (λ x. x.row))
