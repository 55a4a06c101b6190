-- The statements of a cut that write submissions, against their records.
use Rattle.std.proofs.Common.{◌≡◌, ◌≤◌, ◌+◌, ◌-◌, ◌-ℤ◌, ◌^◌, ℕ, ℤ, pos, Bool, true, false, not, is_none, ◌&&◌, ◌==◌, cond, List, [], ◌∷◌, find, length, slice_get, Some, None, Ok, bytes_eq, refl, sym, ap, ◌∙◌, subst, arith, is_ge, is_le, int_cmp}
use Rattle.std.proofs.lemmas.Bool.{and_parts}
use Rattle.std.specs.List.{enumerate_from, list_all}
use Rattle.std.specs.Ordering.{nat_cmp, ordering_then}
use Rattle.sqlite_tied.specs.Compute.{everything}
use Rattle.sqlite.specs.Listing.{understood}
use Rattle.sqlite.specs.State.{State, Executes}
use Rattle.sqlite_keyed.specs.Lists.{update_where}
use Rattle.sqlite_sql.specs.Term.{col, holds, eval_all}
use Rattle.sqlite_value.specs.Order.{Row}
use Rattle.sqlite_value.specs.declared.value.Value.{Value}
use Rattle.sqlite_value.specs.declared.value.Value.TheVariants.{Int, Text}
use Rattle.sql_statements.specs.Edits.{Edit, each_edit_from}
use Rattle.sql_statements.specs.Layouts.{Holds}
use Rattle.sql_statements.specs.StoredRows.{row_of, Stores}
use Rattle.sql_statements.proofs.Conditions.{text_is, int_least, int_most, and_true}
use Rattle.sql_statements.proofs.KeyOrder.{rises_updated}
use Rattle.sql_statements.proofs.OneRow.{one_of, one_found, updates_agree}
use Rattle.sql_tables.specs.ByName as named
use Rattle.sql_tables.specs.Description.{form, key_cmp}
use Rattle.sql_tables.specs.DeskTables as the
use Rattle.desk_book.specs.declared.flat_rows.LapsedRow.{LapsedRow}
use Rattle.desk_book.specs.declared.flat_rows.SentRow.{SentRow}
use Rattle.desk_history.specs.declared.sent_entry.FilePlace.{FilePlace}
use Rattle.sql_tables.specs.Columns.{number, letter}
use Rattle.sql_tables.specs.CutTables.{is_row, mark_sent, mark_lapsed}
use Rattle.sql_tables.specs.KeyOrders.{text_cmp}
use Rattle.sql_tables.specs.Layout.{desk_layout}
use Rattle.sql_tables.specs.TableEdits.{Waits, send_edit}
use Rattle.sql_tables.specs.TableReads.{is_waiting}
use Rattle.sql_tables.specs.Tables.{Tables}
use Rattle.sql_tables.specs.declared.records.SubmissionRecord.{SubmissionRecord}
use Rattle.sql_writes.proofs.Conditions as conditions
use Rattle.sql_writes.proofs.KeyTests.{and_joined, none_is, not_is, one_row}
use Rattle.sql_writes.proofs.Puts.{holds_with, IsUpdateOf, rows_updated}
use Rattle.sql_writes.proofs.RunUpdates.{inside}
use Rattle.sql_writes.proofs.RunsMade.{after_run, tells_run, run_named, run_updated}
use Rattle.sql_writes.proofs.Sums.{sum_is, least, most}
use Rattle.sql_writes.specs.CutTexts.{update_sent, update_lapsed}
use Rattle.sql_writes.specs.Runs.{is_run}
use Rattle.sql_writes.specs.SentRuns.{is_printed, batch_follows}

update_sent_is : IsUpdateOf named.submissions update_sent
unfolding understood everything
update_sent_is = record { is = record { updates = refl; body = refl; alone = refl; plain = (refl, refl) } }

update_lapsed_is : IsUpdateOf named.submissions update_lapsed
unfolding understood everything
update_lapsed_is = record { is = record { updates = refl; body = refl; alone = refl; plain = (refl, refl) } }

waiting_parts : (r : SubmissionRecord) → is_waiting r ≡ true → (r.head.settled ≡ None) × (r.head.lapsed ≡ false)
waiting_parts r h = let parts = and_parts (is_none r.head.settled) (not r.head.lapsed) h in (none_is r.head.settled parts.0, not_is r.head.lapsed parts.1)

-- a row that keeps its key keeps the order
module _ (p : SubmissionRecord → Bool) (set : SubmissionRecord → SubmissionRecord)
    (same_company : (r : SubmissionRecord) → (set r).head.company ≡ r.head.company) (same_order : (r : SubmissionRecord) → (set r).head.order ≡ r.head.order) where
  keeps_order : (a b : SubmissionRecord) → key_cmp the.submissions (cond (p a) (set a) a) (cond (p b) (set b) b) ≡ key_cmp the.submissions a b
  keeps_order a b = λ i. ordering_then (text_cmp (company a i) (company b i)) (nat_cmp (order a i) (order b i))
    where
      company : (d : SubmissionRecord) → (cond (p d) (set d) d).head.company ≡ d.head.company
      company d = elim (p d) as (λ q. (cond q (set d) d).head.company ≡ d.head.company) [ true ↦ same_company d | false ↦ refl ]

      order : (d : SubmissionRecord) → (cond (p d) (set d) d).head.order ≡ d.head.order
      order d = elim (p d) as (λ q. (cond q (set d) d).head.order ≡ d.head.order) [ true ↦ same_order d | false ↦ refl ]

abbrev submissions_in : Tables → List SubmissionRecord
submissions_in t = t.submissions

abbrev send_of : ℕ → SentRow → Edit Tables
send_of _ s = send_edit s

abbrev with_submissions : List SubmissionRecord → Tables → Tables
with_submissions xs t = record t { submissions = xs }

-- ---- the submissions of a run are sent

-- the first of a run, and the order of the last
module _ (first : SentRow) (last : ℕ) where
  abbrev of_company : SubmissionRecord → Bool
  of_company r = bytes_eq r.head.company first.company

  abbrev order_of : SubmissionRecord → ℕ
  order_of r = r.head.order

  abbrev printed_at : (batch : ℕ) → FilePlace
  printed_at batch = record first.printed { batch = batch }

  abbrev sent_at : (order : ℕ) → SubmissionRecord → SubmissionRecord
  sent_at i r = record { head = record r.head { settled = Some first.settled }; printed = Some (printed_at (first.printed.batch + (i - first.order))) }

  abbrev pub sent_params : Row
  sent_params = Text first.company ∷ number first.order ∷ number last ∷ number first.settled ∷ number first.printed.day ∷ letter first.printed.modifier ∷ Int (pos first.printed.batch -ℤ pos first.order) ∷ []

  -- WHERE company = ? AND ord BETWEEN ? AND ? AND settled IS NULL AND lapsed = 0
  abbrev in_run_waiting : SubmissionRecord → Bool
  in_run_waiting r = of_company r && (is_ge (int_cmp (pos r.head.order) (pos first.order)) && (is_le (int_cmp (pos r.head.order) (pos last)) && is_waiting r))

  run_tested : (i : ℤ) (r : SubmissionRecord) → list_all (holds (sent_params ∷ row_of (form the.submissions) (i, r) ∷ [])) update_sent.tests ≡ in_run_waiting r
  run_tested i r =
      let a = text_is r.head.company first.company in
      let b = int_least (pos r.head.order) (pos first.order) in
      let d = int_most (pos r.head.order) (pos last) in
      let e = conditions.unset_is r.head.settled in
      let f = and_true _ ∙ conditions.unflagged_is r.head.lapsed in
      λ j. a j && (b j && (d j && (e j && f j)))

  run_parts : (r : SubmissionRecord) → in_run_waiting r ≡ true → (of_company r ≡ true) × (first.order ≤ r.head.order) × (r.head.order ≤ last) × (is_waiting r ≡ true)
  run_parts r h =
      let a = and_parts (of_company r) _ h in
      let b = and_parts (is_ge (int_cmp (pos r.head.order) (pos first.order))) _ a.1 in
      let d = and_parts (is_le (int_cmp (pos r.head.order) (pos last))) (is_waiting r) b.1 in
      (a.0, least r.head.order first.order b.0, most r.head.order last d.0, d.1)

  -- what an UPDATE makes of a row, with this batch
  abbrev put : Value → (i : ℤ) → SubmissionRecord → Row
  put v i r =
      eval_all (col 1 1 ∷ col 1 2 ∷ col 1 3 ∷ col 1 4 ∷ col 1 5 ∷ col 1 6 ∷ col 1 7 ∷ col 1 8 ∷ col 1 9 ∷ col 1 10 ∷ col 0 0 ∷ col 0 1 ∷ col 0 2 ∷ col 0 3 ∷ [])
      ((number first.settled ∷ number first.printed.day ∷ letter first.printed.modifier ∷ v ∷ []) ∷ row_of (form the.submissions) (i, r) ∷ [])

  row_is : (j i : ℕ) (s : SentRow) → i ≡ first.order + j → batch_follows first j s ≡ true → (is_row s.company s.order ≡ (λ r. of_company r && (r.head.order == i))) × (s.settled ≡ first.settled) × (s.printed ≡ printed_at (first.printed.batch + (i - first.order)))
  row_is j i s at_key is =
      let a = and_parts ((((bytes_eq s.company first.company && (s.order == first.order + j)) && (s.settled == first.settled)) && (s.printed.day == first.printed.day)) && (s.printed.modifier == first.printed.modifier)) (s.printed.batch == first.printed.batch + j) is in
      let b = and_parts (((bytes_eq s.company first.company && (s.order == first.order + j)) && (s.settled == first.settled)) && (s.printed.day == first.printed.day)) (s.printed.modifier == first.printed.modifier) a.0 in
      let d = and_parts ((bytes_eq s.company first.company && (s.order == first.order + j)) && (s.settled == first.settled)) (s.printed.day == first.printed.day) b.0 in
      let e = and_parts (bytes_eq s.company first.company && (s.order == first.order + j)) (s.settled == first.settled) d.0 in
      let f = and_parts (bytes_eq s.company first.company) (s.order == first.order + j) e.0 in
      let company = conditions.same_text s.company first.company f.0 in
      let order : s.order ≡ i = conditions.same_number s.order (first.order + j) f.1 ∙ sym at_key in
      let batch : s.printed.batch ≡ first.printed.batch + (i - first.order) = conditions.same_number s.printed.batch (first.printed.batch + j) a.1 ∙ omega (arith, at_key) in
      let day = conditions.same_number s.printed.day first.printed.day d.1 in
      let modifier = conditions.same_number s.printed.modifier first.printed.modifier b.1 in
      ((λ k. is_row (company k) (order k)), conditions.same_number s.settled first.settled e.1, λ k. record { day = day k; modifier = modifier k; batch = batch k })

  sent_is : (j i : ℕ) (s : SentRow) → i ≡ first.order + j → batch_follows first j s ≡ true
      → (xs : List SubmissionRecord) → mark_sent s xs ≡ update_where (λ r. of_company r && (r.head.order == i)) (sent_at i) xs
  sent_is j i s at_key is xs =
      let row = row_is j i s at_key is in
      λ k. update_where (row.0 k) (λ r. record { head = record r.head { settled = Some (row.1 k) }; printed = Some (row.2 k) }) xs

  sent_edit : (n j m i : ℕ) (s : SentRow) → m ≡ n + j → i ≡ first.order + j → batch_follows first j s ≡ true
      → (u : Tables) → (send_of m s).after u ≡ with_submissions (update_where (λ r. of_company r && (r.head.order == i)) (sent_at i) (submissions_in u)) u
  sent_edit n j m i s at_place at_key is u = ap (λ xs. with_submissions xs u) (sent_is j i s at_key is u.submissions)

  -- the statement sends the submissions of a run, if it says that it wrote so many rows
  pub run_sent : (ss : List SentRow) → last + 1 ≡ first.order + length ss → first.printed.batch + length ss ≤ 2 ^ 63 → slice_get ss 0 ≡ Some first → is_run batch_follows ss ≡ true
      → (n : ℕ) (old new : State) → Executes update_sent.text sent_params old new (Ok (length ss)) → (t : Tables) → Holds desk_layout old.now t
      → Holds desk_layout new.now ((each_edit_from (λ _ s. send_edit s) n ss).after t) × (each_edit_from (λ _ s. send_edit s) n ss).Tells t
  run_sent ss ends room head run n old new ran t h =
      let no_order : first.order + 0 ≡ first.order = omega arith in
      let no_batch : first.printed.batch + 0 ≡ first.printed.batch = omega arith in
      let own : is_printed first first.order first.printed.batch first ≡ true = rw (conditions.text_itself first.company, conditions.number_itself first.order, conditions.number_itself first.settled, conditions.number_itself first.printed.day, conditions.number_itself first.printed.modifier, conditions.number_itself first.printed.batch) refl in
      let itself : batch_follows first 0 first ≡ true = (λ k. is_printed first (no_order k) (no_batch k) first) ∙ own in
      let names : list_all (λ p. batch_follows first p.0 p.1) (enumerate_from 0 ss) ≡ true = run_named batch_follows first ss itself head run in
      let within = λ (r : SubmissionRecord) (it : in_run_waiting r ≡ true). (let parts = run_parts r it in inside of_company order_of sent_at (λ i r. refl) (λ i r. refl) (length ss) first.order r parts.0 parts.1 (omega (arith, parts.2, ends))) in
      let made = λ (i : ℤ) (r : SubmissionRecord) (it : in_run_waiting r ≡ true). (let parts = run_parts r it in ap (λ v. put v i r) (sum_is first.printed.batch first.order r.head.order parts.1 (omega (arith, parts.1, parts.2, ends, room)))) in
      let done = run_updated named.submissions of_company order_of sent_at (λ i r. refl) (λ i r. refl) (one_row first.company) update_sent update_sent_is refl sent_params in_run_waiting run_tested made
      (keeps_order in_run_waiting (λ r. sent_at r.head.order r) (λ r. refl) (λ r. refl)) first.order (length ss) within old new ran t h in
      let after = after_run of_company order_of sent_at (λ i r. refl) (λ i r. refl) submissions_in with_submissions (λ xs u. refl) (λ xs ys u. refl) (λ u. refl) send_of (batch_follows first) n first.order (sent_edit n) ss 0 n first.order (omega arith) (omega arith) names t in (
        subst (λ (u : Tables). Holds desk_layout new.now u) (sym after) (holds_with named.submissions _ h done.has (record { stored = done.has.stored; rise = done.rise })),
        tells_run of_company order_of sent_at (λ i r. refl) (λ i r. refl) submissions_in with_submissions (λ xs u. refl) (λ xs ys u. refl) (λ u. refl) send_of (batch_follows first) n first.order in_run_waiting (sent_edit n)
            (λ j m i s at_key is u r found passes. (let waits = waiting_parts r (run_parts r passes).3 in record { submission = r; found = ap (λ p. find p u.submissions) (row_is j i s at_key is).0 ∙ found; unsettled = waits.0; lasts = waits.1 })) ss 0 n first.order (omega arith) (omega arith) names t done.there,
      )

-- ---- a retry lapses

module _ (l : LapsedRow) where
  -- WHERE company = ? AND ord = ? AND settled IS NULL AND lapsed = 0
  abbrev waits_at : SubmissionRecord → Bool
  waits_at r = is_row l.company l.order r && is_waiting r

  abbrev lapsed : SubmissionRecord → SubmissionRecord
  lapsed r = record r { head = record r.head { lapsed = true } }

  abbrev lapsed_params : Row
  lapsed_params = Text l.company ∷ number l.order ∷ []

  tested : (i : ℤ) (r : SubmissionRecord) → list_all (holds (lapsed_params ∷ row_of (form the.submissions) (i, r) ∷ [])) update_lapsed.tests ≡ waits_at r
  tested i r =
      let a = text_is r.head.company l.company in
      let b = conditions.number_is r.head.order l.order in
      let d = conditions.unset_is r.head.settled in
      let e = and_true _ ∙ conditions.unflagged_is r.head.lapsed in
      (λ j. a j && (b j && (d j && e j))) ∙ and_joined (bytes_eq r.head.company l.company) (r.head.order == l.order) (is_waiting r)

  pub submission_lapsed : (old new : State) → Executes update_lapsed.text lapsed_params old new (Ok 1)
      → (t : Tables) → Holds desk_layout old.now t → Holds desk_layout new.now (record t { submissions = mark_lapsed l t.submissions }) × Waits l.company l.order t
  submission_lapsed old new ran t h =
      let here = is_row l.company l.order in
      let made = rows_updated named.submissions update_lapsed lapsed_params waits_at tested old new 1 ran t h update_lapsed_is refl lapsed (λ i r _. refl) in
      let it = one_found waits_at here (λ r passes. (and_parts (here r) (is_waiting r) passes).0) t.submissions (one_of _ here (one_row l.company l.order) t.submissions (h.1.stands named.submissions).rise) (sym made.1) in
      let waits = waiting_parts it.row (and_parts (here it.row) (is_waiting it.row) it.passes).1 in (
        holds_with named.submissions _ h made.0 (record {
          stored = subst (Stores (form the.submissions) (new.now.trees 6)) (updates_agree waits_at here lapsed t.submissions it.same) made.0.stored;
          rise = rises_updated (key_cmp the.submissions) here lapsed (keeps_order here lapsed (λ r. refl) (λ r. refl)) t.submissions (h.1.stands named.submissions).rise;
        }),
        record { submission = it.row; found = it.found; unsettled = waits.0; lasts = waits.1 },
      )
