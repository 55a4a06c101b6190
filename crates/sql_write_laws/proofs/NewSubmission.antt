-- After a new submission the tables are those of the book after it.
use Rattle.std.proofs.Common.{◌≡◌, ℕ, zero, suc, ◌+◌, ◌<◌, ◌≤◌, ◌&&◌, Bool, true, false, cond, List, [], ◌∷◌, ◌++◌, map, filter, find, length, replicate, slice_get, IsSome, Option, Some, None, option_map, refl, sym, subst, ap, ◌∙◌, is_gt, arith, inl, inr, true≢false, append-nil, append_assoc}
use Rattle.std.specs.Prelude.{bytes_eq, filter_map, flat_map, option_and_then}
use Rattle.std.specs.Cmp.{IsTotalOrder, nat_cmp_is, tied_then}
use Rattle.std.specs.Cmp.Lexicographic.{on_texts}
use Rattle.std.specs.List.{AllByRecursion, cons_option, enumerate_from, range_with_len}
use Rattle.std.specs.Ordering.{nat_cmp, is_eq, ordering_then}
use Rattle.std.specs.declared.cmp.Ordering.TheVariants.{Less, Equal, Greater}
use Rattle.std.proofs.lemmas.Bool.{cases_order, and_parts, false_from_ne_true}
use Rattle.std.proofs.lemmas.Cmp.{then_total, on_total, nat_cmp_total}
use Rattle.std.proofs.lemmas.Grind.{flat_map-append}
use Rattle.std.proofs.lemmas.List.{length-map, map-append}
use Rattle.std.proofs.lemmas.List.Elements.{All-from_recursion, recursion_from_All, All-weaker, All-contains, filter-append, filter_map-append}
use Rattle.std.proofs.lemmas.List.FromFn.{length-range_with_len}
use Rattle.std.proofs.lemmas.Map.Text.{is_eq-slice_cmp}
use Rattle.std.proofs.lemmas.Slice.Eq.{bytes_eq-Decides}
use Rattle.sqlite_trees.specs.Tree.{IsAscending}
use Rattle.sqlite_keyed.specs.Lists.{insert_sorted}
use Rattle.sqlite_keyed.proofs.ListLemmas.{all_both, all_kept, all_map, all_weaker, ascending_from_map, filter_none, map_same, slice_get-filter}
use Rattle.desk_history.specs.declared.sent_entry.SentEntry.{SentEntry}
use Rattle.desk_rules.specs.declared.bodies.submission.Entry.{Entry}
use Rattle.desk_rules.specs.declared.bodies.submission.Retry.{Retry}
use Rattle.desk_rules.specs.declared.bodies.submission.Submission.{Submission}
use Rattle.desk_rules.specs.declared.rules.entry_fact.EntryState.{EntryState}
use Rattle.desk_rules.specs.declared.rules.entry_fact.EntryState.TheVariants.{Held}
use Rattle.desk_book.specs.Book.{Book}
use Rattle.desk_book.specs.declared.flat_rows.ChangedRow.{ChangedRow}
use Rattle.desk_book.specs.declared.flat_rows.ReturnedRow.{ReturnedRow}
use Rattle.desk_book.specs.declared.flat_rows.SentRow.{SentRow}
use Rattle.desk_book.specs.Steps.{add_submission}
use Rattle.desk_store.specs.Held.{held_row}
use Rattle.desk_store.specs.Rows.{CompanyRow, Rows, flat_book, is_printed_of}
use Rattle.desk_store.proofs.Added.{flat-add}
use Rattle.sql_tables.specs.ByName as named
use Rattle.sql_tables.specs.Beside.{AreNumbered, IsSentFrom, LapsesUnsettled, ReturnsSettled, is_of_company, is_submission, orders_of}
use Rattle.sql_tables.specs.CutTables.{is_row}
use Rattle.sql_tables.specs.Description.{key_cmp}
use Rattle.sql_tables.specs.DeskTables as the
use Rattle.sql_tables.specs.Encodes.{AsksAs, HasStates, RetryFits, authorization_record, entry_record, entry_records, is_entry, is_submission_under, order_under, place_of_entry, submission_record, return_under, change_under}
use Rattle.sql_tables.specs.KeyOrders.{text_cmp}
use Rattle.sql_tables.specs.TableEdits.{add_submission_edit, new_submission_record, put_authorization_edit}
use Rattle.sql_tables.specs.TableReads.{is_under}
use Rattle.sql_tables.specs.Tables.{Tables}
use Rattle.sql_tables.specs.declared.records.SubmissionRecord.{SubmissionRecord}
use Rattle.sql_tables.proofs.CutRecords.{pair_same, pair_from}
use Rattle.sql_write_laws.specs.Making.{Makes}
use Rattle.sql_write_laws.proofs.Between.{Split, split, parts, insert_between, all_middle, contains_middle, find_middle, filter_middle, filter_last, length_middle, filter_map_middle}
use Rattle.sql_write_laws.proofs.Each.{AreOf, in_book}
use Rattle.sql_write_laws.proofs.EntryPlaces.{unplaced}
use Rattle.sql_write_laws.proofs.Found.{find-map, nothing_mapped, none_passes, none_found}
use Rattle.sql_write_laws.proofs.NewEntries.{row_cmp, text_ties, new_entry, entries_put, entries_above, entries_below, authorization_put}
use Rattle.sql_write_laws.proofs.Numbered.{range_more}

-- ---- numbers

less_than : (m n : ℕ) → nat_cmp m n ≡ Less → m < n
less_than m n less = elim (cases_order m n) [
  | inl same ↦ absurd (let e : Less ≡ Equal = sym less ∙ sym (nat_cmp_is m n Equal same) in cc)
  | inr apart ↦ elim apart [ inl lower ↦ lower | inr higher ↦ absurd (let e : Less ≡ Greater = sym less ∙ sym (nat_cmp_is m n Greater higher) in cc) ]
]

equal_to : (m n : ℕ) → is_eq (nat_cmp m n) ≡ true → m ≡ n
equal_to m n is = elim (cases_order m n) [
  | inl same ↦ same
  | inr apart ↦ elim apart [
    | inl lower ↦ absurd (true≢false (sym is ∙ ap is_eq (sym (nat_cmp_is m n Less lower))))
    | inr higher ↦ absurd (true≢false (sym is ∙ ap is_eq (sym (nat_cmp_is m n Greater higher))))
  ]
]

-- numbers from a first one on are below the one after the last
below_next : {X : Type 0} (number : X → ℕ) (a m : ℕ) (xs : List X) → map number xs ≡ range_with_len a m → AllByRecursion (λ x. number x < a + m) xs
below_next number a m [] is = tt
below_next number a zero (x ∷ xs) is = cc
below_next number a (suc m) (x ∷ xs) is =
    let first : number x ≡ a = cc in
    let rest : map number xs ≡ range_with_len (a + 1) m = cc in
    (omega (arith, first), all_weaker (λ y. number y < a + 1 + m) (λ y. number y < a + suc m) (λ y low. omega (arith, low)) xs (below_next number (a + 1) m xs rest))

none_back : {X Y : Type 0} (f : X → Y) (o : Option X) → option_map f o ≡ None → o ≡ None
none_back f None h = refl
none_back f (Some x) h = cc

-- ---- records of what names a submission that was there before

module _ {X Y : Type 0} (build : ℕ × X → ℕ → Y) (old new : X → Option ℕ) (stays : (x : X) (o : ℕ) → old x ≡ Some o → new x ≡ Some o) where
  one_stays : (p : ℕ × X) (y : Y) (o : Option ℕ) → old p.1 ≡ o → option_map (build p) o ≡ Some y → option_map (build p) (new p.1) ≡ Some y
  one_stays p y None is made = cc
  one_stays p y (Some o) is made = ap (option_map (build p)) (stays p.1 o is) ∙ made

  records_stay : (n : ℕ) (xs : List X) (ys : List Y) → map Some ys ≡ map (λ p. option_map (build p) (old p.1)) (enumerate_from n xs) → map Some ys ≡ map (λ p. option_map (build p) (new p.1)) (enumerate_from n xs)
  records_stay n [] ys is = is
  records_stay n (x ∷ xs) [] is = cc
  records_stay n (x ∷ xs) (y ∷ ys) is =
      let first : option_map (build (n, x)) (old x) ≡ Some y = cc in
      let rest : map Some ys ≡ map (λ p. option_map (build p) (old p.1)) (enumerate_from (n + 1) xs) = cc in
      λ i. sym (one_stays (n, x) y (old x) refl first) i ∷ records_stay (n + 1) xs ys rest i

held_states : (n : ℕ) (xs : List Entry) → replicate (length xs) Held ≡ map (λ (p : ℕ × Entry). Held) (enumerate_from n xs)
held_states n [] = refl
held_states n (x ∷ xs) = ap (λ (l : List EntryState). Held ∷ l) (held_states (n + 1) xs)

-- ---- the submission between those below its key and those above

module _ (c : List ℕ) (order : ℕ) (s : Submission) (retry : Option Retry) (t : Tables) (r : Rows) (before after : List CompanyRow) where
  abbrev it : CompanyRow
  it = held_row c order s retry

  abbrev rows : List CompanyRow
  rows = before ++ after

  abbrev with_it : List CompanyRow
  with_it = before ++ it ∷ after

  module _ (are : AreOf t (record r { submissions = rows })) (above : AllByRecursion (λ y. row_cmp it y ≡ Greater) before) (below : AllByRecursion (λ y. row_cmp it y ≡ Less) after)
      (unnumbered : find (is_submission c order) rows ≡ None) (unnamed : find (is_submission_under c s.reference) rows ≡ None) (asks : AsksAs s.reference s.day retry) (next : order ≡ length (filter (is_of_company c) rows) + 1) where
    -- ---- numbers of its company

    abbrev count : ℕ
    count = length (orders_of rows c)

    counted : order ≡ count + 1
    counted = next ∙ ap (λ n. n + 1) (sym (length-map (filter (is_of_company c) rows) (λ (x : CompanyRow). x.row.order)))

    orders_below : AllByRecursion (λ x. is_of_company c x ≡ true → x.row.order < order) rows
    orders_below =
        all_kept (λ x. x.row.order < order) (is_of_company c) rows
        (all_weaker (λ (x : CompanyRow). x.row.order < 1 + count) (λ x. x.row.order < order) (λ x low. omega (arith, low, counted)) (filter (is_of_company c) rows)
        (below_next (λ (x : CompanyRow). x.row.order) 1 count (filter (is_of_company c) rows) (are.1.orders c)))

    none_after : filter (is_of_company c) after ≡ []
    none_after =
        filter_none (is_of_company c) after
        (all_both (λ y. row_cmp it y ≡ Less) (λ x. is_of_company c x ≡ true → x.row.order < order) (λ x. is_of_company c x ≡ false)
        (λ x less low. false_from_ne_true _ (λ is.
        let same : x.company ≡ c = (bytes_eq-Decides x.company c).0 is in
        let up : order < x.row.order = less_than order x.row.order ((λ i. ordering_then (sym (text_ties c) i) (nat_cmp order x.row.order)) ∙ (λ i. ordering_then (text_cmp c (sym same i)) (nat_cmp order x.row.order)) ∙ less) in
        let down = low is in
        omega (arith, up, down)))
        after below (parts (λ x. is_of_company c x ≡ true → x.row.order < order) before after orders_below).1)

    -- a company's rows are those with it at the end
    own_rows : (d : List ℕ) → filter (is_of_company d) with_it ≡ filter (is_of_company d) (rows ++ it ∷ [])
    own_rows d =
        go (bytes_eq c d) refl ∙ sym (filter-append (is_of_company d) rows (it ∷ []))
      where
        go : (b : Bool) → bytes_eq c d ≡ b → filter (is_of_company d) with_it ≡ filter (is_of_company d) rows ++ cond (bytes_eq c d) (it ∷ []) []
        go true is = filter_last it before after (is_of_company d) (subst (λ e. filter (is_of_company e) after ≡ []) ((bytes_eq-Decides c d).0 is) none_after)
        go false out = filter_middle it before after (is_of_company d) out ∙ sym (append-nil (filter (is_of_company d) rows)) ∙ ap (λ b. filter (is_of_company d) rows ++ cond b (it ∷ []) []) (sym out)

    as_counted : (os : List ℕ) (m : ℕ) → os ≡ range_with_len 1 m → os ≡ range_with_len 1 (length os)
    as_counted os m is = is ∙ ap (range_with_len 1) (sym (ap length is ∙ length-range_with_len 1 m))

    numbered : AreNumbered with_it
    numbered d = go (bytes_eq c d) refl
      where
        orders_are : orders_of with_it d ≡ map (λ (x : CompanyRow). x.row.order) (filter (is_of_company d) rows ++ cond (bytes_eq c d) (it ∷ []) [])
        orders_are = ap (map (λ (x : CompanyRow). x.row.order)) (own_rows d ∙ filter-append (is_of_company d) rows (it ∷ []))

        go : (b : Bool) → bytes_eq c d ≡ b → orders_of with_it d ≡ range_with_len 1 (length (orders_of with_it d))
        go true is =
            let same : c ≡ d = (bytes_eq-Decides c d).0 is in
            as_counted (orders_of with_it d) (suc (length (orders_of rows d)))
            (orders_are
            ∙ ap (λ b. map (λ (x : CompanyRow). x.row.order) (filter (is_of_company d) rows ++ cond b (it ∷ []) [])) is
            ∙ map-append (λ (x : CompanyRow). x.row.order) (filter (is_of_company d) rows) (it ∷ [])
            ∙ (λ i. are.1.orders d i ++ (counted ∙ ap (λ e. length (orders_of rows e) + 1) same) i ∷ [])
            ∙ sym (range_more 1 (length (orders_of rows d))))
        go false out =
            as_counted (orders_of with_it d) (length (orders_of rows d))
            (orders_are
            ∙ ap (λ b. map (λ (x : CompanyRow). x.row.order) (filter (is_of_company d) rows ++ cond b (it ∷ []) [])) out
            ∙ ap (map (λ (x : CompanyRow). x.row.order)) (append-nil (filter (is_of_company d) rows))
            ∙ are.1.orders d)

    -- ---- its reference

    still_under : (d reference : List ℕ) (x : CompanyRow) → find (is_submission_under d reference) rows ≡ Some x → find (is_submission_under d reference) with_it ≡ Some x
    still_under d reference x found = go (bytes_eq c d && bytes_eq s.reference reference) refl
      where
        go : (b : Bool) → (bytes_eq c d && bytes_eq s.reference reference) ≡ b → find (is_submission_under d reference) with_it ≡ Some x
        go false out = find_middle it before after (is_submission_under d reference) out ∙ found
        go true is =
            let both = and_parts _ _ is in
            let none : find (is_submission_under d reference) rows ≡ None =
            subst (λ e. find (is_submission_under e reference) rows ≡ None) ((bytes_eq-Decides c d).0 both.0) (subst (λ e. find (is_submission_under c e) rows ≡ None) ((bytes_eq-Decides s.reference reference).0 both.1) unnamed) in
            absurd (let e : None ≡ Some x = sym none ∙ found in cc)

    still_ordered : (d reference : List ℕ) (o : ℕ) → order_under rows d reference ≡ Some o → order_under with_it d reference ≡ Some o
    still_ordered d reference o is = go (find (is_submission_under d reference) rows) refl is
      where
        go : (x : Option CompanyRow) → find (is_submission_under d reference) rows ≡ x → option_map (λ (y : CompanyRow). y.row.order) x ≡ Some o → order_under with_it d reference ≡ Some o
        go None found h = cc
        go (Some x) found h = ap (option_map (λ (y : CompanyRow). y.row.order)) (still_under d reference x found) ∙ h

    still_settled : (x : ReturnedRow) → ReturnsSettled rows x → ReturnsSettled with_it x
    still_settled x h = go (find (is_submission_under x.company x.row.reference) rows) refl h
      where
        go : (o : Option CompanyRow) → find (is_submission_under x.company x.row.reference) rows ≡ o → IsSome (option_and_then (λ (y : CompanyRow). y.row.settled) o) → ReturnsSettled with_it x
        go None found some = cc
        go (Some y) found some = subst (λ o. IsSome (option_and_then (λ (z : CompanyRow). z.row.settled) o)) (sym (still_under x.company x.row.reference y found)) some

    once_under : (d reference : List ℕ) → length (filter (is_submission_under d reference) with_it) ≤ 1
    once_under d reference = go (bytes_eq c d && bytes_eq s.reference reference) refl
      where
        go : (b : Bool) → (bytes_eq c d && bytes_eq s.reference reference) ≡ b → length (filter (is_submission_under d reference) with_it) ≤ 1
        go false out = subst (λ (l : List CompanyRow). length l ≤ 1) (sym (filter_middle it before after (is_submission_under d reference) out)) (are.1.references d reference)
        go true is =
            let both = and_parts _ _ is in
            let none : find (is_submission_under d reference) rows ≡ None =
            subst (λ e. find (is_submission_under e reference) rows ≡ None) ((bytes_eq-Decides c d).0 both.0) (subst (λ e. find (is_submission_under c e) rows ≡ None) ((bytes_eq-Decides s.reference reference).0 both.1) unnamed) in
            let no_one : length (filter (is_submission_under d reference) rows) ≡ 0 = ap length (filter_none (is_submission_under d reference) rows (none_passes (is_submission_under d reference) rows none)) in
            let most = length_middle it before after (is_submission_under d reference) in
            omega (arith, no_one, most)

    -- ---- nothing of it was printed or sent

    not_printed : find (is_printed_of c order) r.printed ≡ None
    not_printed =
        sym (slice_get-filter (is_printed_of c order) r.printed)
        ∙ ap (λ (l : List SentRow). slice_get l 0)
        (nothing_mapped (λ (p : SentRow). p.settled) (filter (is_printed_of c order) r.printed)
        (are.1.printed c order ∙ ap (filter_map (λ (x : CompanyRow). x.row.settled)) (filter_none (is_submission c order) rows (none_passes (is_submission c order) rows unnumbered))))

    not_sent : (i : ℕ) → place_of_entry r.sent c order i ≡ None
    not_sent i =
        unplaced 1 r.sent c order i
        (none_found (is_entry c order i) r.sent (all_weaker (IsSentFrom rows) (λ e. is_entry c order i e ≡ false) away r.sent (recursion_from_All (IsSentFrom rows) r.sent are.1.sent)))
      where
        away : (e : SentEntry) → IsSentFrom rows e → is_entry c order i e ≡ false
        away e from = false_from_ne_true _ (λ is.
            let keys = pair_same e.company c e.order order (and_parts _ _ is).0 in
            let named : is_submission c order from.from ≡ true = pair_from from.from.company c from.from.row.order order (from.company ∙ keys.0) (from.content.0 ∙ keys.1) in
            let other : is_submission c order from.from ≡ false =
            All-contains (λ x. is_submission c order x ≡ false) rows from.from (All-from_recursion (λ x. is_submission c order x ≡ false) rows (none_passes (is_submission c order) rows unnumbered)) from.stands in
            true≢false (sym named ∙ other))

    -- ---- tables

    abbrev authorized : Option ℕ
    authorized = option_and_then (λ (x : Retry). x.authorized) retry

    abbrev new : SubmissionRecord
    new = new_submission_record c order s retry

    abbrev made_tables : Tables
    made_tables = record t {
      submissions = insert_sorted (key_cmp the.submissions) new t.submissions;
      entries = (flat_map (entry_records r.sent) before ++ map (new_entry c order) (enumerate_from 1 s.entries)) ++ flat_map (entry_records r.sent) after;
      authorizations = filter_map authorization_record before ++ cons_option (option_map (λ day. record { company = c; order = order; day = day }) authorized) (filter_map authorization_record after);
    }

    tables_are : (add_submission_edit c order s retry).after t ≡ made_tables
    tables_are =
        let t1 : Tables = record t { submissions = insert_sorted (key_cmp the.submissions) new t.submissions } in
        ap (λ u. (put_authorization_edit c order authorized).after u)
        (entries_put c order (flat_map (entry_records r.sent) before) (flat_map (entry_records r.sent) after) (entries_above it before after above below r.sent) (entries_below it before after above below r.sent) s.entries 1 [] t1 tt
        (are.0.entries ∙ flat_map-append (entry_records r.sent) before after ∙ ap (λ l. l ++ flat_map (entry_records r.sent) after) (sym (append-nil (flat_map (entry_records r.sent) before)))))
        ∙ authorization_put it before after above below authorized (record made_tables { authorizations = t.authorizations }) (are.0.authorizations ∙ filter_map-append authorization_record before after)

    abbrev as_record : CompanyRow → SubmissionRecord
    as_record = submission_record r.printed

    record_is : as_record it ≡ new
    record_is = λ i. record new { printed = option_map (λ (p : SentRow). p.printed) (not_printed i) }

    submissions_are : insert_sorted (key_cmp the.submissions) new t.submissions ≡ map as_record with_it
    submissions_are =
        ap (insert_sorted (key_cmp the.submissions) new) (are.0.submissions ∙ map-append as_record before after)
        ∙ insert_between (key_cmp the.submissions) new (map as_record before) (map as_record after)
        (all_map (λ y. is_gt (key_cmp the.submissions new y) ≡ true) as_record before (all_weaker (λ y. row_cmp it y ≡ Greater) (λ y. is_gt (key_cmp the.submissions new (as_record y)) ≡ true) (λ y up. ap is_gt up) before above))
        (all_map (λ y. is_gt (key_cmp the.submissions new y) ≡ false) as_record after (all_weaker (λ y. row_cmp it y ≡ Less) (λ y. is_gt (key_cmp the.submissions new (as_record y)) ≡ false) (λ y up. ap is_gt up) after below))
        ∙ (λ i. map as_record before ++ sym record_is i ∷ map as_record after)
        ∙ sym (map-append as_record before (it ∷ after))

    own_entries : map (new_entry c order) (enumerate_from 1 s.entries) ≡ entry_records r.sent it
    own_entries = map_same (new_entry c order) (entry_record r.sent c order) (λ p i. record { company = c; order = order; index = p.0; entry = p.1; place = sym (not_sent p.0) i }) (enumerate_from 1 s.entries)

    entries_are : (flat_map (entry_records r.sent) before ++ map (new_entry c order) (enumerate_from 1 s.entries)) ++ flat_map (entry_records r.sent) after ≡ flat_map (entry_records r.sent) with_it
    entries_are =
        append_assoc (flat_map (entry_records r.sent) before) (map (new_entry c order) (enumerate_from 1 s.entries)) (flat_map (entry_records r.sent) after)
        ∙ ap (λ l. flat_map (entry_records r.sent) before ++ (l ++ flat_map (entry_records r.sent) after)) own_entries
        ∙ sym (flat_map-append (entry_records r.sent) before (it ∷ after))

    pub submission_tables : AreOf ((add_submission_edit c order s retry).after t) (record r { submissions = with_it })
    submission_tables = subst (λ u. AreOf u (record r { submissions = with_it })) (sym tables_are) (
      record {
        desk = are.0.desk;
        holidays = are.0.holidays;
        companies = are.0.companies;
        submissions = submissions_are;
        entries = entries_are;
        returns =
            records_stay (λ (p : ℕ × ReturnedRow) (o : ℕ). return_under p.0 (record p.1 { order = o }))
            (λ x. order_under rows x.company x.row.reference) (λ x. order_under with_it x.company x.row.reference) (λ x o is. still_ordered x.company x.row.reference o is) 1 r.returned t.returns are.0.returns;
        changes =
            records_stay (λ (p : ℕ × ChangedRow) (o : ℕ). change_under p.0 (record p.1 { order = o }))
            (λ x. order_under rows x.company x.row.reference) (λ x. order_under with_it x.company x.row.reference) (λ x o is. still_ordered x.company x.row.reference o is) 1 r.changed t.changes are.0.changes;
        postings = are.0.postings;
        suspense = are.0.suspense;
        files = are.0.files;
        taken = are.0.taken;
        numbers = are.0.numbers;
        authorizations = sym (filter_map-append authorization_record before (it ∷ after));
        states = All-from_recursion (HasStates t.returns) with_it (all_middle it before after (HasStates t.returns) (held_states 1 s.entries) (recursion_from_All (HasStates t.returns) rows are.0.states));
        retries = All-from_recursion RetryFits with_it (all_middle it before after RetryFits asks (recursion_from_All RetryFits rows are.0.retries));
      },
      record {
        orders = numbered;
        references = once_under;
        printed = λ d o. are.1.printed d o ∙ sym (filter_map_middle it before after (is_submission d o) (λ (x : CompanyRow). x.row.settled) refl);
        lapsed = All-from_recursion LapsesUnsettled with_it (all_middle it before after LapsesUnsettled (λ lapsed. refl) (recursion_from_All LapsesUnsettled rows are.1.lapsed));
        back = All-weaker (ReturnsSettled rows) (ReturnsSettled with_it) still_settled r.returned are.1.back;
        sent = All-weaker (IsSentFrom rows) (IsSentFrom with_it) (λ e h. record {
          from = h.from;
          stands = contains_middle it before after h.from h.stands;
          company = h.company;
          content = h.content;
          settles = h.settles;
          entry = h.entry;
        }) r.sent are.1.sent;
        apart = are.1.apart;
        sequences = are.1.sequences;
        sums = are.1.sums;
      },
    )

    pub same_book : flat_book (record r { submissions = with_it }) ≡ flat_book (record r { submissions = rows ++ it ∷ [] })
    same_book = λ i. record (flat_book (record r { submissions = rows })) { rows = λ d. map (λ x. x.row) (own_rows d i) }

-- ---- all

cmp_total : IsTotalOrder row_cmp
cmp_total = then_total (on_texts (λ (x : CompanyRow). x.company)) (on_total (λ (x : CompanyRow). x.row.order) nat_cmp_total)

-- none that stands has the key of a new number
key_apart : (c : List ℕ) (order : ℕ) (s : Submission) (retry : Option Retry) (y : CompanyRow) → is_submission c order y ≡ false → row_cmp (held_row c order s retry) y ≡ Equal → ⊥
key_apart c order s retry y out ties =
    let both = and_parts _ _ (tied_then (text_cmp c y.company) (nat_cmp order y.row.order) ∙ ap is_eq ties) in
    let company : c ≡ y.company = (bytes_eq-Decides c y.company).0 (sym (is_eq-slice_cmp c y.company) ∙ both.0) in
    let number : order ≡ y.row.order = equal_to order y.row.order both.1 in
    true≢false (sym (pair_from y.company c y.row.order order (sym company) (sym number)) ∙ out)

pub submission_made : (c : List ℕ) (order : ℕ) (s : Submission) (retry : Option Retry) → Makes (add_submission_edit c order s retry) (add_submission c order s retry)
submission_made c order s retry trees t b stored h admits told =
    let r = h.rows in
    let it = held_row c order s retry in
    let e = h.encodes in
    let unnumbered : find (is_submission c order) r.submissions ≡ None =
    none_back (submission_record r.printed) _ (sym (find-map (is_row c order) (submission_record r.printed) r.submissions) ∙ sym (ap (find (is_row c order)) e.submissions) ∙ told.0.0) in
    let unnamed : find (is_submission_under c s.reference) r.submissions ≡ None =
    none_back (submission_record r.printed) _ (sym (find-map (is_under c s.reference) (submission_record r.printed) r.submissions) ∙ sym (ap (find (is_under c s.reference)) e.submissions) ∙ told.0.1) in
    let rising = ascending_from_map (λ x y. key_cmp the.submissions x y ≡ Less) (submission_record r.printed) r.submissions (subst (IsAscending (λ x y. key_cmp the.submissions x y ≡ Less)) e.submissions (stored.stands named.submissions).rise) in
    let at : Split row_cmp it r.submissions =
    split row_cmp it cmp_total r.submissions rising (all_weaker (λ y. is_submission c order y ≡ false) (λ y. row_cmp it y ≡ Equal → ⊥) (key_apart c order s retry) r.submissions (none_passes (is_submission c order) r.submissions unnumbered)) in
    let own : order ≡ length (map (λ (x : CompanyRow). x.row) (filter (is_of_company c) r.submissions)) + 1 = admits ∙ ap (λ (k : Book). length (k.rows c) + 1) h.book in
    let next : order ≡ length (filter (is_of_company c) r.submissions) + 1 = own ∙ ap (λ n. n + 1) (length-map (filter (is_of_company c) r.submissions) (λ (x : CompanyRow). x.row)) in
    let are : AreOf t (record r { submissions = at.before ++ at.after }) = subst (λ (xs : List CompanyRow). AreOf t (record r { submissions = xs })) at.is (e, h.beside) in
    let unnumbered_there = subst (λ (xs : List CompanyRow). find (is_submission c order) xs ≡ None) at.is unnumbered in
    let unnamed_there = subst (λ (xs : List CompanyRow). find (is_submission_under c s.reference) xs ≡ None) at.is unnamed in
    let next_there = subst (λ (xs : List CompanyRow). order ≡ length (filter (is_of_company c) xs) + 1) at.is next in
    in_book _ (record r { submissions = at.before ++ it ∷ at.after }) _
    (submission_tables c order s retry t r at.before at.after are at.above at.below unnumbered_there unnamed_there told.0.2 next_there)
    (ap (add_submission c order s retry).after h.book
    ∙ sym (flat-add r c order s retry own)
    ∙ ap (λ (xs : List CompanyRow). flat_book (record r { submissions = xs ++ it ∷ [] })) at.is
    ∙ sym (same_book c order s retry t r at.before at.after are at.above at.below unnumbered_there unnamed_there told.0.2 next_there))
