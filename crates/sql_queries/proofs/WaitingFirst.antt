-- In the order of the index on open submissions those of a company that wait come first.
use Rattle.std.proofs.Common.{◌≡◌, ℕ, pos, Bool, true, false, not, ◌&&◌, is_none, List, [], ◌∷◌, map, filter, take_while, Option, None, Some, refl, sym, ap, ◌∙◌, Ordering, Less, Equal, Greater, is_eq, is_gt, true≢false}
use Rattle.std.specs.Cmp.{IsTotalOrder}
use Rattle.std.specs.Ordering.{nat_cmp, on, ordering_then}
use Rattle.std.proofs.lemmas.Bool.{and_parts}
use Rattle.std.proofs.lemmas.Cmp.{nat_cmp_total, nat_list_cmp_total, on_total, tied_itself}
use Rattle.std.proofs.lemmas.List.Sorted.{IsPermutation-sym}
use Rattle.std.proofs.lemmas.Slice.Eq.{bytes_eq-Decides}
use Rattle.sqlite.specs.State.{State}
use Rattle.sqlite.specs.Values.{or_null}
use Rattle.sqlite_exec.proofs.PartitionLemmas.{sorted_from_ascending}
use Rattle.sqlite_keyed.proofs.ListLemmas.{filter-map, map-map, ascending-map, ascending_weaker, IsPermutation-filter}
use Rattle.sqlite_keyed.proofs.SortLemmas.{IsPermutation-sort_by, sorted_unique}
use Rattle.sqlite_keyed.specs.Lists.{sort_by}
use Rattle.sqlite_sql.proofs.QueryLemmas.{output_cmp_total}
use Rattle.sqlite_sql.specs.Query.{key_cmp as by_keys}
use Rattle.sqlite_sql.specs.Term.{Term}
use Rattle.sqlite_value.proofs.OrderLemmas.{value_cmp-Null, value_cmp-apart}
use Rattle.sqlite_value.specs.declared.keys.Key.{Key}
use Rattle.sqlite_value.specs.declared.value.Value.TheVariants.{Int, Null, Text}
use Rattle.sqlite_value.specs.Order.{Row, value_cmp}
use Rattle.sql_statements.proofs.Conditions.{text_is}
use Rattle.sql_statements.proofs.Selects.{selected}
use Rattle.sql_statements.proofs.StoredRows.{stores_in}
use Rattle.sql_statements.specs.Statements.{query_from, column_is, columns, by}
use Rattle.sql_statements.specs.Findings.{Finds}
use Rattle.sql_tables.specs.ByName as named
use Rattle.sql_tables.specs.Description.{form, key_cmp, table}
use Rattle.sql_tables.specs.DeskTables as the
use Rattle.sql_tables.specs.Schema.{desk_schema}
use Rattle.sql_tables.specs.Columns.{number, flag}
use Rattle.sql_tables.specs.KeyOrders.{text_cmp, IsInOrder}
use Rattle.sql_tables.specs.Layout.{desk_layout}
use Rattle.sql_tables.specs.QueryRows.{submission_head_row}
use Rattle.sql_tables.specs.Selected.{head_of}
use Rattle.sql_tables.specs.TableReads.{is_of, is_waiting, is_waiting_of, heads_in}
use Rattle.sql_tables.specs.declared.records.SubmissionRecord.{SubmissionRecord}
use Rattle.sql_tables.specs.declared.row.submissions.SubmissionHead.{SubmissionHead}
use Rattle.sql_query_laws.proofs.Conditions.{one}
use Rattle.sql_queries.proofs.FirstRows.{found_while, while_all}
use Rattle.sql_query_laws.proofs.Injective.{submission_head_rows}
use Rattle.sql_query_laws.proofs.Keys.{numbers_compare, by_text_then_more}
use Rattle.sql_queries.proofs.Sorting.{filter_both, ascending_passing, sorts_rise}
use Rattle.sql_query_laws.proofs.Texts.{waiting_submissions_is}
use Rattle.sql_query_laws.specs.Shows.{ShowsAll, ReadsWhile}
use Rattle.sql_query_laws.specs.Questions as questions
use Rattle.sql_queries.specs.Waiting.{waits}

-- ---- the order

abbrev order : List (Term × Key)
order = by 1 ∷ by 11 ∷ by 10 ∷ by 2 ∷ []

abbrev sort : SubmissionRecord → Row
sort s = Text s.head.company ∷ or_null number s.head.settled ∷ flag s.head.lapsed ∷ number s.head.order ∷ []

abbrev waiting_cmp : SubmissionRecord → SubmissionRecord → Ordering
waiting_cmp a b = by_keys 0 (map (λ k. k.1) order) (sort a) (sort b)

waiting_cmp_total : IsTotalOrder waiting_cmp
waiting_cmp_total = on_total (λ s. (sort s, [])) (output_cmp_total (query_from 6 (column_is 1 0 ∷ []) (columns 11) order))

abbrev within : SubmissionRecord → SubmissionRecord → Ordering
within a b = ordering_then (value_cmp (or_null number a.head.settled) (or_null number b.head.settled)) (ordering_then (value_cmp (flag a.head.lapsed) (flag b.head.lapsed)) (nat_cmp a.head.order b.head.order))

compares : (a b : SubmissionRecord) → waiting_cmp a b ≡ ordering_then (text_cmp a.head.company b.head.company) (within a b)
compares a b = by_text_then_more a.head.company b.head.company _ _ _ _ a.head.order b.head.order

untied : (t u f n : Ordering) → ordering_then t n ≡ Less → is_eq (ordering_then t (ordering_then u (ordering_then f n))) ≡ false
untied Less u f n less = refl
untied Greater u f n less = refl
untied Equal Less f n less = refl
untied Equal Greater f n less = refl
untied Equal Equal Less n less = refl
untied Equal Equal Greater n less = refl
untied Equal Equal Equal n less = ap is_eq less

abbrev by_waiting : List SubmissionRecord → List SubmissionRecord
by_waiting = sort_by waiting_cmp

waiting_rise : (subs : List SubmissionRecord) → IsInOrder (key_cmp the.submissions) subs → IsInOrder waiting_cmp (by_waiting subs)
waiting_rise subs up =
    sorts_rise waiting_cmp waiting_cmp_total subs (ascending_weaker _ (λ a b. is_eq (waiting_cmp a b) ≡ false) (λ a b less. ap is_eq (compares a b) ∙ untied (text_cmp a.head.company b.head.company) _ _ (nat_cmp a.head.order b.head.order) less) subs up)

-- ---- within a company

same_company : (c : List ℕ) (a b : SubmissionRecord) → is_of c a ≡ true → is_of c b ≡ true → text_cmp a.head.company b.head.company ≡ Equal
same_company c a b p q =
    let x = (bytes_eq-Decides a.head.company c).0 p in
    let y = (bytes_eq-Decides b.head.company c).0 q in
    (λ i. text_cmp (x i) (y i)) ∙ tied_itself nat_list_cmp_total c

less_within : (c : List ℕ) (a b : SubmissionRecord) → is_of c a ≡ true → is_of c b ≡ true → waiting_cmp a b ≡ Less → within a b ≡ Less
less_within c a b p q less = sym (compares a b ∙ ap (λ o. ordering_then o (within a b)) (same_company c a b p q)) ∙ less

abbrev pub by_order : SubmissionRecord → SubmissionRecord → Ordering
by_order = on (λ s. s.head.order) nat_cmp

pub rise_by_order : (c : List ℕ) (p : SubmissionRecord → Bool) → ((s : SubmissionRecord) → p s ≡ true → is_of c s ≡ true) → (subs : List SubmissionRecord) → IsInOrder (key_cmp the.submissions) subs → IsInOrder by_order (filter p subs)
rise_by_order c p are subs up =
    ascending_passing p _ _ (λ a b m n less. sym (ap (λ o. ordering_then o (nat_cmp a.head.order b.head.order)) (same_company c a b (are a m) (are b n))) ∙ less) subs up

-- one before another that waits
waits_before : (a b : Option ℕ) (f g : Bool) (n : Ordering) → ordering_then (value_cmp (or_null number a) (or_null number b)) (ordering_then (value_cmp (flag f) (flag g)) n) ≡ Less → (is_none b && not g) ≡ true
    → ((is_none a && not f) ≡ true) × (n ≡ Less)
waits_before a (Some d) f g n less waits = absurd (true≢false (sym waits))
waits_before a None f true n less waits = absurd (true≢false (sym waits))
waits_before None None false false n less waits =
    let unset = value_cmp-Null Null in
    let unflagged = numbers_compare 0 0 in
    (refl, sym (λ i. ordering_then (unset i) (ordering_then (unflagged i) n)) ∙ less)
waits_before None None true false n less waits =
    let unset = value_cmp-Null Null in
    let flagged = numbers_compare 1 0 in
    let no : Greater ≡ Less = sym (λ i. ordering_then (unset i) (ordering_then (flagged i) n)) ∙ less in
    absurd cc
waits_before (Some d) None f false n less waits =
    let no : Greater ≡ Less = sym (ap (λ o. ordering_then o (ordering_then (value_cmp (flag f) (flag false)) n)) (value_cmp-apart (Int (pos d)) Null (λ e. cc))) ∙ less in
    absurd cc

-- those that wait are in their order
same_waiting : (c : List ℕ) (subs : List SubmissionRecord) → IsInOrder (key_cmp the.submissions) subs → filter (is_waiting_of c) (by_waiting subs) ≡ filter (is_waiting_of c) subs
same_waiting c subs up =
    let total = on_total (λ (s : SubmissionRecord). s.head.order) nat_cmp_total in
    let rises : IsInOrder by_order (filter (is_waiting_of c) (by_waiting subs)) =
    ascending_passing (is_waiting_of c) (λ a b. waiting_cmp a b ≡ Less) (λ a b. by_order a b ≡ Less)
    (λ a b m n less.
    let p = and_parts _ _ m in
    let q = and_parts _ _ n in
    (waits_before a.head.settled b.head.settled a.head.lapsed b.head.lapsed (nat_cmp a.head.order b.head.order) (less_within c a b p.0 q.0 less) q.1).1)
    _ (waiting_rise subs up) in
    sorted_unique by_order total (filter (is_waiting_of c) subs) _ (rise_by_order c (is_waiting_of c) (λ s h. (and_parts _ _ h).0) subs up)
    (IsPermutation-filter (is_waiting_of c) _ _ (IsPermutation-sym _ _ (IsPermutation-sort_by waiting_cmp waiting_cmp_total subs)))
    (sorted_from_ascending by_order total _ (ascending_weaker _ (λ a b. is_gt (by_order a b) ≡ false) (λ a b less. ap is_gt less) _ rises))

waiting_first : (c : List ℕ) (subs : List SubmissionRecord) → IsInOrder (key_cmp the.submissions) subs → take_while waits (map head_of (filter (is_of c) (by_waiting subs))) ≡ map head_of (filter (is_waiting_of c) subs)
waiting_first c subs up =
    while_all waits _
    (ascending-map (λ a b. waits b ≡ true → waits a ≡ true) head_of _
    (ascending_passing (is_of c) (λ a b. waiting_cmp a b ≡ Less) (λ a b. is_waiting b ≡ true → is_waiting a ≡ true)
    (λ a b p q less later. (waits_before a.head.settled b.head.settled a.head.lapsed b.head.lapsed (nat_cmp a.head.order b.head.order) (less_within c a b p q less) later).0) _ (waiting_rise subs up)))
    ∙ filter-map waits head_of (filter (is_of c) (by_waiting subs)) ∙ ap (map head_of) (filter_both is_waiting (is_of c) (by_waiting subs) ∙ same_waiting c subs up)

-- ---- the query

by_waiting_shown : (c : List ℕ) → ShowsAll questions.waiting_submissions.text (Text c ∷ []) submission_head_row (λ t. map head_of (filter (is_of c) (by_waiting t.submissions)))
by_waiting_shown c = record {
  rows = λ t old new h rows seen.
      let stands = h.1.stands named.submissions in
      selected (form the.submissions) (table the.submissions).tree (column_is 1 0 ∷ []) (columns 11) order (Text c ∷ []) (is_of c) (λ s. submission_head_row (head_of s)) sort
      (λ i s. one (text_is s.head.company c)) (λ i s. refl) (λ i s. refl) desk_schema questions.waiting_submissions.text waiting_submissions_is.asks old new h.0 (by_waiting t.submissions)
      (stores_in (form the.submissions) _ t.submissions _ (IsPermutation-sym _ _ (IsPermutation-sort_by waiting_cmp waiting_cmp_total t.submissions)) stands.stored)
      (waiting_rise t.submissions stands.rise) rows seen
      ∙ sym (map-map submission_head_row head_of _);
}

pub waiting_found : {c : List ℕ} {old new : State} {xs : List SubmissionHead} → ReadsWhile questions.waiting_submissions.text (Text c ∷ []) submission_head_row waits old new xs → Finds desk_layout (λ t. xs ≡ heads_in (is_waiting_of c) t) old
waiting_found {c} read =
    let found = found_while submission_head_row submission_head_rows waits waiting_submissions_is.asks (by_waiting_shown c) read in
    record { was_open = found.was_open; told = λ t h. found.told t h ∙ waiting_first c t.submissions (h.1.stands named.submissions).rise }
