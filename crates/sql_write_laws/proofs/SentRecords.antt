-- The rows of a table after one statement of a cut are those of the flat rows after it.
use Rattle.std.proofs.Common.{◌≡◌, ℕ, ◌+◌, List, [], ◌∷◌, ◌++◌, map, length, Bool, true, false, None, Some, refl, sym, ap, subst, ◌∙◌, inl, inr, arith}
use Rattle.std.specs.Prelude.{◌&&◌, ◌==◌, if◌then◌else◌, find, bytes_eq, option_map}
use Rattle.std.specs.Option.{option_or}
use Rattle.std.specs.List.{enumerate_from, flat_map}
use Rattle.std.proofs.lemmas.Bool.{cases_Bool, and_parts, and_from, eq-eqb, eqb-true, false_from_ne_true}
use Rattle.std.proofs.lemmas.List.{map-append}
use Rattle.std.proofs.lemmas.List.Folds.{find-append}
use Rattle.std.proofs.lemmas.Slice.Eq.{bytes_eq-Decides}
use Rattle.desk_history.specs.declared.sent_entry.SentEntry.{SentEntry}
use Rattle.desk_rules.specs.declared.bodies.submission.Entry.{Entry}
use Rattle.desk_book.specs.declared.flat_rows.LapsedRow.{LapsedRow}
use Rattle.desk_book.specs.declared.flat_rows.SentRow.{SentRow}
use Rattle.desk_book.specs.declared.row.Row.{Row}
use Rattle.desk_book.specs.Standing.{sent_row, lapsed_row}
use Rattle.desk_book.specs.Steps.{if_order}
use Rattle.desk_store.specs.Changes.{in_company, send_in, lapse_in}
use Rattle.desk_store.specs.Rows.{CompanyRow, is_printed_of}
use Rattle.sql_tables.specs.CutTables.{mark_entry}
use Rattle.sql_tables.proofs.CutRecords.{pair_same, pair_from, pair_not}
use Rattle.sql_write_laws.proofs.EntryPlaces.{place_from, place_step, unplaced}
use Rattle.sql_write_laws.proofs.Found.{or_none}
use Rattle.sql_tables.specs.Encodes.{submission_record, printed_at, entry_records, entry_record, is_entry}
use Rattle.sql_tables.specs.declared.records.SubmissionRecord.{SubmissionRecord}

-- a change of each element is seen as a change of what it is mapped to
pub each : {A B : Type 0} (f g : A → B) (step : A → A) (made : B → B) → ((x : A) → f (step x) ≡ made (g x)) → (xs : List A) → map f (map step xs) ≡ map made (map g xs)
each f g step made h [] = refl
each f g step made h (x ∷ xs) = λ i. h x i ∷ each f g step made h xs i

-- ---- one row

is_at : List ℕ → ℕ → CompanyRow → Bool
is_at c o x = bytes_eq x.company c && x.row.order == o

pub in_both : (c : List ℕ) (o : ℕ) (f : Row → Row) (x : CompanyRow) → in_company c (if_order o f) x ≡ (if bytes_eq x.company c && x.row.order == o then record x { row = f x.row } else x)
in_both c o f x = elim (bytes_eq x.company c) as (λ t. (if t then record x { row = if x.row.order == o then f x.row else x.row } else x) ≡ (if t && x.row.order == o then record x { row = f x.row } else x)) [
  | true ↦ elim (x.row.order == o) as (λ u. record x { row = if u then f x.row else x.row } ≡ (if u then record x { row = f x.row } else x)) [ true ↦ refl | false ↦ refl ]
  | false ↦ refl
]

module _ (printed : List SentRow) (s : SentRow) (x : CompanyRow) where
  abbrev p : SentRow → Bool
  p = is_printed_of x.company x.row.order

  found : p s ≡ true → find p printed ≡ None → printed_at (printed ++ s ∷ []) x.company x.row.order ≡ Some s.printed
  found is none = ap (option_map (λ z. z.printed)) (find-append p printed (s ∷ []) ∙ ap (λ o. option_or o (find p (s ∷ []))) none ∙ ap (λ t. if t then Some s else None) is)

  still : p s ≡ false → printed_at (printed ++ s ∷ []) x.company x.row.order ≡ printed_at printed x.company x.row.order
  still out = ap (option_map (λ z. z.printed)) (find-append p printed (s ∷ []) ∙ ap (λ t. option_or (find p printed) (if t then Some s else None)) out ∙ or_none (find p printed))

  abbrev before : SubmissionRecord
  before = submission_record printed x

  pub one_sent : find (is_printed_of s.company s.order) printed ≡ None
      → submission_record (printed ++ s ∷ []) (send_in s x) ≡ (if bytes_eq x.company s.company && x.row.order == s.order then record { head = record before.head { settled = Some s.settled }; printed = Some s.printed } else before)
  one_sent none =
      ap (submission_record (printed ++ s ∷ [])) (in_both s.company s.order (sent_row s.settled) x)
      ∙ elim (cases_Bool (bytes_eq x.company s.company && x.row.order == s.order)) [
        | inl is ↦
            (let same = pair_same x.company s.company x.row.order s.order is in
            let own : p s ≡ true = pair_from s.company x.company s.order x.row.order (sym same.0) (sym same.1) in
            let fresh : find p printed ≡ None = subst (λ c. find (is_printed_of c x.row.order) printed ≡ None) (sym same.0) (subst (λ o. find (is_printed_of s.company o) printed ≡ None) (sym same.1) none) in
            ap (λ (t : Bool). submission_record (printed ++ s ∷ []) (if t then record x { row = sent_row s.settled x.row } else x)) is
            ∙ (λ i. record { head = record before.head { settled = Some s.settled }; printed = found own fresh i })
            ∙ ap (λ (t : Bool). if t then record { head = record before.head { settled = Some s.settled }; printed = Some s.printed } else before) (sym is))
        | inr out ↦
            ap (λ (t : Bool). submission_record (printed ++ s ∷ []) (if t then record x { row = sent_row s.settled x.row } else x)) out
            ∙ (λ i. record before { printed = still (pair_not x.company s.company x.row.order s.order out) i })
            ∙ ap (λ (t : Bool). if t then record { head = record before.head { settled = Some s.settled }; printed = Some s.printed } else before) (sym out)
      ]

pub one_lapsed : (printed : List SentRow) (l : LapsedRow) (x : CompanyRow)
    → submission_record printed (lapse_in l x) ≡ (if bytes_eq x.company l.company && x.row.order == l.order then record (submission_record printed x) { head = record (submission_record printed x).head { lapsed = true } } else submission_record printed x)
one_lapsed printed l x =
    ap (submission_record printed) (in_both l.company l.order lapsed_row x)
    ∙ elim (bytes_eq x.company l.company && x.row.order == l.order) as (λ t. submission_record printed (if t then record x { row = lapsed_row x.row } else x) ≡ (if t then record (submission_record printed x) { head = record (submission_record printed x).head { lapsed = true } } else submission_record printed x)) [ true ↦ refl | false ↦ refl ]

-- ---- entries

pub three_same : (a b : List ℕ) (m n i j : ℕ) → (bytes_eq a b && m == n && i == j) ≡ true → (a ≡ b) × (m ≡ n) × (i ≡ j)
three_same a b m n i j is =
    let outer = and_parts _ _ is in
    let inner = and_parts _ _ outer.0 in
    ((bytes_eq-Decides a b).0 inner.0, eqb-true m n inner.1, eqb-true i j outer.1)

pub three_from : (a b : List ℕ) (m n i j : ℕ) → a ≡ b → m ≡ n → i ≡ j → (bytes_eq a b && m == n && i == j) ≡ true
three_from a b m n i j p q r = and_from _ _ (and_from _ _ ((bytes_eq-Decides a b).1 p) (eq-eqb m n q)) (eq-eqb i j r)

pub three_not : (a b : List ℕ) (m n i j : ℕ) → (bytes_eq a b && m == n && i == j) ≡ false → (bytes_eq b a && n == m && j == i) ≡ false
three_not a b m n i j out = false_from_ne_true _ (λ is. let same = three_same b a n m j i is in let back = three_from a b m n i j (sym same.0) (sym same.1) (sym same.2) in cc)

-- one more sent entry is found behind the others
place_more : (n : ℕ) (sent : List SentEntry) (e : SentEntry) (c : List ℕ) (o i : ℕ)
    → place_from n (sent ++ e ∷ []) c o i ≡ option_or (place_from n sent c o i) (if is_entry c o i e then Some (length sent + n) else None)
place_more n [] e c o i = place_step n e [] c o i ∙ ap (λ (k : ℕ). if is_entry c o i e then Some k else None) (let e : n ≡ 0 + n = omega arith in e)
place_more n (x ∷ sent) e c o i =
    place_step n x (sent ++ e ∷ []) c o i
    ∙ elim (is_entry c o i x) as (λ t. (if t then Some n else place_from (n + 1) (sent ++ e ∷ []) c o i) ≡ option_or (if t then Some n else place_from (n + 1) sent c o i) (if is_entry c o i e then Some (length (x ∷ sent) + n) else None)) [
      | true ↦ refl
      | false ↦ place_more (n + 1) sent e c o i ∙ ap (λ (k : ℕ). option_or (place_from (n + 1) sent c o i) (if is_entry c o i e then Some k else None)) (let e : length sent + (n + 1) ≡ length (x ∷ sent) + n = omega arith in e)
    ]
    ∙ ap (λ z. option_or z (if is_entry c o i e then Some (length (x ∷ sent) + n) else None)) (sym (place_step n x sent c o i))

module _ (sent : List SentEntry) (e : SentEntry) (none : find (is_entry e.company e.order e.index) sent ≡ None) where
  one_entry : (c : List ℕ) (o : ℕ) (q : ℕ × Entry) → entry_record (sent ++ e ∷ []) c o q
      ≡ (if bytes_eq c e.company && o == e.order && q.0 == e.index then record (entry_record sent c o q) { place = Some (length sent + 1) } else entry_record sent c o q)
  one_entry c o q = elim (cases_Bool (bytes_eq c e.company && o == e.order && q.0 == e.index)) [
    | inl is ↦
        (let same = three_same c e.company o e.order q.0 e.index is in
        let own : is_entry c o q.0 e ≡ true = three_from e.company c e.order o e.index q.0 (sym same.0) (sym same.1) (sym same.2) in
        let fresh : find (is_entry c o q.0) sent ≡ None = subst (λ d. find (is_entry d o q.0) sent ≡ None) (sym same.0) (subst (λ m. find (is_entry e.company m q.0) sent ≡ None) (sym same.1) (subst (λ j. find (is_entry e.company e.order j) sent ≡ None) (sym same.2) none)) in
        let at : place_from 1 (sent ++ e ∷ []) c o q.0 ≡ Some (length sent + 1) =
        place_more 1 sent e c o q.0 ∙ ap (λ z. option_or z (if is_entry c o q.0 e then Some (length sent + 1) else None)) (unplaced 1 sent c o q.0 fresh) ∙ ap (λ (t : Bool). if t then Some (length sent + 1) else None) own in
        (λ i. record (entry_record sent c o q) { place = at i })
        ∙ ap (λ (t : Bool). if t then record (entry_record sent c o q) { place = Some (length sent + 1) } else entry_record sent c o q) (sym is))
    | inr out ↦
        (let at : place_from 1 (sent ++ e ∷ []) c o q.0 ≡ place_from 1 sent c o q.0 =
        place_more 1 sent e c o q.0 ∙ ap (λ (t : Bool). option_or (place_from 1 sent c o q.0) (if t then Some (length sent + 1) else None)) (three_not c e.company o e.order q.0 e.index out) ∙ or_none (place_from 1 sent c o q.0) in
        (λ i. record (entry_record sent c o q) { place = at i })
        ∙ ap (λ (t : Bool). if t then record (entry_record sent c o q) { place = Some (length sent + 1) } else entry_record sent c o q) (sym out))
  ]

  entries_of_row : (c : List ℕ) (o : ℕ) (qs : List (ℕ × Entry)) → map (entry_record (sent ++ e ∷ []) c o) qs ≡ mark_entry (length sent + 1) e (map (entry_record sent c o) qs)
  entries_of_row c o [] = refl
  entries_of_row c o (q ∷ qs) = λ i. one_entry c o q i ∷ entries_of_row c o qs i

  pub one_marked : (rows : List CompanyRow) → flat_map (entry_records (sent ++ e ∷ [])) rows ≡ mark_entry (length sent + 1) e (flat_map (entry_records sent) rows)
  one_marked [] = refl
  one_marked (x ∷ rows) =
      (λ i. entries_of_row x.company x.row.order (enumerate_from 1 x.row.content.entries) i ++ one_marked rows i)
      ∙ sym (map-append _ (entry_records sent x) (flat_map (entry_records sent) rows))
