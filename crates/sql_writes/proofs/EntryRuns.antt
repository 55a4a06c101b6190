-- The statements of a cut that give the entries of a run their places, against their records.
use Rattle.std.proofs.Common.{◌≡◌, ◌≤◌, ◌+◌, ◌-◌, ◌-ℤ◌, ◌^◌, ℕ, ℤ, pos, Bool, true, false, is_none, ◌&&◌, ◌==◌, cond, List, [], ◌∷◌, find, length, slice_get, Some, Ok, bytes_eq, refl, sym, ap, ap₂, ◌∙◌, subst, arith, is_ge, is_le, int_cmp, Less}
use Rattle.std.proofs.lemmas.Bool.{and_parts}
use Rattle.std.specs.List.{enumerate_from, list_all}
use Rattle.std.specs.Ordering.{nat_cmp, ordering_then}
use Rattle.sqlite_tied.specs.Compute.{everything}
use Rattle.sqlite.specs.Listing.{understood}
use Rattle.sqlite.specs.State.{State, Executes}
use Rattle.sqlite_keyed.specs.Lists.{update_where}
use Rattle.sqlite_sql.specs.Term.{col, holds, eval_all}
use Rattle.sqlite_value.specs.Order.{Row}
use Rattle.sqlite_value.specs.declared.value.Value.{Value}
use Rattle.sqlite_value.specs.declared.value.Value.TheVariants.{Int, Text}
use Rattle.sql_statements.specs.Edits.{each_edit_from}
use Rattle.sql_statements.specs.Layouts.{Holds}
use Rattle.sql_statements.specs.StoredRows.{row_of}
use Rattle.sql_statements.proofs.Conditions.{text_is, int_least, int_most, and_true}
use Rattle.desk_history.specs.declared.sent_entry.SentEntry.{SentEntry}
use Rattle.sql_tables.specs.ByName as named
use Rattle.sql_tables.specs.Description.{form, key_cmp}
use Rattle.sql_tables.specs.DeskTables as the
use Rattle.sql_tables.specs.Columns.{number}
use Rattle.sql_tables.specs.CutTables.{is_entry_row, mark_entry}
use Rattle.sql_tables.specs.KeyOrders.{text_cmp}
use Rattle.sql_tables.specs.Layout.{desk_layout}
use Rattle.sql_tables.specs.TableEdits.{IsUnsent}
use Rattle.sql_tables.specs.Tables.{Tables}
use Rattle.sql_tables.specs.declared.records.EntryRecord.{EntryRecord}
use Rattle.sql_writes.proofs.Conditions as conditions
use Rattle.sql_writes.proofs.KeyTests.{none_is, one_entry}
use Rattle.sql_writes.proofs.Puts.{holds_with, IsUpdateOf}
use Rattle.sql_writes.proofs.RunUpdates.{inside}
use Rattle.sql_writes.proofs.RunsMade.{after_run, tells_run, run_named, run_updated}
use Rattle.sql_writes.proofs.Sums.{sum_is, least, most}
use Rattle.sql_writes.specs.CutTexts.{update_in_one, update_in_many}
use Rattle.sql_writes.specs.EntryRuns.{is_numbered, stands_after, is_ordered, comes_after}
use Rattle.sql_writes.specs.PlaceEdits.{mark_entry_edit}
use Rattle.sql_writes.specs.Runs.{is_run}

update_in_one_is : IsUpdateOf named.entries update_in_one
unfolding understood everything
update_in_one_is = record { is = record { updates = refl; body = refl; alone = refl; plain = (refl, refl) } }

update_in_many_is : IsUpdateOf named.entries update_in_many
unfolding understood everything
update_in_many_is = record { is = record { updates = refl; body = refl; alone = refl; plain = (refl, refl) } }

-- what an UPDATE makes of the rows, with these values at the place
abbrev put : Value → (i : ℤ) → EntryRecord → Row
put v i r = eval_all (col 1 1 ∷ col 1 2 ∷ col 1 3 ∷ col 1 4 ∷ col 1 5 ∷ col 1 6 ∷ col 1 7 ∷ col 1 8 ∷ col 1 9 ∷ col 1 10 ∷ col 1 11 ∷ col 0 0 ∷ []) ((v ∷ []) ∷ row_of (form the.entries) (i, r) ∷ [])

abbrev entries_in : Tables → List EntryRecord
entries_in t = t.entries

abbrev with_entries : List EntryRecord → Tables → Tables
with_entries xs t = record t { entries = xs }

-- ---- a row at a place keeps all else

module _ (p : EntryRecord → Bool) (place_of : EntryRecord → ℕ) where
  abbrev placed : EntryRecord → EntryRecord
  placed r = record r { place = Some (place_of r) }

  keeps_order : (a b : EntryRecord) → key_cmp the.entries (cond (p a) (placed a) a) (cond (p b) (placed b) b) ≡ key_cmp the.entries a b
  keeps_order a b = λ i. ordering_then (ordering_then (text_cmp (company a i) (company b i)) (nat_cmp (order a i) (order b i))) (nat_cmp (index a i) (index b i))
    where
      company : (d : EntryRecord) → (cond (p d) (placed d) d).company ≡ d.company
      company d = elim (p d) as (λ q. (cond q (placed d) d).company ≡ d.company) [ true ↦ refl | false ↦ refl ]

      order : (d : EntryRecord) → (cond (p d) (placed d) d).order ≡ d.order
      order d = elim (p d) as (λ q. (cond q (placed d) d).order ≡ d.order) [ true ↦ refl | false ↦ refl ]

      index : (d : EntryRecord) → (cond (p d) (placed d) d).index ≡ d.index
      index d = elim (p d) as (λ q. (cond q (placed d) d).index ≡ d.index) [ true ↦ refl | false ↦ refl ]

swapped : (a b c : Bool) → ((a && b) && c) ≡ ((a && c) && b)
swapped true true true = refl
swapped true true false = refl
swapped true false true = refl
swapped true false false = refl
swapped false b c = refl

-- the first of a run, its place, and the key of the last row
module _ (first : SentEntry) (place last : ℕ) where
  abbrev in_place : ℕ → EntryRecord → EntryRecord
  in_place n r = record r { place = Some n }

  -- ---- entries of one submission

  abbrev of_one : EntryRecord → Bool
  of_one r = bytes_eq r.company first.company && r.order == first.order

  abbrev index_of : EntryRecord → ℕ
  index_of r = r.index

  abbrev one_at : ℕ → EntryRecord → EntryRecord
  one_at i r = in_place (place + (i - first.index)) r

  abbrev pub one_params : Row
  one_params = Text first.company ∷ number first.order ∷ Int (pos place -ℤ pos first.index) ∷ number first.index ∷ number last ∷ []

  -- WHERE company = ? AND ord = ? AND idx BETWEEN ? AND ? AND seq IS NULL
  abbrev in_one : EntryRecord → Bool
  in_one r = bytes_eq r.company first.company && (r.order == first.order && (is_ge (int_cmp (pos r.index) (pos first.index)) && (is_le (int_cmp (pos r.index) (pos last)) && is_none r.place)))

  one_tested : (i : ℤ) (r : EntryRecord) → list_all (holds (one_params ∷ row_of (form the.entries) (i, r) ∷ [])) update_in_one.tests ≡ in_one r
  one_tested i r =
      let a = text_is r.company first.company in
      let b = conditions.number_is r.order first.order in
      let d = int_least (pos r.index) (pos first.index) in
      let e = int_most (pos r.index) (pos last) in
      let f = and_true _ ∙ conditions.unset_is r.place in
      λ j. a j && (b j && (d j && (e j && f j)))

  one_parts : (r : EntryRecord) → in_one r ≡ true → (of_one r ≡ true) × (first.index ≤ r.index) × (r.index ≤ last) × (is_none r.place ≡ true)
  one_parts r h =
      let a = and_parts (bytes_eq r.company first.company) _ h in
      let b = and_parts (r.order == first.order) _ a.1 in
      let d = and_parts (is_ge (int_cmp (pos r.index) (pos first.index))) _ b.1 in
      let e = and_parts (is_le (int_cmp (pos r.index) (pos last))) (is_none r.place) d.1 in
      (ap₂ (λ v w. v && w) a.0 b.0, least r.index first.index d.0, most r.index last e.0, e.1)

  one_is : (j n i : ℕ) (e : SentEntry) → n ≡ place + j → i ≡ first.index + j → stands_after first j e ≡ true
      → (xs : List EntryRecord) → mark_entry n e xs ≡ update_where (λ r. of_one r && (r.index == i)) (one_at i) xs
  one_is j n i e at_place at_key is xs =
      let one = and_parts (bytes_eq e.company first.company && (e.order == first.order)) (e.index == first.index + j) is in
      let two = and_parts (bytes_eq e.company first.company) (e.order == first.order) one.0 in
      let company = conditions.same_text e.company first.company two.0 in
      let order = conditions.same_number e.order first.order two.1 in
      let index : e.index ≡ i = conditions.same_number e.index (first.index + j) one.1 ∙ sym at_key in
      let number_is : n ≡ place + (i - first.index) = omega (arith, at_place, at_key) in
      λ k. update_where (is_entry_row (company k) (order k) (index k)) (in_place (number_is k)) xs

  one_edit : (j n i : ℕ) (e : SentEntry) → n ≡ place + j → i ≡ first.index + j → stands_after first j e ≡ true
      → (u : Tables) → (mark_entry_edit n e).after u ≡ with_entries (update_where (λ r. of_one r && (r.index == i)) (one_at i) (entries_in u)) u
  one_edit j n i e at_place at_key is u = ap (λ xs. with_entries xs u) (one_is j n i e at_place at_key is u.entries)

  one_found : (j i : ℕ) (e : SentEntry) → i ≡ first.index + j → stands_after first j e ≡ true → (t : Tables) → (r : EntryRecord) → find (λ r. of_one r && (r.index == i)) t.entries ≡ Some r → in_one r ≡ true → IsUnsent e t
  one_found j i e at_key is t r found passes =
      let one = and_parts (bytes_eq e.company first.company && (e.order == first.order)) (e.index == first.index + j) is in
      let two = and_parts (bytes_eq e.company first.company) (e.order == first.order) one.0 in
      let company = conditions.same_text e.company first.company two.0 in
      let order = conditions.same_number e.order first.order two.1 in
      let index : e.index ≡ i = conditions.same_number e.index (first.index + j) one.1 ∙ sym at_key in
      record { record_of = r; found = (λ k. find (is_entry_row (company k) (order k) (index k)) t.entries) ∙ found; unplaced = none_is r.place (one_parts r passes).3 }

  -- the statement gives the entries of a run their places, if it says that it wrote so many rows
  pub marked_in_one : (es : List SentEntry) → last + 1 ≡ first.index + length es → place + length es ≤ 2 ^ 63 → slice_get es 0 ≡ Some first → is_run stands_after es ≡ true
      → (old new : State) → Executes update_in_one.text one_params old new (Ok (length es)) → (t : Tables) → Holds desk_layout old.now t
      → Holds desk_layout new.now ((each_edit_from mark_entry_edit place es).after t) × (each_edit_from mark_entry_edit place es).Tells t
  marked_in_one es ends room head run old new ran t h =
      let none : first.index + 0 ≡ first.index = omega arith in
      let own : is_numbered first first.index first ≡ true = rw (conditions.text_itself first.company, conditions.number_itself first.order, conditions.number_itself first.index) refl in
      let itself : stands_after first 0 first ≡ true = ap (λ n. is_numbered first n first) none ∙ own in
      let names : list_all (λ p. stands_after first p.0 p.1) (enumerate_from 0 es) ≡ true = run_named stands_after first es itself head run in
      let within = λ (r : EntryRecord) (it : in_one r ≡ true). (let parts = one_parts r it in inside of_one index_of one_at (λ i r. refl) (λ i r. refl) (length es) first.index r parts.0 parts.1 (omega (arith, parts.2, ends))) in
      let made = λ (i : ℤ) (r : EntryRecord) (it : in_one r ≡ true). (let parts = one_parts r it in ap (λ v. put v i r) (sum_is place first.index r.index parts.1 (omega (arith, parts.1, parts.2, ends, room)))) in
      let done = run_updated named.entries of_one index_of one_at (λ i r. refl) (λ i r. refl) (one_entry first.company first.order) update_in_one update_in_one_is refl one_params in_one one_tested made
      (keeps_order in_one (λ r. place + (r.index - first.index))) first.index (length es) within old new ran t h in
      let after = after_run of_one index_of one_at (λ i r. refl) (λ i r. refl) entries_in with_entries (λ xs u. refl) (λ xs ys u. refl) (λ u. refl) mark_entry_edit (stands_after first) place first.index one_edit es 0 place first.index (omega arith) (omega arith) names t in (
        subst (λ (u : Tables). Holds desk_layout new.now u) (sym after) (holds_with named.entries _ h done.has (record { stored = done.has.stored; rise = done.rise })),
        tells_run of_one index_of one_at (λ i r. refl) (λ i r. refl) entries_in with_entries (λ xs u. refl) (λ xs ys u. refl) (λ u. refl) mark_entry_edit (stands_after first) place first.index in_one one_edit
            (λ j n i e at_key is u r found passes. one_found j i e at_key is u r found passes) es 0 place first.index (omega arith) (omega arith) names t done.there,
      )

  -- ---- entries of many submissions

  abbrev of_many : EntryRecord → Bool
  of_many r = bytes_eq r.company first.company && r.index == first.index

  abbrev order_of : EntryRecord → ℕ
  order_of r = r.order

  abbrev many_at : ℕ → EntryRecord → EntryRecord
  many_at i r = in_place (place + (i - first.order)) r

  abbrev pub many_params : Row
  many_params = Text first.company ∷ number first.index ∷ Int (pos place -ℤ pos first.order) ∷ number first.order ∷ number last ∷ []

  -- WHERE company = ? AND ord BETWEEN ? AND ? AND idx = ? AND seq IS NULL
  abbrev in_many : EntryRecord → Bool
  in_many r = bytes_eq r.company first.company && (is_ge (int_cmp (pos r.order) (pos first.order)) && (is_le (int_cmp (pos r.order) (pos last)) && (r.index == first.index && is_none r.place)))

  many_tested : (i : ℤ) (r : EntryRecord) → list_all (holds (many_params ∷ row_of (form the.entries) (i, r) ∷ [])) update_in_many.tests ≡ in_many r
  many_tested i r =
      let a = text_is r.company first.company in
      let d = int_least (pos r.order) (pos first.order) in
      let e = int_most (pos r.order) (pos last) in
      let b = conditions.number_is r.index first.index in
      let f = and_true _ ∙ conditions.unset_is r.place in
      λ j. a j && (d j && (e j && (b j && f j)))

  many_parts : (r : EntryRecord) → in_many r ≡ true → (of_many r ≡ true) × (first.order ≤ r.order) × (r.order ≤ last) × (is_none r.place ≡ true)
  many_parts r h =
      let a = and_parts (bytes_eq r.company first.company) _ h in
      let d = and_parts (is_ge (int_cmp (pos r.order) (pos first.order))) _ a.1 in
      let e = and_parts (is_le (int_cmp (pos r.order) (pos last))) _ d.1 in
      let b = and_parts (r.index == first.index) (is_none r.place) e.1 in
      (ap₂ (λ v w. v && w) a.0 b.0, least r.order first.order d.0, most r.order last e.0, b.1)

  abbrev many_nth : ℕ → EntryRecord → Bool
  many_nth i r = of_many r && (r.order == i)

  many_nth_is : (i : ℕ) → is_entry_row first.company i first.index ≡ many_nth i
  many_nth_is i = λ k r. swapped (bytes_eq r.company first.company) (r.order == i) (r.index == first.index) k

  many_row : (j i : ℕ) (e : SentEntry) → i ≡ first.order + j → comes_after first j e ≡ true → is_entry_row e.company e.order e.index ≡ many_nth i
  many_row j i e at_key is =
      let one = and_parts (bytes_eq e.company first.company && (e.order == first.order + j)) (e.index == first.index) is in
      let two = and_parts (bytes_eq e.company first.company) (e.order == first.order + j) one.0 in
      let company = conditions.same_text e.company first.company two.0 in
      let order : e.order ≡ i = conditions.same_number e.order (first.order + j) two.1 ∙ sym at_key in
      let index = conditions.same_number e.index first.index one.1 in
      (λ k. is_entry_row (company k) (order k) (index k)) ∙ many_nth_is i

  many_is : (j n i : ℕ) (e : SentEntry) → n ≡ place + j → i ≡ first.order + j → comes_after first j e ≡ true
      → (xs : List EntryRecord) → mark_entry n e xs ≡ update_where (many_nth i) (many_at i) xs
  many_is j n i e at_place at_key is xs =
      let number_is : n ≡ place + (i - first.order) = omega (arith, at_place, at_key) in
      let row = many_row j i e at_key is in
      λ k. update_where (row k) (in_place (number_is k)) xs

  many_edit : (j n i : ℕ) (e : SentEntry) → n ≡ place + j → i ≡ first.order + j → comes_after first j e ≡ true
      → (u : Tables) → (mark_entry_edit n e).after u ≡ with_entries (update_where (many_nth i) (many_at i) (entries_in u)) u
  many_edit j n i e at_place at_key is u = ap (λ xs. with_entries xs u) (many_is j n i e at_place at_key is u.entries)

  many_single : (i : ℕ) (a b : EntryRecord) → many_nth i a ≡ true → many_nth i b ≡ true → key_cmp the.entries a b ≡ Less → ⊥
  many_single i a b here there = one_entry first.company i first.index a b (ap (λ p. p a) (many_nth_is i) ∙ here) (ap (λ p. p b) (many_nth_is i) ∙ there)

  pub marked_in_many : (es : List SentEntry) → last + 1 ≡ first.order + length es → place + length es ≤ 2 ^ 63 → slice_get es 0 ≡ Some first → is_run comes_after es ≡ true
      → (old new : State) → Executes update_in_many.text many_params old new (Ok (length es)) → (t : Tables) → Holds desk_layout old.now t
      → Holds desk_layout new.now ((each_edit_from mark_entry_edit place es).after t) × (each_edit_from mark_entry_edit place es).Tells t
  marked_in_many es ends room head run old new ran t h =
      let none : first.order + 0 ≡ first.order = omega arith in
      let own : is_ordered first first.order first ≡ true = rw (conditions.text_itself first.company, conditions.number_itself first.order, conditions.number_itself first.index) refl in
      let itself : comes_after first 0 first ≡ true = ap (λ n. is_ordered first n first) none ∙ own in
      let names : list_all (λ p. comes_after first p.0 p.1) (enumerate_from 0 es) ≡ true = run_named comes_after first es itself head run in
      let within = λ (r : EntryRecord) (it : in_many r ≡ true). (let parts = many_parts r it in inside of_many order_of many_at (λ i r. refl) (λ i r. refl) (length es) first.order r parts.0 parts.1 (omega (arith, parts.2, ends))) in
      let made = λ (i : ℤ) (r : EntryRecord) (it : in_many r ≡ true). (let parts = many_parts r it in ap (λ v. put v i r) (sum_is place first.order r.order parts.1 (omega (arith, parts.1, parts.2, ends, room)))) in
      let done = run_updated named.entries of_many order_of many_at (λ i r. refl) (λ i r. refl) many_single update_in_many update_in_many_is refl many_params in_many many_tested made
      (keeps_order in_many (λ r. place + (r.order - first.order))) first.order (length es) within old new ran t h in
      let after = after_run of_many order_of many_at (λ i r. refl) (λ i r. refl) entries_in with_entries (λ xs u. refl) (λ xs ys u. refl) (λ u. refl) mark_entry_edit (comes_after first) place first.order many_edit es 0 place first.order (omega arith) (omega arith) names t in (
        subst (λ (u : Tables). Holds desk_layout new.now u) (sym after) (holds_with named.entries _ h done.has (record { stored = done.has.stored; rise = done.rise })),
        tells_run of_many order_of many_at (λ i r. refl) (λ i r. refl) entries_in with_entries (λ xs u. refl) (λ xs ys u. refl) (λ u. refl) mark_entry_edit (comes_after first) place first.order in_many many_edit
            (λ j n i e at_key is u r found passes. record { record_of = r; found = ap (λ p. find p u.entries) (many_row j i e at_key is) ∙ found; unplaced = none_is r.place (many_parts r passes).3 }) es 0 place first.order (omega arith) (omega arith) names t done.there,
      )
