-- A cut takes out the numbers of a range of sequences and puts in the new ones: that is each given its place.
use Rattle.std.proofs.Common.{◌≡◌, ◌≤◌, ◌+◌, ◌==◌, ℕ, suc, ℤ, pos, Bool, true, false, not, ◌&&◌, cond, List, [], ◌∷◌, map, length, slice_get, Some, Ok, refl, sym, ap, ◌∙◌, subst, arith, is_ge, is_le, int_cmp, nat_le}
use Rattle.std.specs.List.{enumerate_from, flat_map, list_all}
use Rattle.std.proofs.lemmas.Bool.{and_parts, and_from}
use Rattle.std.proofs.lemmas.Int.{ints}
use Rattle.std.proofs.lemmas.List.{length-map}
use Rattle.ach_fields.specs.Trace.{most_sequence}
use Rattle.sqlite_tied.specs.Compute.{everything}
use Rattle.sqlite.specs.Listing.{understood}
use Rattle.sqlite.specs.State.{State, Executes}
use Rattle.sqlite.specs.Values.{bound}
use Rattle.sqlite_keyed.specs.Lists.{insert_sorted, delete_where}
use Rattle.sqlite_sql.specs.Term.{holds}
use Rattle.sqlite_value.specs.declared.value.ValueRef.{ValueRef}
use Rattle.sql_statements.specs.Edits.{each_edit, each_edit_from}
use Rattle.sql_statements.specs.Layouts.{Holds}
use Rattle.sql_statements.specs.StoredRows.{row_of}
use Rattle.sql_statements.proofs.Conditions.{int_least, int_most, and_true}
use Rattle.desk_history.specs.declared.sent_entry.SentEntry.{SentEntry}
use Rattle.sql_tables.specs.ByName as named
use Rattle.sql_tables.specs.Description.{as_row, form, key_cmp, table}
use Rattle.sql_tables.specs.Columns.{number}
use Rattle.sql_tables.specs.CutTables.{has_sequence, with_number}
use Rattle.sql_tables.specs.KeyOrders.{IsInOrder}
use Rattle.sql_tables.specs.Layout.{desk_layout}
use Rattle.sql_tables.specs.Tables.{Tables}
use Rattle.sql_tables.specs.declared.records.NumberRecord.{NumberRecord}
use Rattle.sql_writes.proofs.Puts.{Inserts, holds_with, IsDeleteOf, one_put, PutsOne, PutsSixteen, rows_deleted, sixteen_put}
use Rattle.sql_writes.proofs.Conditions.{number_itself, same_number}
use Rattle.sql_writes.proofs.ArrayLoops.{bound_rows}
use Rattle.sql_writes.proofs.ManyKeys.{all_put}
use Rattle.sql_writes.proofs.NumberedRows.{numbered_in_order, all_in_order}
use Rattle.sql_writes.proofs.RangePuts.{put_is, in_range, range_is, range_has, range_put, rises_put, rises_kept, none_gone}
use Rattle.sql_writes.specs.CutTexts.{delete_numbers, insert_number, insert_numbers}
use Rattle.sql_writes.specs.HeldRows.{held_from}
use Rattle.sql_writes.specs.NumberRows.{held_number, stored_number}
use Rattle.sql_writes.specs.PlaceEdits.{put_number_edit, is_within, clear_numbers_edit, number_record, numbers_from, insert_number_edit, follows_in_sequence}
use Rattle.sql_writes.specs.Runs.{is_run}
use Rattle.sql_tables.specs.DeskTables as the

-- ---- the statements

least_is : (a b : ℕ) → is_ge (int_cmp (pos a) (pos b)) ≡ nat_le b a
least_is a b = grind (arith, ints)

most_is : (a b : ℕ) → is_le (int_cmp (pos a) (pos b)) ≡ nat_le a b
most_is a b = grind (arith, ints)

delete_numbers_is : IsDeleteOf named.numbers delete_numbers
unfolding understood everything
delete_numbers_is = record { is = record { deletes = refl; body = refl; alone = refl; plain = (refl, refl) } }

insert_number_is : Inserts named.numbers insert_number 1
unfolding understood everything
insert_number_is = record { is = refl; plain = (refl, refl) }

puts_number : PutsOne named.numbers
puts_number = record { is = insert_number_is; full = refl }

insert_numbers_is : Inserts named.numbers insert_numbers 16
unfolding understood everything
insert_numbers_is = record { is = refl; plain = (refl, refl) }

puts_sixteen : PutsSixteen named.numbers
puts_sixteen = record { is = insert_numbers_is; full = refl }

pub numbers_cleared : (from to : ℕ) (old new : State) (count : ℕ) → Executes delete_numbers.text (number from ∷ number to ∷ []) old new (Ok count) → (t : Tables) → Holds desk_layout old.now t
    → Holds desk_layout new.now ((clear_numbers_edit from to).after t) × (clear_numbers_edit from to).Tells t
numbers_cleared from to old new count ran t h =
    let made = rows_deleted named.numbers delete_numbers (number from ∷ number to ∷ []) (is_within from to) tested old new count ran t h delete_numbers_is in (
      holds_with named.numbers _ h made (record { stored = made.stored; rise = rises_kept (λ (n : NumberRecord). n.sequence) (is_within from to) t.numbers (h.1.stands named.numbers).rise }),
      (h.1.stands named.numbers).rise,
    )
  where
    tested : (i : ℤ) (n : NumberRecord) → list_all (holds ((number from ∷ number to ∷ []) ∷ row_of (form the.sequences) (i, n) ∷ [])) delete_numbers.tests ≡ is_within from to n
    tested i n =
        let a = int_least (pos n.sequence) (pos from) ∙ least_is n.sequence from in
        let b = and_true _ ∙ int_most (pos n.sequence) (pos to) ∙ most_is n.sequence to in
        λ j. a j && b j

pub number_inserted : (n : NumberRecord) (old new : State) (count : ℕ) → Executes insert_number (as_row the.sequences n) old new (Ok count) → (t : Tables) → Holds desk_layout old.now t
    → Holds desk_layout new.now (record t { numbers = insert_sorted (key_cmp the.sequences) n t.numbers })
number_inserted n old new count ran t h =
    let made = one_put named.numbers puts_number n old new count ran t h in
    holds_with named.numbers _ h made.has (numbered_in_order (λ (m : NumberRecord). m.sequence) _ (table the.sequences) new.now.trees n t.numbers (h.1.stands named.numbers).rise made.has.stored)

pub records_inserted : (xs : List NumberRecord) → length xs ≡ 16 → (old new : State) (count : ℕ) → Executes insert_numbers (flat_map (as_row the.sequences) xs) old new (Ok count) → (t : Tables) → Holds desk_layout old.now t
    → Holds desk_layout new.now (record t { numbers = all_put (key_cmp the.sequences) xs t.numbers })
records_inserted xs many old new count ran t h =
    let made = sixteen_put named.numbers puts_sixteen xs many old new count ran t h in
    holds_with named.numbers _ h made.has (all_in_order (λ (m : NumberRecord). m.sequence) _ (table the.sequences) new.now.trees xs t.numbers (h.1.stands named.numbers).rise made.has.stored)

-- ---- each of them

inserts_after : (ps : List (ℕ × SentEntry)) (t : Tables) → (each_edit (λ p. insert_number_edit p.0 p.1) ps).after t ≡ record t { numbers = all_put (key_cmp the.sequences) (map (λ p. number_record p.0 p.1) ps) t.numbers }
inserts_after [] t = refl
inserts_after (p ∷ ps) t = inserts_after ps (record t { numbers = insert_sorted (key_cmp the.sequences) (number_record p.0 p.1) t.numbers })

inserts_tell : (ps : List (ℕ × SentEntry)) (t : Tables) → (each_edit (λ p. insert_number_edit p.0 p.1) ps).Tells t
inserts_tell [] t = tt
inserts_tell (p ∷ ps) t = (tt, inserts_tell ps (record t { numbers = insert_sorted (key_cmp the.sequences) (number_record p.0 p.1) t.numbers }))

-- it is as if each number had been put in by a statement of its own
pub numbers_inserted : (first : ℕ) (es : List SentEntry) → length es ≡ 16 → (old new : State) (count : ℕ) → Executes insert_numbers (flat_map (as_row the.sequences) (numbers_from first es)) old new (Ok count)
    → (t : Tables) → Holds desk_layout old.now t → Holds desk_layout new.now ((each_edit_from insert_number_edit first es).after t) × (each_edit_from insert_number_edit first es).Tells t
numbers_inserted first es many old new count ran t h =
    let ps = enumerate_from first es in (
      subst (Holds desk_layout new.now) (sym (inserts_after ps t)) (records_inserted (numbers_from first es) (length-map ps (λ p. number_record p.0 p.1) ∙ counted first es ∙ many) old new count ran t h),
      inserts_tell ps t,
    )
  where
    counted : (first : ℕ) (es : List SentEntry) → length (enumerate_from first es) ≡ length es
    counted first [] = refl
    counted first (e ∷ es) = ap suc (counted (first + 1) es)

pub bound_numbers : (first : ℕ) (es : List SentEntry) (vs : List (List ValueRef)) → map bound vs ≡ map stored_number (held_from held_number first es) → bound (flat_map (λ v. v) vs) ≡ flat_map (as_row the.sequences) (numbers_from first es)
bound_numbers first es = bound_rows stored_number (λ p. held_number p.0 p.1) (as_row the.sequences) (λ p. number_record p.0 p.1) (λ p. refl) (enumerate_from first es)

-- ---- the law

abbrev sequence_of : NumberRecord → ℕ
sequence_of n = n.sequence

abbrev counts : ℕ → List SentEntry → Bool
counts i es = list_all (λ (p : ℕ × SentEntry). p.1.sequence == p.0) (enumerate_from i es)

with_is_put : (s n : ℕ) (xs : List NumberRecord) → IsInOrder (key_cmp the.sequences) xs → with_number s n xs ≡ insert_sorted (key_cmp the.sequences) (record { sequence = s; place = n }) (delete_where (has_sequence s) xs)
with_is_put s n xs up = put_is sequence_of (record { sequence = s; place = n }) (λ m. record m { place = n }) (λ m has. ap (λ k. record { sequence = k; place = n }) (same_number m.sequence s has)) xs up

puts_are : (es : List SentEntry) (i n : ℕ) (t : Tables) → counts i es ≡ true → IsInOrder (key_cmp the.sequences) t.numbers
    → (each_edit_from put_number_edit n es).after t ≡ record t { numbers = all_put (key_cmp the.sequences) (numbers_from n es) (delete_where (in_range sequence_of i (length es)) t.numbers) }
puts_are [] i n t all up = ap (λ xs. record t { numbers = xs }) (sym (none_gone sequence_of t.numbers))
puts_are (e ∷ es) i n t all up =
    let parts = and_parts (e.sequence == i) (counts (i + 1) es) all in
    let is = same_number e.sequence i parts.0 in
    let new = number_record n e in
    let put : with_number e.sequence n t.numbers ≡ insert_sorted (key_cmp the.sequences) new (delete_where (has_sequence i) t.numbers) =
    with_is_put e.sequence n t.numbers up ∙ ap (λ k. insert_sorted (key_cmp the.sequences) new (delete_where (has_sequence k) t.numbers)) is in
    let rises = subst (IsInOrder (key_cmp the.sequences)) (sym put) (rises_put sequence_of i new t.numbers is up) in
    puts_are es (i + 1) (n + 1) (record t { numbers = with_number e.sequence n t.numbers }) parts.1 rises
    ∙ ap (λ xs. record t { numbers = all_put (key_cmp the.sequences) (numbers_from (n + 1) es) xs })
    (ap (delete_where (in_range sequence_of (i + 1) (length es))) put ∙ range_put sequence_of (length es) i new t.numbers is up)

puts_tell : (es : List SentEntry) (i n : ℕ) (t : Tables) → counts i es ≡ true → 1 ≤ i → i + length es ≤ most_sequence + 1 → (each_edit_from put_number_edit n es).Tells t
puts_tell [] i n t all low up = tt
puts_tell (e ∷ es) i n t all low up =
    let parts = and_parts (e.sequence == i) (counts (i + 1) es) all in
    let is = same_number e.sequence i parts.0 in
    ((omega (arith, is, low), omega (arith, is, up)), puts_tell es (i + 1) (n + 1) (record t { numbers = with_number e.sequence n t.numbers }) parts.1 (omega (arith, low)) (omega (arith, up)))

deletes_agree : (p q : NumberRecord → Bool) → ((x : NumberRecord) → p x ≡ q x) → (xs : List NumberRecord) → delete_where p xs ≡ delete_where q xs
deletes_agree p q same [] = refl
deletes_agree p q same (x ∷ xs) = λ i. cond (not (same x i)) (x ∷ deletes_agree p q same xs i) (deletes_agree p q same xs i)

within_is : (from to many : ℕ) → to + 1 ≡ from + many → (x : NumberRecord) → is_within from to x ≡ in_range sequence_of from many x
within_is from to many ends x = both (is_within from to x) (in_range sequence_of from many x) refl refl
  where
    least : (a b : ℕ) → nat_le a b ≡ true → a ≤ b
    least a b e = grind (arith, e)

    is_least : (a b : ℕ) → a ≤ b → nat_le a b ≡ true
    is_least a b l = grind (arith, l)

    both : (p q : Bool) → is_within from to x ≡ p → in_range sequence_of from many x ≡ q → p ≡ q
    both true true e f = refl
    both false false e f = refl
    both true false e f =
        let parts = and_parts (nat_le from x.sequence) (nat_le x.sequence to) e in
        sym (range_has sequence_of many from x (least from x.sequence parts.0) (let l = least x.sequence to parts.1 in omega (arith, l, ends))) ∙ f
    both false true e f =
        let l = range_is sequence_of many from x f in
        sym e ∙ and_from _ _ (is_least from x.sequence l.0) (is_least x.sequence to (let m = l.1 in omega (arith, m, ends)))

-- the sequences of a run count on from that of the first
run_counts : (first : SentEntry) (es : List SentEntry) → slice_get es 0 ≡ Some first → is_run follows_in_sequence es ≡ true → counts first.sequence es ≡ true
run_counts first [] head run = cc
run_counts first (e ∷ es) head run =
    let same : e ≡ first = one_value e first head in
    and_from _ _ (subst (λ (x : SentEntry). (x.sequence == first.sequence) ≡ true) (sym same) (number_itself first.sequence))
    (shifted es 1 (first.sequence + 1) refl (subst (λ (x : SentEntry). list_all (λ p. follows_in_sequence x p.0 p.1) (enumerate_from 1 es) ≡ true) same run))
  where
    one_value : (a b : SentEntry) → Some a ≡ Some b → a ≡ b
    one_value a b e = cc

    shifted : (es : List SentEntry) (k j : ℕ) → j ≡ first.sequence + k → list_all (λ p. follows_in_sequence first p.0 p.1) (enumerate_from k es) ≡ true → counts j es ≡ true
    shifted [] k j at all = refl
    shifted (x ∷ xs) k j at all =
        let parts = and_parts (follows_in_sequence first k x) (list_all (λ p. follows_in_sequence first p.0 p.1) (enumerate_from (k + 1) xs)) all in
        and_from _ _ (ap (λ n. x.sequence == n) at ∙ parts.0) (shifted xs (k + 1) (j + 1) (omega (arith, at)) parts.1)

pub numbers_renewed : (first : SentEntry) (es : List SentEntry) (to n : ℕ) → slice_get es 0 ≡ Some first → is_run follows_in_sequence es ≡ true → to + 1 ≡ first.sequence + length es → 1 ≤ first.sequence → to ≤ most_sequence
    → (t : Tables) → (clear_numbers_edit first.sequence to).Tells t → (each_edit_from insert_number_edit n es).Tells ((clear_numbers_edit first.sequence to).after t)
    → ((each_edit_from put_number_edit n es).after t ≡ (each_edit_from insert_number_edit n es).after ((clear_numbers_edit first.sequence to).after t)) × (each_edit_from put_number_edit n es).Tells t
numbers_renewed first es to n head run ends low up t rises told =
    let names = run_counts first es head run in
    let cleared = (clear_numbers_edit first.sequence to).after t in
    let same = deletes_agree (is_within first.sequence to) (in_range sequence_of first.sequence (length es)) (within_is first.sequence to (length es) ends) t.numbers in (
      puts_are es first.sequence n t names rises ∙ sym (inserts_after (enumerate_from n es) cleared ∙ ap (λ xs. record t { numbers = all_put (key_cmp the.sequences) (numbers_from n es) xs }) same),
      puts_tell es first.sequence n t names low (omega (arith, ends, up)),
    )
