-- The INSERTs of returns, of one and of sixteen, against the records of returns.
use Rattle.std.proofs.Common.{◌≡◌, ℕ, ℤ, Bool, true, ◌&&◌, ◌==◌, List, [], ◌∷◌, ◌++◌, map, length, find, None, Ok, refl, sym, ◌∙◌, subst, bytes_eq, Ordering}
use Rattle.std.specs.List.{flat_map, enumerate_from}
use Rattle.std.specs.Ordering.{nat_cmp, on}
use Rattle.std.proofs.lemmas.Bool.{and_from, and_parts}
use Rattle.std.proofs.lemmas.List.{length-map}
use Rattle.std.proofs.lemmas.List.FromFn.{length-enumerate_from}
use Rattle.sqlite_tied.specs.Compute.{everything}
use Rattle.sqlite.specs.Listing.{understood}
use Rattle.sqlite.specs.State.{State, Executes}
use Rattle.sqlite.specs.Values.{bound}
use Rattle.sqlite_keyed.specs.Lists.{insert_sorted}
use Rattle.sqlite_schema.specs.Rules.{agree}
use Rattle.sqlite_value.specs.Keys.{first_key, plain}
use Rattle.sqlite_value.specs.declared.value.ValueRef.{ValueRef}
use Rattle.sql_statements.specs.Edits.{Edit, each_edit, each_edit_from}
use Rattle.sql_statements.specs.StoredRows.{row_of}
use Rattle.sql_statements.specs.Layouts.{Holds}
use Rattle.desk_book.specs.declared.flat_rows.ReturnedRow.{ReturnedRow}
use Rattle.sql_tables.specs.Encodes.{return_under}
use Rattle.sql_tables.specs.ByName as named
use Rattle.sql_tables.specs.Description.{as_row, form, table}
use Rattle.sql_tables.specs.Schema.{desk_schema}
use Rattle.sql_tables.specs.Layout.{desk_layout}
use Rattle.sql_tables.specs.TableEdits.{put_return_edit}
use Rattle.sql_tables.specs.TableReads.{is_return_at}
use Rattle.sql_tables.specs.Tables.{Tables}
use Rattle.sql_tables.specs.declared.records.ReturnRecord.{ReturnRecord}
use Rattle.sql_writes.proofs.ArrayLoops.{bound_rows}
use Rattle.sql_writes.proofs.Puts.{Inserts, holds_with, one_put, PutsOne, PutsSixteen, sixteen_put}
use Rattle.sql_writes.proofs.Conditions.{text_itself, number_itself, taken_first}
use Rattle.sql_writes.proofs.Keys.{find_none, few_have, key_free, key_text, key_number}
use Rattle.sql_writes.proofs.ManyFree.{free_in_turn}
use Rattle.sql_writes.proofs.ManyKeys.{all_put, AreFree}
use Rattle.sql_writes.specs.IntakeTexts.{insert_return, insert_returns}
use Rattle.sql_writes.specs.HeldRows.{held_from}
use Rattle.sql_writes.specs.ReturnRows.{held_return, stored_return}
use Rattle.sql_writes.proofs.NumberedRows.{numbered_in_order, all_in_order}
use Rattle.sql_tables.specs.DeskTables as the

insert_return_is : Inserts named.returns insert_return 1
unfolding understood everything
insert_return_is = record { is = refl; plain = (refl, refl) }

-- returns of one entry
same_entry : (c : List ℕ) (n i : ℕ) (a b : ℤ × ReturnRecord) → is_return_at c n i a.1 ≡ true → is_return_at c n i b.1 ≡ true → agree plain (2 ∷ 3 ∷ 4 ∷ []) (row_of (form the.returns) b) (2 ∷ 3 ∷ 4 ∷ []) (row_of (form the.returns) a) ≡ true
unfolding first_key
same_entry c n i a b h k =
    let x = and_parts (bytes_eq a.1.company c && (a.1.order == n)) (a.1.index == i) h in let y = and_parts (bytes_eq b.1.company c && (b.1.order == n)) (b.1.index == i) k in
    let v = and_parts (bytes_eq a.1.company c) (a.1.order == n) x.0 in let w = and_parts (bytes_eq b.1.company c) (b.1.order == n) y.0 in
    and_from _ _ (key_text a.1.company b.1.company c v.0 w.0) (and_from _ _ (key_number a.1.order b.1.order n v.1 w.1) (and_from _ _ (key_number a.1.index b.1.index i x.1 y.1) refl))

puts_return : PutsOne named.returns
puts_return = record { is = insert_return_is; full = refl }

pub return_put : (x : ReturnRecord) (old new : State) (count : ℕ) → Executes insert_return (as_row the.returns x) old new (Ok count) → (t : Tables) → Holds desk_layout old.now t
    → Holds desk_layout new.now (record t { returns = insert_sorted (on (λ r. r.number) nat_cmp) x t.returns }) × (find (is_return_at x.company x.order x.index) t.returns ≡ None)
return_put x old new count ran t h =
    let s = table the.returns in
    let test = is_return_at x.company x.order x.index in
    let made = one_put named.returns puts_return x old new count ran t h in
    let free = key_free (form the.returns) desk_schema s (2 ∷ 3 ∷ 4 ∷ []) test (same_entry x.company x.order x.index) (λ db row any. taken_first _ _ any) new.now.trees x t.returns (and_from _ _ (and_from _ _ (text_itself x.company) (number_itself x.order)) (number_itself x.index)) made.has.stored made.unique in (
      (holds_with named.returns _ h made.has (numbered_in_order (λ r. r.number) _ s new.now.trees x t.returns (h.1.stands named.returns).rise made.has.stored)),
      find_none test t.returns free,
    )

-- ---- sixteen returns

insert_returns_is : Inserts named.returns insert_returns 16
unfolding understood everything
insert_returns_is = record { is = refl; plain = (refl, refl) }

puts_sixteen : PutsSixteen named.returns
puts_sixteen = record { is = insert_returns_is; full = refl }

abbrev number_cmp : ReturnRecord → ReturnRecord → Ordering
number_cmp = on (λ r. r.number) nat_cmp

-- is it of the same entry?
abbrev is_of_entry : ReturnRecord → ReturnRecord → Bool
is_of_entry x = is_return_at x.company x.order x.index

records_put : (xs : List ReturnRecord) → length xs ≡ 16 → (old new : State) (count : ℕ) → Executes insert_returns (flat_map (as_row the.returns) xs) old new (Ok count) → (t : Tables) → Holds desk_layout old.now t
    → Holds desk_layout new.now (record t { returns = all_put number_cmp xs t.returns }) × AreFree number_cmp is_of_entry xs t.returns
records_put xs many old new count ran t h =
    let s = table the.returns in
    let made = sixteen_put named.returns puts_sixteen xs many old new count ran t h in
    let few = λ (x : ReturnRecord). few_have (form the.returns) desk_schema s (2 ∷ 3 ∷ 4 ∷ []) (is_of_entry x) (same_entry x.company x.order x.index) (λ db row any. taken_first _ _ any) new.now.trees (xs ++ t.returns) made.has.stored made.unique in
    let free = free_in_turn number_cmp is_of_entry (λ x. and_from _ _ (and_from _ _ (text_itself x.company) (number_itself x.order)) (number_itself x.index)) xs t.returns few in (
      (holds_with named.returns _ h made.has (all_in_order (λ r. r.number) _ s new.now.trees xs t.returns (h.1.stands named.returns).rise made.has.stored)),
      free,
    )

-- the record of a return under its number
abbrev pub numbered_return : ℕ × ReturnedRow → ReturnRecord
numbered_return p = return_under p.0 p.1

abbrev numbered_edit : ℕ × ReturnedRow → Edit Tables
numbered_edit p = put_return_edit p.0 p.1

each_put : (ps : List (ℕ × ReturnedRow)) (t : Tables) → AreFree number_cmp is_of_entry (map numbered_return ps) t.returns
    → ((each_edit numbered_edit ps).after t ≡ record t { returns = all_put number_cmp (map numbered_return ps) t.returns }) × (each_edit numbered_edit ps).Tells t
each_put [] t free = (refl, tt)
each_put (p ∷ ps) t free =
    let more = each_put ps (record t { returns = insert_sorted number_cmp (numbered_return p) t.returns }) free.1 in
    (more.0, (find_none (is_of_entry (numbered_return p)) t.returns free.0, more.1))

-- it is as if each return had been put in by a statement of its own
pub returns_put : (first : ℕ) (xs : List ReturnedRow) → length xs ≡ 16 → (old new : State) (count : ℕ) → Executes insert_returns (flat_map (as_row the.returns) (map numbered_return (enumerate_from first xs))) old new (Ok count)
    → (t : Tables) → Holds desk_layout old.now t → Holds desk_layout new.now ((each_edit_from put_return_edit first xs).after t) × (each_edit_from put_return_edit first xs).Tells t
returns_put first xs many old new count ran t h =
    let ps = enumerate_from first xs in
    let put = records_put (map numbered_return ps) (length-map ps numbered_return ∙ length-enumerate_from first xs ∙ many) old new count ran t h in
    let each = each_put ps t put.1 in
    (subst (Holds desk_layout new.now) (sym each.0) put.0, each.1)

-- the parameters of the statement
pub bound_returns : (first : ℕ) (xs : List ReturnedRow) (vs : List (List ValueRef)) → map bound vs ≡ map stored_return (held_from held_return first xs) → bound (flat_map (λ v. v) vs) ≡ flat_map (as_row the.returns) (map numbered_return (enumerate_from first xs))
bound_returns first xs = bound_rows stored_return (λ p. held_return p.0 p.1) (as_row the.returns) numbered_return (λ p. refl) (enumerate_from first xs)
