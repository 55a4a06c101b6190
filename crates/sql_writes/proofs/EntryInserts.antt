-- The INSERT of sixteen entries, against their records.
use Rattle.std.proofs.Common.{◌≡◌, ◌+◌, ℕ, suc, Bool, List, [], ◌∷◌, ◌++◌, map, length, None, Ok, refl, sym, ap, ◌∙◌, subst}
use Rattle.std.specs.List.{flat_map, enumerate_from}
use Rattle.std.proofs.lemmas.List.{length-map}
use Rattle.sqlite_tied.specs.Compute.{everything}
use Rattle.sqlite.specs.Listing.{understood}
use Rattle.sqlite.specs.State.{State, Executes}
use Rattle.sqlite.specs.Values.{bound}
use Rattle.sqlite_keyed.specs.Lists.{insert_sorted}
use Rattle.sqlite_value.specs.declared.value.ValueRef.{ValueRef}
use Rattle.sql_statements.proofs.StoredRows.{stores_in}
use Rattle.sql_statements.specs.Edits.{Edit, each_edit, each_edit_from}
use Rattle.sql_statements.specs.Layouts.{Holds}
use Rattle.desk_rules.specs.declared.bodies.submission.Entry.{Entry}
use Rattle.sql_tables.specs.ByName as named
use Rattle.sql_tables.specs.Description.{as_row, form, key_cmp, table}
use Rattle.sql_tables.specs.CutTables.{is_entry_row}
use Rattle.sql_tables.specs.Layout.{desk_layout}
use Rattle.sql_tables.specs.Schema.{desk_schema}
use Rattle.sql_tables.specs.TableEdits.{put_entry_edit}
use Rattle.sql_tables.specs.Tables.{Tables}
use Rattle.sql_tables.specs.declared.records.EntryRecord.{EntryRecord}
use Rattle.sql_writes.proofs.Puts.{Inserts, holds_with, PutsSixteen, sixteen_put}
use Rattle.sql_writes.specs.EntryEdits.{held_entry, stored_entry}
use Rattle.sql_writes.specs.HeldRows.{held_from}
use Rattle.sql_writes.specs.Texts.{insert_entries}
use Rattle.sql_writes.proofs.ArrayLoops.{bound_rows}
use Rattle.sql_writes.proofs.Conditions.{taken_first}
use Rattle.sql_writes.proofs.Keys.{find_none, few_have}
use Rattle.sql_writes.proofs.ManyKeys.{all_put, AreFree, put_in_turn}
use Rattle.sql_writes.proofs.SubmissionRows.{entry_total, same_entry, same_entry_key, entry_itself}
use Rattle.sql_tables.specs.DeskTables as the

insert_entries_is : Inserts named.entries insert_entries 16
unfolding understood everything
insert_entries_is = record { is = refl; plain = (refl, refl) }

puts_sixteen : PutsSixteen named.entries
puts_sixteen = record { is = insert_entries_is; full = refl }

abbrev has_key_of : EntryRecord → EntryRecord → Bool
has_key_of x = is_entry_row x.company x.order x.index

records_put : (xs : List EntryRecord) → length xs ≡ 16 → (old new : State) (count : ℕ) → Executes insert_entries (flat_map (as_row the.entries) xs) old new (Ok count) → (t : Tables) → Holds desk_layout old.now t
    → Holds desk_layout new.now (record t { entries = all_put (key_cmp the.entries) xs t.entries }) × AreFree (key_cmp the.entries) has_key_of xs t.entries
records_put xs many old new count ran t h =
    let s = table the.entries in
    let made = sixteen_put named.entries puts_sixteen xs many old new count ran t h in
    let few = λ (x : EntryRecord). few_have (form the.entries) desk_schema s (1 ∷ 2 ∷ 3 ∷ []) (has_key_of x) (same_entry x.company x.order x.index) (λ db row any. taken_first _ _ any) new.now.trees (xs ++ t.entries) made.has.stored made.unique in
    let put = put_in_turn (key_cmp the.entries) has_key_of entry_total same_entry_key entry_itself xs t.entries few (h.1.stands named.entries).rise in (
      (holds_with named.entries _ h made.has (record { stored = stores_in (form the.entries) _ _ _ put.0 made.has.stored; rise = put.1 })),
      put.2,
    )

-- ---- entries that are numbered on

module _ (company : List ℕ) (order : ℕ) where
  -- the record of an entry under its number; it was not sent
  abbrev pub numbered_record : ℕ × Entry → EntryRecord
  numbered_record p = record { company = company; order = order; index = p.0; entry = p.1; place = None }

  abbrev numbered_edit : ℕ × Entry → Edit Tables
  numbered_edit p = put_entry_edit company order p.0 p.1

  each_put : (ps : List (ℕ × Entry)) (t : Tables) → AreFree (key_cmp the.entries) has_key_of (map numbered_record ps) t.entries
      → ((each_edit numbered_edit ps).after t ≡ record t { entries = all_put (key_cmp the.entries) (map numbered_record ps) t.entries }) × (each_edit numbered_edit ps).Tells t
  each_put [] t free = (refl, tt)
  each_put (p ∷ ps) t free =
      let more = each_put ps (record t { entries = insert_sorted (key_cmp the.entries) (numbered_record p) t.entries }) free.1 in
      (more.0, (find_none (has_key_of (numbered_record p)) t.entries free.0, more.1))

  -- it is as if each entry had been put in by a statement of its own
  pub entries_put : (first : ℕ) (es : List Entry) → length es ≡ 16 → (old new : State) (count : ℕ) → Executes insert_entries (flat_map (as_row the.entries) (map numbered_record (enumerate_from first es))) old new (Ok count)
      → (t : Tables) → Holds desk_layout old.now t → Holds desk_layout new.now ((each_edit_from (put_entry_edit company order) first es).after t) × (each_edit_from (put_entry_edit company order) first es).Tells t
  entries_put first es many old new count ran t h =
      let ps = enumerate_from first es in
      let put = records_put (map numbered_record ps) (length-map ps numbered_record ∙ counted first es ∙ many) old new count ran t h in
      let each = each_put ps t put.1 in
      (subst (Holds desk_layout new.now) (sym each.0) put.0, each.1)
    where
      counted : (first : ℕ) (es : List Entry) → length (enumerate_from first es) ≡ length es
      counted first [] = refl
      counted first (e ∷ es) = ap suc (counted (first + 1) es)

  -- ---- the parameters of a statement of many rows

  pub bound_entries : (first : ℕ) (es : List Entry) (vs : List (List ValueRef)) → map bound vs ≡ map stored_entry (held_from (held_entry company order) first es)
      → bound (flat_map (λ v. v) vs) ≡ flat_map (as_row the.entries) (map numbered_record (enumerate_from first es))
  bound_entries first es = bound_rows stored_entry (λ p. held_entry company order p.0 p.1) (as_row the.entries) numbered_record (λ p. refl) (enumerate_from first es)
