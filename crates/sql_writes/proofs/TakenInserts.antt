-- The INSERT of a file that was taken, against the records of such files.
use Rattle.std.proofs.Common.{◌≡◌, ℕ, ℤ, true, List, [], ◌∷◌, None, Ok, refl}
use Rattle.std.specs.Cmp.{IsTotalOrder}
use Rattle.std.proofs.lemmas.Bool.{and_from}
use Rattle.std.proofs.lemmas.Cmp.{on_total, nat_list_cmp_total}
use Rattle.std.proofs.lemmas.Map.Text.{is_eq-slice_cmp}
use Rattle.sqlite_tied.specs.Compute.{everything}
use Rattle.sqlite.specs.Listing.{understood}
use Rattle.sqlite.specs.State.{State, Executes}
use Rattle.sqlite_keyed.specs.Lists.{insert_sorted}
use Rattle.sqlite_schema.specs.Rules.{agree}
use Rattle.sqlite_value.specs.Keys.{first_key, plain}
use Rattle.sql_statements.specs.StoredRows.{row_of}
use Rattle.sql_statements.specs.Layouts.{Holds}
use Rattle.sql_tables.specs.ByName as named
use Rattle.sql_tables.specs.Description.{as_row, form, key_cmp, table}
use Rattle.sql_tables.specs.Schema.{desk_schema}
use Rattle.desk_history.specs.declared.operations.TakenFile.{TakenFile}
use Rattle.desk_history.specs.Intake.{has_key}
use Rattle.sql_tables.specs.Layout.{desk_layout}
use Rattle.sql_tables.specs.TableReads.{taken_in}
use Rattle.sql_tables.specs.Tables.{Tables}
use Rattle.sql_writes.proofs.Puts.{Inserts, holds_with, one_put, PutsOne}
use Rattle.sql_writes.proofs.Conditions.{text_itself, taken_first}
use Rattle.sql_writes.proofs.Keys.{find_none, key_free, put_in_order, key_text}
use Rattle.sql_writes.specs.IntakeTexts.{insert_taken}
use Rattle.sql_tables.specs.DeskTables as the

insert_taken_is : Inserts named.taken insert_taken 1
unfolding understood everything
insert_taken_is = record { is = refl; plain = (refl, refl) }

puts_taken : PutsOne named.taken
puts_taken = record { is = insert_taken_is; full = refl }

taken_total : IsTotalOrder (key_cmp the.taken)
taken_total = on_total (λ (f : TakenFile). f.key) nat_list_cmp_total

same_key : (key : List ℕ) (a b : ℤ × TakenFile) → has_key key a.1 ≡ true → has_key key b.1 ≡ true → agree plain (1 ∷ []) (row_of (form the.taken) b) (1 ∷ []) (row_of (form the.taken) a) ≡ true
unfolding first_key
same_key key a b here there = and_from _ _ (key_text a.1.key b.1.key key here there) refl

pub taken_put : (f : TakenFile) (old new : State) (count : ℕ) → Executes insert_taken (as_row the.taken f) old new (Ok count) → (t : Tables) → Holds desk_layout old.now t
    → Holds desk_layout new.now (record t { taken = insert_sorted (key_cmp the.taken) f t.taken }) × (taken_in f.key t ≡ None)
taken_put f old new count ran t h =
    let s = table the.taken in
    let made = one_put named.taken puts_taken f old new count ran t h in
    let free = key_free (form the.taken) desk_schema s (1 ∷ []) (has_key f.key) (same_key f.key) (λ db row any. taken_first _ _ any) new.now.trees f t.taken (text_itself f.key) made.has.stored made.unique in (
      (holds_with named.taken _ h made.has (put_in_order (form the.taken) (key_cmp the.taken) taken_total (has_key f.key) new.now.trees s f t.taken (λ y. is_eq-slice_cmp y.key f.key) free (h.1.stands named.taken).rise made.has.stored)),
      find_none (has_key f.key) t.taken free,
    )
