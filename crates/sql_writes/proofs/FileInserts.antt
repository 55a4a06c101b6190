-- The statement of a cut that keeps a file, against the records of files.
use Rattle.std.proofs.Common.{◌≡◌, ℕ, ℤ, true, ◌&&◌, ◌==◌, [], ◌∷◌, find, None, Ok, refl, ap₂, ◌∙◌}
use Rattle.std.specs.Cmp.{IsTotalOrder}
use Rattle.std.specs.Ordering.{nat_cmp}
use Rattle.std.proofs.lemmas.Bool.{and_parts, and_from}
use Rattle.std.proofs.lemmas.Cmp.{on_total, then_total, nat_cmp_total}
use Rattle.sqlite_tied.specs.Compute.{everything}
use Rattle.sqlite.specs.Listing.{understood}
use Rattle.sqlite.specs.State.{State, Executes}
use Rattle.sqlite_keyed.specs.Lists.{insert_sorted}
use Rattle.sqlite_schema.specs.Rules.{agree}
use Rattle.sqlite_value.specs.Keys.{first_key, plain}
use Rattle.sql_statements.specs.StoredRows.{row_of}
use Rattle.sql_statements.specs.Layouts.{Holds}
use Rattle.sql_tables.specs.ByName as named
use Rattle.sql_tables.specs.Description.{as_row, form, key_cmp, table}
use Rattle.sql_tables.specs.Schema.{desk_schema}
use Rattle.desk_book.specs.declared.flat_rows.FileRow.{FileRow}
use Rattle.desk_book.specs.Steps.{is_file}
use Rattle.sql_tables.specs.Layout.{desk_layout}
use Rattle.sql_tables.specs.Tables.{Tables}
use Rattle.sql_writes.proofs.Puts.{Inserts, holds_with, one_put, PutsOne}
use Rattle.sql_writes.proofs.Conditions.{number_itself, equal_numbers, equal_both, taken_first}
use Rattle.sql_writes.proofs.Keys.{find_none, key_free, key_letter, key_number, put_in_order}
use Rattle.sql_writes.specs.CutTexts.{insert_file}
use Rattle.sql_tables.specs.DeskTables as the

insert_file_is : Inserts named.files insert_file 1
unfolding understood everything
insert_file_is = record { is = refl; plain = (refl, refl) }

puts_file : PutsOne named.files
puts_file = record { is = insert_file_is; full = refl }

file_total : IsTotalOrder (key_cmp the.files)
file_total = then_total (on_total (λ (f : FileRow). f.day) nat_cmp_total) (on_total (λ (f : FileRow). f.modifier) nat_cmp_total)

same_file : (day modifier : ℕ) (a b : ℤ × FileRow) → is_file day modifier a.1 ≡ true → is_file day modifier b.1 ≡ true → agree plain (1 ∷ 2 ∷ []) (row_of (form the.files) b) (1 ∷ 2 ∷ []) (row_of (form the.files) a) ≡ true
unfolding first_key
same_file day modifier a b here there =
    let x = and_parts (a.1.day == day) (a.1.modifier == modifier) here in
    let y = and_parts (b.1.day == day) (b.1.modifier == modifier) there in
    and_from _ _ (key_number a.1.day b.1.day day x.0 y.0) (and_from _ _ (key_letter a.1.modifier b.1.modifier modifier x.1 y.1) refl)

pub file_put : (f : FileRow) (old new : State) (count : ℕ) → Executes insert_file (as_row the.files f) old new (Ok count) → (t : Tables) → Holds desk_layout old.now t
    → Holds desk_layout new.now (record t { files = insert_sorted (key_cmp the.files) f t.files }) × (find (is_file f.day f.modifier) t.files ≡ None)
file_put f old new count ran t h =
    let s = table the.files in
    let test = is_file f.day f.modifier in
    let made = one_put named.files puts_file f old new count ran t h in
    let free = key_free (form the.files) desk_schema s (1 ∷ 2 ∷ []) test (same_file f.day f.modifier) (λ db row any. taken_first _ _ any) new.now.trees f t.files (and_from _ _ (number_itself f.day) (number_itself f.modifier)) made.has.stored made.unique in
    let same = λ (g : FileRow). equal_both (nat_cmp g.day f.day) (nat_cmp g.modifier f.modifier) ∙ ap₂ (λ p q. p && q) (equal_numbers g.day f.day) (equal_numbers g.modifier f.modifier) in (
      holds_with named.files _ h made.has (put_in_order (form the.files) (key_cmp the.files) file_total test new.now.trees s f t.files same free (h.1.stands named.files).rise made.has.stored),
      find_none test t.files free,
    )
