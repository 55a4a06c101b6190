-- The statements that put in lines, one and sixteen, against the records of lines.
use Rattle.std.proofs.Common.{◌≡◌, ℕ, List, [], ◌∷◌, map, length, Ok, refl, sym, ◌∙◌, subst, Ordering}
use Rattle.std.specs.List.{flat_map, enumerate_from}
use Rattle.std.proofs.lemmas.List.{length-map}
use Rattle.std.proofs.lemmas.List.FromFn.{length-enumerate_from}
use Rattle.std.specs.Ordering.{nat_cmp, on}
use Rattle.sqlite_tied.specs.Compute.{everything}
use Rattle.sqlite.specs.Listing.{understood}
use Rattle.sqlite.specs.State.{State, Executes}
use Rattle.sqlite.specs.Values.{bound}
use Rattle.sqlite_keyed.specs.Lists.{insert_sorted}
use Rattle.sqlite_value.specs.declared.value.ValueRef.{ValueRef}
use Rattle.sql_statements.specs.Edits.{Edit, each_edit, each_edit_from}
use Rattle.sql_statements.specs.Layouts.{Holds}
use Rattle.desk_accounts.specs.declared.posting.Posting.{Posting}
use Rattle.sql_tables.specs.ByName as named
use Rattle.sql_tables.specs.Description.{table, as_row}
use Rattle.sql_tables.specs.Layout.{desk_layout}
use Rattle.sql_tables.specs.Tables.{Tables}
use Rattle.sql_tables.specs.declared.records.PostingRecord.{PostingRecord}
use Rattle.sql_writes.proofs.Puts.{Inserts, holds_with, one_put, PutsOne, PutsSixteen, sixteen_put}
use Rattle.sql_writes.proofs.ArrayLoops.{bound_rows}
use Rattle.sql_writes.proofs.ManyKeys.{all_put}
use Rattle.sql_writes.proofs.NumberedRows.{numbered_in_order, all_in_order}
use Rattle.sql_writes.specs.LineEdits.{put_posting_edit}
use Rattle.sql_writes.specs.HeldRows.{held_from}
use Rattle.sql_writes.specs.LineRows.{held_line, stored_line}
use Rattle.sql_writes.specs.LineTexts.{insert_posting, insert_postings}
use Rattle.sql_tables.specs.DeskTables as the

insert_posting_is : Inserts named.postings insert_posting 1
unfolding understood everything
insert_posting_is = record { is = refl; plain = (refl, refl) }

puts_posting : PutsOne named.postings
puts_posting = record { is = insert_posting_is; full = refl }

pub posting_put : (p : PostingRecord) (old new : State) (count : ℕ) → Executes insert_posting (as_row the.postings p) old new (Ok count) → (t : Tables) → Holds desk_layout old.now t
    → Holds desk_layout new.now (record t { postings = insert_sorted (on (λ x. x.number) nat_cmp) p t.postings })
posting_put p old new count ran t h =
    let s = table the.postings in
    let made = one_put named.postings puts_posting p old new count ran t h in
    (holds_with named.postings _ h made.has (numbered_in_order (λ y. y.number) _ s new.now.trees p t.postings (h.1.stands named.postings).rise made.has.stored))

-- ---- sixteen lines

insert_postings_is : Inserts named.postings insert_postings 16
unfolding understood everything
insert_postings_is = record { is = refl; plain = (refl, refl) }

puts_sixteen : PutsSixteen named.postings
puts_sixteen = record { is = insert_postings_is; full = refl }

abbrev line_cmp : PostingRecord → PostingRecord → Ordering
line_cmp = on (λ x. x.number) nat_cmp

records_put : (xs : List PostingRecord) → length xs ≡ 16 → (old new : State) (count : ℕ) → Executes insert_postings (flat_map (as_row the.postings) xs) old new (Ok count) → (t : Tables) → Holds desk_layout old.now t
    → Holds desk_layout new.now (record t { postings = all_put line_cmp xs t.postings })
records_put xs many old new count ran t h =
    let s = table the.postings in
    let made = sixteen_put named.postings puts_sixteen xs many old new count ran t h in
    (holds_with named.postings _ h made.has (all_in_order (λ y. y.number) _ s new.now.trees xs t.postings (h.1.stands named.postings).rise made.has.stored))

-- the record of a line under its number
abbrev pub numbered_line : ℕ × Posting → PostingRecord
numbered_line p = record { number = p.0; posting = p.1 }

abbrev numbered_edit : ℕ × Posting → Edit Tables
numbered_edit p = put_posting_edit p.0 p.1

each_put : (ps : List (ℕ × Posting)) (t : Tables) → ((each_edit numbered_edit ps).after t ≡ record t { postings = all_put line_cmp (map numbered_line ps) t.postings }) × (each_edit numbered_edit ps).Tells t
each_put [] t = (refl, tt)
each_put (p ∷ ps) t = let more = each_put ps (record t { postings = insert_sorted line_cmp (numbered_line p) t.postings }) in (more.0, (tt, more.1))

-- it is as if each line had been put in by a statement of its own
pub postings_put : (first : ℕ) (lines : List Posting) → length lines ≡ 16 → (old new : State) (count : ℕ) → Executes insert_postings (flat_map (as_row the.postings) (map numbered_line (enumerate_from first lines))) old new (Ok count)
    → (t : Tables) → Holds desk_layout old.now t → Holds desk_layout new.now ((each_edit_from put_posting_edit first lines).after t) × (each_edit_from put_posting_edit first lines).Tells t
postings_put first lines many old new count ran t h =
    let ps = enumerate_from first lines in
    let put = records_put (map numbered_line ps) (length-map ps numbered_line ∙ length-enumerate_from first lines ∙ many) old new count ran t h in
    let each = each_put ps t in
    (subst (Holds desk_layout new.now) (sym each.0) put, each.1)

-- the parameters of the statement
pub bound_lines : (first : ℕ) (lines : List Posting) (vs : List (List ValueRef)) → map bound vs ≡ map stored_line (held_from held_line first lines) → bound (flat_map (λ v. v) vs) ≡ flat_map (as_row the.postings) (map numbered_line (enumerate_from first lines))
bound_lines first lines = bound_rows stored_line (λ p. held_line p.0 p.1) (as_row the.postings) numbered_line (λ p. refl) (enumerate_from first lines)
