-- The INSERTs of a submission, its entries and its authorization, against their records.
use Rattle.std.proofs.Common.{◌≡◌, ℕ, ℤ, true, ◌&&◌, ◌==◌, List, [], ◌∷◌, find, None, Ok, refl, ◌∙◌, bytes_eq, is_eq}
use Rattle.std.specs.Cmp.{IsTotalOrder}
use Rattle.std.proofs.lemmas.Bool.{and_from, and_parts}
use Rattle.std.proofs.lemmas.Cmp.{on_total, then_total, nat_list_cmp_total, nat_cmp_total}
use Rattle.std.proofs.lemmas.Map.Text.{is_eq-slice_cmp}
use Rattle.sqlite_tied.specs.Compute.{everything}
use Rattle.sqlite.specs.Listing.{understood}
use Rattle.sqlite.specs.State.{State, Executes}
use Rattle.sqlite_keyed.specs.Lists.{insert_sorted}
use Rattle.sqlite_schema.specs.Rules.{agree}
use Rattle.sqlite_value.specs.Keys.{first_key, plain}
use Rattle.sql_statements.specs.StoredRows.{row_of}
use Rattle.sql_statements.specs.Layouts.{Holds}
use Rattle.sql_tables.specs.ByName as named
use Rattle.sql_tables.specs.Description.{as_row, form, key_cmp, table}
use Rattle.sql_tables.specs.Schema.{desk_schema}
use Rattle.sql_tables.specs.Layout.{desk_layout}
use Rattle.sql_tables.specs.Tables.{Tables}
use Rattle.sql_writes.proofs.Puts.{Inserts, holds_with, one_put, PutsOne}
use Rattle.sql_writes.proofs.Conditions.{text_itself, number_itself, equal_numbers, equal_both, taken_first, taken_second}
use Rattle.sql_writes.proofs.Keys.{find_none, key_free, put_in_order, key_text, key_number}
use Rattle.sql_tables.specs.CutTables.{is_row, is_entry_row}
use Rattle.sql_tables.specs.TableReads.{is_under, is_authorization_of}
use Rattle.sql_tables.specs.declared.records.AuthorizationRecord.{AuthorizationRecord}
use Rattle.sql_tables.specs.declared.records.EntryRecord.{EntryRecord}
use Rattle.sql_tables.specs.declared.records.SubmissionRecord.{SubmissionRecord}
use Rattle.sql_writes.specs.Texts.{insert_submission, insert_entry, insert_authorization}
use Rattle.sql_tables.specs.DeskTables as the

-- ---- submissions

insert_submission_is : Inserts named.submissions insert_submission 1
unfolding understood everything
insert_submission_is = record { is = refl; plain = (refl, refl) }

puts_submission : PutsOne named.submissions
puts_submission = record { is = insert_submission_is; full = refl }

pub submission_total : IsTotalOrder (key_cmp the.submissions)
submission_total = then_total (on_total (λ (r : SubmissionRecord). r.head.company) nat_list_cmp_total) (on_total (λ (r : SubmissionRecord). r.head.order) nat_cmp_total)

same_row : (c : List ℕ) (n : ℕ) (a b : ℤ × SubmissionRecord) → is_row c n a.1 ≡ true → is_row c n b.1 ≡ true → agree plain (1 ∷ 2 ∷ []) (row_of (form the.submissions) b) (1 ∷ 2 ∷ []) (row_of (form the.submissions) a) ≡ true
unfolding first_key
same_row c n a b h k =
    let x = and_parts (bytes_eq a.1.head.company c) (a.1.head.order == n) h in let y = and_parts (bytes_eq b.1.head.company c) (b.1.head.order == n) k in
    and_from _ _ (key_text a.1.head.company b.1.head.company c x.0 y.0) (and_from _ _ (key_number a.1.head.order b.1.head.order n x.1 y.1) refl)

same_under : (c reference : List ℕ) (a b : ℤ × SubmissionRecord) → is_under c reference a.1 ≡ true → is_under c reference b.1 ≡ true → agree plain (1 ∷ 3 ∷ []) (row_of (form the.submissions) b) (1 ∷ 3 ∷ []) (row_of (form the.submissions) a) ≡ true
unfolding first_key
same_under c reference a b h k =
    let x = and_parts (bytes_eq a.1.head.company c) (bytes_eq a.1.head.reference reference) h in let y = and_parts (bytes_eq b.1.head.company c) (bytes_eq b.1.head.reference reference) k in
    and_from _ _ (key_text a.1.head.company b.1.head.company c x.0 y.0) (and_from _ _ (key_text a.1.head.reference b.1.head.reference reference x.1 y.1) refl)

pub submission_put : (x : SubmissionRecord) (old new : State) (count : ℕ) → Executes insert_submission (as_row the.submissions x) old new (Ok count) → (t : Tables) → Holds desk_layout old.now t
    → Holds desk_layout new.now (record t { submissions = insert_sorted (key_cmp the.submissions) x t.submissions }) × (find (is_row x.head.company x.head.order) t.submissions ≡ None) × (find (is_under x.head.company x.head.reference) t.submissions ≡ None)
submission_put x old new count ran t h =
    let s = table the.submissions in
    let made = one_put named.submissions puts_submission x old new count ran t h in
    let free = key_free (form the.submissions) desk_schema s (1 ∷ 2 ∷ []) (is_row x.head.company x.head.order) (same_row x.head.company x.head.order) (λ db row any. taken_first _ _ any) new.now.trees x t.submissions (and_from _ _ (text_itself x.head.company) (number_itself x.head.order)) made.has.stored made.unique in
    let other = key_free (form the.submissions) desk_schema s (1 ∷ 3 ∷ []) (is_under x.head.company x.head.reference) (same_under x.head.company x.head.reference) (λ db row any. taken_second _ _ _ any) new.now.trees x t.submissions (and_from _ _ (text_itself x.head.company) (text_itself x.head.reference)) made.has.stored made.unique in (
      holds_with named.submissions _ h made.has (put_in_order (form the.submissions) (key_cmp the.submissions) submission_total (is_row x.head.company x.head.order) new.now.trees s x t.submissions (λ y. equal_both _ _ ∙ (let c = is_eq-slice_cmp y.head.company x.head.company in let n = equal_numbers y.head.order x.head.order in λ i. c i && n i)) free (h.1.stands named.submissions).rise made.has.stored),
      find_none (is_row x.head.company x.head.order) t.submissions free,
      find_none (is_under x.head.company x.head.reference) t.submissions other,
    )

-- ---- entries

insert_entry_is : Inserts named.entries insert_entry 1
unfolding understood everything
insert_entry_is = record { is = refl; plain = (refl, refl) }

puts_entry : PutsOne named.entries
puts_entry = record { is = insert_entry_is; full = refl }

pub entry_total : IsTotalOrder (key_cmp the.entries)
entry_total = then_total (then_total (on_total (λ (r : EntryRecord). r.company) nat_list_cmp_total) (on_total (λ (r : EntryRecord). r.order) nat_cmp_total)) (on_total (λ (r : EntryRecord). r.index) nat_cmp_total)

pub same_entry : (c : List ℕ) (n i : ℕ) (a b : ℤ × EntryRecord) → is_entry_row c n i a.1 ≡ true → is_entry_row c n i b.1 ≡ true → agree plain (1 ∷ 2 ∷ 3 ∷ []) (row_of (form the.entries) b) (1 ∷ 2 ∷ 3 ∷ []) (row_of (form the.entries) a) ≡ true
unfolding first_key
same_entry c n i a b h k =
    let x = and_parts (bytes_eq a.1.company c && (a.1.order == n)) (a.1.index == i) h in let y = and_parts (bytes_eq b.1.company c && (b.1.order == n)) (b.1.index == i) k in
    let v = and_parts (bytes_eq a.1.company c) (a.1.order == n) x.0 in let w = and_parts (bytes_eq b.1.company c) (b.1.order == n) y.0 in
    and_from _ _ (key_text a.1.company b.1.company c v.0 w.0) (and_from _ _ (key_number a.1.order b.1.order n v.1 w.1) (and_from _ _ (key_number a.1.index b.1.index i x.1 y.1) refl))

pub same_entry_key : (x y : EntryRecord) → is_eq (key_cmp the.entries y x) ≡ is_entry_row x.company x.order x.index y
same_entry_key x y =
    equal_both _ _
    ∙ (let f = equal_both _ _ ∙ (let c = is_eq-slice_cmp y.company x.company in let n = equal_numbers y.order x.order in λ i. c i && n i) in let m = equal_numbers y.index x.index in λ i. f i && m i)

pub entry_itself : (x : EntryRecord) → is_entry_row x.company x.order x.index x ≡ true
entry_itself x = and_from _ _ (and_from _ _ (text_itself x.company) (number_itself x.order)) (number_itself x.index)

pub entry_put : (x : EntryRecord) (old new : State) (count : ℕ) → Executes insert_entry (as_row the.entries x) old new (Ok count) → (t : Tables) → Holds desk_layout old.now t
    → Holds desk_layout new.now (record t { entries = insert_sorted (key_cmp the.entries) x t.entries }) × (find (is_entry_row x.company x.order x.index) t.entries ≡ None)
entry_put x old new count ran t h =
    let s = table the.entries in
    let made = one_put named.entries puts_entry x old new count ran t h in
    let free = key_free (form the.entries) desk_schema s (1 ∷ 2 ∷ 3 ∷ []) (is_entry_row x.company x.order x.index) (same_entry x.company x.order x.index) (λ db row any. taken_first _ _ any) new.now.trees x t.entries (entry_itself x) made.has.stored made.unique in (
      holds_with named.entries _ h made.has (put_in_order (form the.entries) (key_cmp the.entries) entry_total (is_entry_row x.company x.order x.index) new.now.trees s x t.entries (same_entry_key x) free (h.1.stands named.entries).rise made.has.stored),
      find_none (is_entry_row x.company x.order x.index) t.entries free,
    )

-- ---- authorizations

insert_authorization_is : Inserts named.authorizations insert_authorization 1
unfolding understood everything
insert_authorization_is = record { is = refl; plain = (refl, refl) }

puts_authorization : PutsOne named.authorizations
puts_authorization = record { is = insert_authorization_is; full = refl }

pub authorization_total : IsTotalOrder (key_cmp the.authorizations)
authorization_total = then_total (on_total (λ (r : AuthorizationRecord). r.company) nat_list_cmp_total) (on_total (λ (r : AuthorizationRecord). r.order) nat_cmp_total)

same_authorization : (c : List ℕ) (n : ℕ) (a b : ℤ × AuthorizationRecord) → is_authorization_of c n a.1 ≡ true → is_authorization_of c n b.1 ≡ true → agree plain (1 ∷ 2 ∷ []) (row_of (form the.authorizations) b) (1 ∷ 2 ∷ []) (row_of (form the.authorizations) a) ≡ true
unfolding first_key
same_authorization c n a b h k =
    let x = and_parts (bytes_eq a.1.company c) (a.1.order == n) h in let y = and_parts (bytes_eq b.1.company c) (b.1.order == n) k in
    and_from _ _ (key_text a.1.company b.1.company c x.0 y.0) (and_from _ _ (key_number a.1.order b.1.order n x.1 y.1) refl)

pub authorization_put : (x : AuthorizationRecord) (old new : State) (count : ℕ) → Executes insert_authorization (as_row the.authorizations x) old new (Ok count) → (t : Tables) → Holds desk_layout old.now t
    → Holds desk_layout new.now (record t { authorizations = insert_sorted (key_cmp the.authorizations) x t.authorizations }) × (find (is_authorization_of x.company x.order) t.authorizations ≡ None)
authorization_put x old new count ran t h =
    let s = table the.authorizations in
    let made = one_put named.authorizations puts_authorization x old new count ran t h in
    let free = key_free (form the.authorizations) desk_schema s (1 ∷ 2 ∷ []) (is_authorization_of x.company x.order) (same_authorization x.company x.order) (λ db row any. taken_first _ _ any) new.now.trees x t.authorizations (and_from _ _ (text_itself x.company) (number_itself x.order)) made.has.stored made.unique in (
      holds_with named.authorizations _ h made.has (put_in_order (form the.authorizations) (key_cmp the.authorizations) authorization_total (is_authorization_of x.company x.order) new.now.trees s x t.authorizations (λ y. equal_both _ _ ∙ (let c = is_eq-slice_cmp y.company x.company in let n = equal_numbers y.order x.order in λ i. c i && n i)) free (h.1.stands named.authorizations).rise made.has.stored),
      find_none (is_authorization_of x.company x.order) t.authorizations free,
    )
