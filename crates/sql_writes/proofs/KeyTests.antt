-- Tests of keys: a row that passes one has the key, and of two rows that pass none stands before the other.
use Rattle.std.proofs.Common.{◌≡◌, ℕ, Bool, true, false, not, is_none, ◌&&◌, ◌==◌, Option, Some, None, List, bytes_eq, refl, sym, ap, ap₂, ◌∙◌, true≢false, Ordering, Less, is_eq}
use Rattle.std.proofs.lemmas.Bool.{and_parts}
use Rattle.std.proofs.lemmas.Map.Text.{is_eq-slice_cmp}
use Rattle.sql_tables.specs.CutTables.{is_row, is_entry_row}
use Rattle.sql_tables.specs.Description.{key_cmp}
use Rattle.sql_tables.specs.DeskTables as the
use Rattle.sql_tables.specs.declared.records.EntryRecord.{EntryRecord}
use Rattle.sql_tables.specs.declared.records.SubmissionRecord.{SubmissionRecord}
use Rattle.sql_writes.proofs.Conditions.{same_text, same_number, equal_numbers, equal_both}

pub not_before : {X : Type 0} (cmp : X → X → Ordering) (p : X → Bool) → ((a b : X) → p a ≡ true → p b ≡ true → is_eq (cmp a b) ≡ true) → (a b : X) → p a ≡ true → p b ≡ true → cmp a b ≡ Less → ⊥
not_before cmp p same a b here there less = true≢false (sym (same a b here there) ∙ ap is_eq less)

pub and_joined : (a b c : Bool) → (a && (b && c)) ≡ ((a && b) && c)
and_joined true b c = refl
and_joined false b c = refl

pub none_is : {A : Type 0} (o : Option A) → is_none o ≡ true → o ≡ None
none_is None h = refl
none_is (Some a) h = cc

pub not_is : (b : Bool) → not b ≡ true → b ≡ false
not_is true h = cc
not_is false h = refl

-- ---- submissions

row_parts : (c : List ℕ) (o : ℕ) (r : SubmissionRecord) → is_row c o r ≡ true → (bytes_eq r.head.company c ≡ true) × ((r.head.order == o) ≡ true)
row_parts c o r h = and_parts (bytes_eq r.head.company c) (r.head.order == o) h

equal_rows : (a b : SubmissionRecord) → is_eq (key_cmp the.submissions a b) ≡ is_row b.head.company b.head.order a
equal_rows a b = equal_both _ _ ∙ ap₂ (λ p q. p && q) (is_eq-slice_cmp a.head.company b.head.company) (equal_numbers a.head.order b.head.order)

pub one_row : (c : List ℕ) (o : ℕ) (a b : SubmissionRecord) → is_row c o a ≡ true → is_row c o b ≡ true → key_cmp the.submissions a b ≡ Less → ⊥
one_row c o = not_before (key_cmp the.submissions) (is_row c o) (λ a b here there.
    let it = row_parts c o b there in
    equal_rows a b ∙ ap₂ (λ k n. is_row k n a) (same_text b.head.company c it.0) (same_number b.head.order o it.1) ∙ here)

-- ---- entries

entry_parts : (c : List ℕ) (o n : ℕ) (r : EntryRecord) → is_entry_row c o n r ≡ true → (bytes_eq r.company c ≡ true) × ((r.order == o) ≡ true) × ((r.index == n) ≡ true)
entry_parts c o n r h =
    let one = and_parts (bytes_eq r.company c && (r.order == o)) (r.index == n) h in
    let two = and_parts (bytes_eq r.company c) (r.order == o) one.0 in
    (two.0, two.1, one.1)

equal_entries : (a b : EntryRecord) → is_eq (key_cmp the.entries a b) ≡ is_entry_row b.company b.order b.index a
equal_entries a b =
    equal_both _ _
    ∙ ap₂ (λ p q. p && q) (equal_both _ _ ∙ ap₂ (λ p q. p && q) (is_eq-slice_cmp a.company b.company) (equal_numbers a.order b.order)) (equal_numbers a.index b.index)

pub one_entry : (c : List ℕ) (o n : ℕ) (a b : EntryRecord) → is_entry_row c o n a ≡ true → is_entry_row c o n b ≡ true → key_cmp the.entries a b ≡ Less → ⊥
one_entry c o n = not_before (key_cmp the.entries) (is_entry_row c o n) (λ a b here there.
    let it = entry_parts c o n b there in
    equal_entries a b
    ∙ ap₂ (λ k m. is_entry_row k m b.index a) (same_text b.company c it.0) (same_number b.order o it.1)
    ∙ ap (λ m. is_entry_row c o m a) (same_number b.index n it.2) ∙ here)
