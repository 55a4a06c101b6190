-- An incoming file has the same effect on flat rows as on their book.
use Rattle.std.proofs.Common.{◌≡◌, ℕ, List, [], ◌∷◌, ◌++◌, map, sym, ap, ◌∙◌, append_assoc}
use Rattle.std.specs.Prelude.{◌&&◌, if◌then◌else◌, fold, is_none, find, Option, Some, bytes_eq}
use Rattle.std.proofs.lemmas.List.{append-nil}
use Rattle.std.proofs.lemmas.Iterator.Adapters.{option_map_id}
use Rattle.desk_history.specs.declared.operations.TakenFile.{TakenFile}
use Rattle.desk_history.specs.Intake.{has_key}
use Rattle.desk_book.specs.declared.flat_rows.ChangedRow.{ChangedRow}
use Rattle.desk_book.specs.declared.flat_rows.ReturnedRow.{ReturnedRow}
use Rattle.desk_store.specs.Rows.{Rows, flat_book}
use Rattle.desk_book.specs.Steps.{IntakeWrite, commit_intake, returned_row_by, put_return, put_change, put_suspense, put_postings, put_taken_file}
use Rattle.desk_store.specs.Changes.{return_in, in_turn, intake_in}
use Rattle.desk_store.proofs.FlatRows.{rows_changed, own_more}
use Rattle.desk_book.proofs.Finds.{first_more}

-- ---- one row

flat_return : (r : Rows) (x : ReturnedRow) → flat_book (record r { submissions = map (return_in x) r.submissions; returned = r.returned ++ x ∷ [] }) ≡ put_return (flat_book r) x
flat_return r x = λ i. record (flat_book r) {
  rows = λ c. rows_changed x.company (returned_row_by x) r.submissions c i;
  returns = λ c. own_more (λ y. y.row) (λ y. y.company) r.returned x c i;
}

flat_change : (r : Rows) (x : ChangedRow) → flat_book (record r { changed = r.changed ++ x ∷ [] }) ≡ put_change (flat_book r) x
flat_change r x = λ i. record (flat_book r) { changes = λ c. own_more (λ y. y.row) (λ y. y.company) r.changed x c i }

flat_taken : (r : Rows) (t : TakenFile) → flat_book (record r { taken = r.taken ++ t ∷ [] }) ≡ put_taken_file t (flat_book r)
flat_taken r t = λ i. record (flat_book r) { taken = λ key. found key i } where
  found : (key : List ℕ) → find (has_key key) (r.taken ++ t ∷ []) ≡ (if bytes_eq t.key key && is_none (find (has_key key) r.taken) then Some t else find (has_key key) r.taken)
  found key =
      sym (option_map_id (find (has_key key) (r.taken ++ t ∷ [])))
      ∙ first_more (λ x. x) (has_key key) r.taken t
      ∙ ap (λ (o : Option TakenFile). if bytes_eq t.key key && is_none o then Some t else o) (option_map_id (find (has_key key) r.taken))

-- ---- all rows

flat_all_returned : (r : Rows) (xs : List ReturnedRow) → flat_book (record r { submissions = in_turn return_in xs r.submissions; returned = r.returned ++ xs }) ≡ fold put_return (flat_book r) xs
flat_all_returned r [] = ap (λ (l : List ReturnedRow). flat_book (record r { returned = l })) (append-nil r.returned)
flat_all_returned r (x ∷ xs) =
    let first : Rows = record r { submissions = map (return_in x) r.submissions; returned = r.returned ++ x ∷ [] } in
    ap (λ (l : List ReturnedRow). flat_book (record r { submissions = in_turn return_in (x ∷ xs) r.submissions; returned = l })) (sym (append_assoc r.returned (x ∷ []) xs))
    ∙ flat_all_returned first xs
    ∙ ap (λ b. fold put_return b xs) (flat_return r x)

flat_all_changed : (r : Rows) (xs : List ChangedRow) → flat_book (record r { changed = r.changed ++ xs }) ≡ fold put_change (flat_book r) xs
flat_all_changed r [] = ap (λ (l : List ChangedRow). flat_book (record r { changed = l })) (append-nil r.changed)
flat_all_changed r (x ∷ xs) =
    ap (λ (l : List ChangedRow). flat_book (record r { changed = l })) (sym (append_assoc r.changed (x ∷ []) xs))
    ∙ flat_all_changed (record r { changed = r.changed ++ x ∷ [] }) xs
    ∙ ap (λ b. fold put_change b xs) (flat_change r x)

pub flat_intake : (r : Rows) (x : IntakeWrite) → flat_book (intake_in x r) ≡ (commit_intake x).after (flat_book r)
flat_intake r x =
    let returned : Rows = record r { submissions = in_turn return_in x.returned r.submissions; returned = r.returned ++ x.returned } in
    let changed : Rows = record returned { changed = r.changed ++ x.changed } in
    let held : Rows = record changed { suspense = r.suspense ++ x.suspense } in
    let posted : Rows = record held { postings = r.postings ++ x.postings } in
    flat_taken posted x.file
    ∙ ap (λ b. put_taken_file x.file (put_postings x.postings (put_suspense x.suspense b))) (flat_all_changed returned x.changed
    ∙ ap (λ b. fold put_change b x.changed) (flat_all_returned r x.returned))
