-- The entries of a list, by the rows that were taken so far.
use Rattle.std.proofs.Common.{◌≡◌, ℕ, ◌+◌, List, [], ◌∷◌, ◌++◌, length, map, option_map, Result, Ok, Err, refl, sym, ap, ◌∙◌, append_assoc, append-nil, length-append}
use Rattle.std.proofs.lemmas.List.{map-append, length-map}
use Rattle.std.specs.List.{cons_option}
use Rattle.std.specs.Result.{result_ok, result_err}
use Rattle.serde_json.specs.Data.{Data}
use Rattle.cli_submit.specs.Bodies.{entry_data}
use Rattle.cli_submit.specs.Lists.{entries_in, entries_of_rows, faults_from, unless_fault}
use Rattle.cli_submit.specs.Rows.{EntryTexts, row_entry}
use Rattle.cli_submit.specs.declared.fault.InputFault.{InputFault}
use Rattle.cli_submit.specs.declared.fault.InputFault.TheVariants.{Row}
use Rattle.cli_submit.specs.declared.fault.RowFault.{RowFault}

-- the first n of the rows are these entries, and these rows are left
pub record Taken (rows left : List (List (List ℕ))) (n : ℕ) (entries : List EntryTexts) : Type 0 where
  pub faults : faults_from 1 rows ≡ faults_from (n + 1) left
  pub all : entries_in rows ≡ entries ++ entries_in left

pub taken_none : (rows : List (List (List ℕ))) → Taken rows rows 0 []
taken_none rows = record { faults = refl; all = refl }

fault_next : (n : ℕ) (row : List (List ℕ)) (left : List (List (List ℕ))) (r : Result EntryTexts RowFault) → row_entry row ≡ r
    → faults_from n (row ∷ left) ≡ cons_option (option_map (Row n) (result_err r)) (faults_from (n + 1) left)
fault_next n row left r is = ap (λ (x : Result EntryTexts RowFault). cons_option (option_map (Row n) (result_err x)) (faults_from (n + 1) left)) is

entry_next : (row : List (List ℕ)) (left : List (List (List ℕ))) (r : Result EntryTexts RowFault) → row_entry row ≡ r
    → entries_in (row ∷ left) ≡ cons_option (result_ok r) (entries_in left)
entry_next row left r is = ap (λ (x : Result EntryTexts RowFault). cons_option (result_ok x) (entries_in left)) is

-- one more entry
pub taken_more : (rows left : List (List (List ℕ))) (row : List (List ℕ)) (n : ℕ) (entries : List EntryTexts) (e : EntryTexts)
    → Taken rows (row ∷ left) n entries → row_entry row ≡ Ok e → Taken rows left (n + 1) (entries ++ e ∷ [])
taken_more rows left row n entries e t is = record {
  faults = t.faults ∙ fault_next (n + 1) row left (Ok e) is;
  all = t.all ∙ ap (λ (es : List EntryTexts). entries ++ es) (entry_next row left (Ok e) is) ∙ sym (append_assoc entries (e ∷ []) (entries_in left));
}

-- a row that is not an entry
pub row_at_fault : (rows left : List (List (List ℕ))) (row : List (List ℕ)) (n : ℕ) (entries : List EntryTexts) (f : RowFault)
    → Taken rows (row ∷ left) n entries → row_entry row ≡ Err f → entries_of_rows rows ≡ Err (Row (n + 1) f)
unfolding entries_of_rows
row_at_fault rows left row n entries f t is =
    ap (λ (fs : List InputFault). unless_fault fs (entries_in rows)) (t.faults ∙ fault_next (n + 1) row left (Err f) is)

-- no further row
pub all_taken : (rows : List (List (List ℕ))) (n : ℕ) (entries : List EntryTexts) → Taken rows [] n entries → entries_of_rows rows ≡ Ok entries
unfolding entries_of_rows
all_taken rows n entries t =
    ap (λ (fs : List InputFault). unless_fault fs (entries_in rows)) t.faults ∙ ap (λ (es : List EntryTexts). Ok es) (t.all ∙ append-nil entries)

-- the entries as JSON, with one more
pub data_more : (old new : List Data) (entries : List EntryTexts) (e : EntryTexts) → old ≡ map entry_data entries → new ≡ old ++ entry_data e ∷ []
    → new ≡ map entry_data (entries ++ e ∷ [])
data_more old new entries e are is = is ∙ ap (λ (ds : List Data). ds ++ entry_data e ∷ []) are ∙ sym (map-append entry_data entries (e ∷ []))

-- a list with one more
pub length_more : {A : Type 0} (f : A → Data) (old new : List A) (d : Data) → map f new ≡ map f old ++ d ∷ [] → length new ≡ length old + 1
length_more f old new d e =
    let counted : length (map f new) ≡ length (map f old) + 1 = ap length e ∙ length-append (map f old) (d ∷ []) in
    sym (length-map new f) ∙ counted ∙ ap (λ n. n + 1) (length-map old f)
