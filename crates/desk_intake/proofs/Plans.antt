-- The plan of judged items is the write of the file.
use Rattle.std.proofs.Common.{◌≡◌, ◌∙◌, ap, sym, refl, ℕ, List, [], ◌∷◌, length, map, zip}
use Rattle.std.specs.Prelude.{count_by, filter_map, Result}
use Rattle.std.specs.List.{enumerate_from, flat_map}
use Rattle.ach_files.specs.declared.facts.ItemFacts.{ItemFacts}
use Rattle.desk_accounts.specs.declared.posting.Posting.{Posting}
use Rattle.desk_accounts.specs.Laws.{pairs}
use Rattle.desk_history.specs.declared.operations.Intake.{Intake}
use Rattle.desk_history.specs.declared.operations.SuspenseRow.{SuspenseRow}
use Rattle.desk_history.specs.declared.operations.SuspenseReason.{SuspenseReason}
use Rattle.desk_history.specs.Intake.{intake_of, suspense_row}
use Rattle.desk_history.specs.Postings.{item_line}
use Rattle.desk_history.specs.Resolve.{ResolvedItem}
use Rattle.desk_book.specs.declared.flat_rows.ChangedRow.{ChangedRow}
use Rattle.desk_book.specs.declared.flat_rows.ReturnedRow.{ReturnedRow}
use Rattle.desk_book.specs.OnIntake.{changed_row, intake_write, resolutions, returned_row}
use Rattle.desk_intake.specs.declared.found_item.FoundItem.{FoundItem}
use Rattle.desk_intake.specs.declared.judged_item.JudgedItem.{JudgedItem}
use Rattle.desk_intake.specs.Resolutions.{found_item_as, judged_after, judged_as, resolution_of}
use Rattle.desk_intake.specs.Plans.{intake_facts_of, write_of_items}
use Rattle.desk_intake.proofs.Counting.{changes_counted, late_counted, returns_counted, suspense_counted}
use Rattle.desk_intake.proofs.Judging.{judged_outcomes, judged_zip}

-- the rows, and what they count
pub rows_counted : (key digest : List ℕ) (js : List JudgedItem) (d : ℕ) (holidays : List ℕ)
    → (returned : List ReturnedRow) (changed : List ChangedRow) (suspense : List SuspenseRow) (postings : List Posting) (answer : Intake)
    → returned ≡ filter_map (returned_row holidays d) (map resolution_of js)
    → changed ≡ filter_map (changed_row d) (map resolution_of js)
    → suspense ≡ filter_map (λ y. suspense_row key d y.0 y.1.0 y.1.1) (enumerate_from 1 (map judged_as js))
    → postings ≡ pairs (flat_map (λ y. item_line d y.0 y.1) (map judged_as js))
    → answer ≡ record { changes = length changed; day = d; late = count_by (λ r. r.row.late) returned; returns = length returned; suspense = length suspense }
    → record { returned = returned; changed = changed; suspense = suspense; postings = postings; file = record { key = key; digest = digest; answer = answer } } ≡ write_of_items key digest js d holidays
rows_counted key digest js d holidays returned changed suspense postings answer back told held lines is =
    let counted : answer ≡ intake_of holidays d (map resolution_of js) =
    is
    ∙ (λ i. record { changes = length (told i); day = d; late = count_by (λ r. r.row.late) (back i); returns = length (back i); suspense = length (held i) })
    ∙ (λ i. record { changes = changes_counted d js i; day = d; late = late_counted holidays d js i; returns = returns_counted holidays d js i; suspense = suspense_counted key d 1 js i }) in
    λ i. record { returned = back i; changed = told i; suspense = held i; postings = lines i; file = record { key = key; digest = digest; answer = counted i } }

map_map : {A B C : Type 0} (g : B → C) (f : A → B) (xs : List A) → map g (map f xs) ≡ map (λ x. g (f x)) xs
map_map g f [] = refl
map_map g f (x ∷ xs) = ap (λ ys. g (f x) ∷ ys) (map_map g f xs)

pub judged_whole : (key digest : List ℕ) (js : List JudgedItem) (found : List FoundItem) (d : ℕ) (holidays : List ℕ)
    → map judged_as js ≡ judged_after [] (map found_item_as found)
    → write_of_items key digest js d holidays ≡ intake_write (intake_facts_of key digest found d holidays)
judged_whole key digest js found d holidays judged =
    let xs = map found_item_as found in
    let each : map judged_as js ≡ zip (map (λ x. x.0) xs) (resolutions xs) = judged ∙ judged_zip [] xs in
    let all : map resolution_of js ≡ resolutions xs =
    sym (map_map (λ (x : ItemFacts × Result ResolvedItem SuspenseReason). x.1) judged_as js) ∙ ap (λ (ps : List (ItemFacts × Result ResolvedItem SuspenseReason)). map (λ x. x.1) ps) judged ∙ judged_outcomes [] xs in
    λ i. record {
      returned = filter_map (returned_row holidays d) (all i);
      changed = filter_map (changed_row d) (all i);
      suspense = filter_map (λ y. suspense_row key d y.0 y.1.0 y.1.1) (enumerate_from 1 (each i));
      postings = pairs (flat_map (λ y. item_line d y.0 y.1) (each i));
      file = record { key = key; digest = digest; answer = intake_of holidays d (all i) };
    }
