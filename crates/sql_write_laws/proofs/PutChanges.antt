-- A change goes on behind the others.
use Rattle.std.proofs.Common.{◌≡◌, ℕ, ◌+◌, List, [], ◌∷◌, ◌++◌, map, find, length, Option, Some, None, option_map, refl, sym, subst, ap, ◌∙◌, length-append}
use Rattle.std.specs.Prelude.{reverse}
use Rattle.std.specs.List.{AllByRecursion, range_with_len}
use Rattle.std.proofs.lemmas.List.{map-append}
use Rattle.sql_statements.specs.Edits.{Edit}
use Rattle.desk_book.specs.declared.flat_rows.ChangedRow.{ChangedRow}
use Rattle.desk_book.specs.Steps.{WasSent}
use Rattle.desk_store.specs.Rows.{CompanyRow, Rows}
use Rattle.sql_tables.specs.Encodes.{change_record, is_submission_under, order_under, change_under}
use Rattle.sql_tables.specs.TableEdits.{each_edit_on, next_number, put_change_edit}
use Rattle.sql_tables.specs.Tables.{Tables}
use Rattle.sql_tables.specs.declared.records.ChangeRecord.{ChangeRecord}
use Rattle.sql_tables.proofs.KeptRows.{numbered_more}
use Rattle.sql_write_laws.proofs.Each.{AreOf, each_fitting, all_appended}
use Rattle.sql_write_laws.proofs.Independent.{independent, stand_with}
use Rattle.sql_write_laws.proofs.Numbered.{next_is, insert_last, numbers_are, some_same}
use Rattle.sql_write_laws.proofs.SentSubmissions.{settles_of}

abbrev with_change : ChangedRow → Rows → Rows
with_change x r = record r { changed = r.changed ++ x ∷ [] }

change_numbers : (t : Tables) (r : Rows) → AreOf t r → map (λ (y : ChangeRecord). y.number) t.changes ≡ range_with_len 1 (length r.changed)
change_numbers t r are = numbers_are (λ (y : ChangeRecord). y.number) (change_record r.submissions) has 1 r.changed t.changes are.0.changes
  where
    go : (p : ℕ × ChangedRow) (y : ChangeRecord) (o : Option ℕ) → option_map (λ order. change_under p.0 (record p.1 { order = order })) o ≡ Some y → y.number ≡ p.0
    go p y None h = cc
    go p y (Some o) h = sym (ap (λ (z : ChangeRecord). z.number) (some_same h))

    has : (p : ℕ × ChangedRow) (y : ChangeRecord) → change_record r.submissions p ≡ Some y → y.number ≡ p.0
    has p y h = go p y (order_under r.submissions p.1.company p.1.row.reference) h

module _ (n : ℕ) (x : ChangedRow) (t : Tables) (r : Rows) (are : AreOf t r) (z : CompanyRow) (found : find (is_submission_under x.company x.row.reference) r.submissions ≡ Some z) (numbered : z.row.order ≡ x.order) (at : n ≡ length r.changed + 1) where
  abbrev new : ChangeRecord
  new = change_under n x

  made : change_record r.submissions (length r.changed + 1, x) ≡ Some new
  made =
      (λ i. option_map (λ (order : ℕ). change_under (sym at i) (record x { order = order })) (order_under r.submissions x.company x.row.reference))
      ∙ ap (option_map (λ (order : ℕ). change_under n (record x { order = order }))) (ap (option_map (λ (v : CompanyRow). v.row.order)) found ∙ ap Some numbered)

  changed_tables : AreOf ((put_change_edit n x).after t) (with_change x r)
  changed_tables =
      stand_with t r are (record (independent t r are) {
        changes = record {
          table = _;
          rows = r.changed ++ x ∷ [];
          is_of =
              ap (map Some) (insert_last (λ (y : ChangeRecord). y.number) t.changes new 1 (length r.changed) (change_numbers t r are) at)
              ∙ map-append Some t.changes (new ∷ [])
              ∙ (λ i. are.0.changes i ++ sym made i ∷ [])
              ∙ sym (numbered_more (change_record r.submissions) r.changed (x ∷ []));
        };
      })

-- it is of an entry that was sent
abbrev pub Fits : Rows → ChangedRow → Type 0
Fits r x = WasSent (reverse r.sent) x.company x.order x.row.reference

change_put : (n : ℕ) (x : ChangedRow) (t : Tables) (r : Rows) → n ≡ length r.changed + 1 → Fits r x → AreOf t r → (put_change_edit n x).Tells t → AreOf ((put_change_edit n x).after t) (with_change x r)
change_put n x t r at fits are told =
    let its = settles_of t r are x.company x.order x.row.reference fits in
    changed_tables n x t r are its.row its.found its.numbered at

abbrev pub put_changes : List ChangedRow → Edit Tables
put_changes = each_edit_on (λ t. next_number (λ y. y.number) t.changes) put_change_edit

pub changes_put : (xs : List ChangedRow) (t : Tables) (r : Rows) → AllByRecursion (Fits r) xs → AreOf t r → (put_changes xs).Tells t → AreOf ((put_changes xs).after t) (record r { changed = r.changed ++ xs })
changes_put xs t r fit are told =
    subst (AreOf ((put_changes xs).after t)) (all_appended (λ (ys : List ChangedRow). record r { changed = ys }) (λ s x. with_change x s) (λ ys x. refl) r.changed xs)
    (each_fitting put_change_edit with_change (λ s. length s.changed) (λ x s. length-append s.changed (x ∷ [])) Fits (λ x y s fits. fits) change_put xs _ t r (next_is (λ (y : ChangeRecord). y.number) t.changes (length r.changed) (change_numbers t r are)) fit are told)
