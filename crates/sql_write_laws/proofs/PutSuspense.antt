-- Items that name no sent entry go on behind the others, and a taken file stands among the others.
use Rattle.std.proofs.Common.{◌≡◌, ℕ, ◌+◌, List, [], ◌∷◌, ◌++◌, map, length, Some, refl, sym, subst, ap, ◌∙◌, length-append}
use Rattle.std.specs.List.{enumerate_from, range_with_len}
use Rattle.sqlite_keyed.proofs.ListLemmas.{map-map}
use Rattle.sql_statements.specs.Edits.{Edit}
use Rattle.desk_history.specs.declared.operations.SuspenseRow.{SuspenseRow}
use Rattle.desk_history.specs.declared.operations.TakenFile.{TakenFile}
use Rattle.desk_store.specs.Rows.{Rows}
use Rattle.sql_tables.specs.Description.{key_cmp}
use Rattle.sql_tables.specs.DeskTables as the
use Rattle.sql_tables.specs.Encodes.{suspense_record}
use Rattle.sql_tables.specs.TableEdits.{each_edit_on, next_number, put_suspense_edit, put_taken_edit}
use Rattle.sql_tables.specs.Tables.{Tables}
use Rattle.sql_tables.specs.declared.records.SuspenseRecord.{SuspenseRecord}
use Rattle.sql_tables.proofs.KeptRows.{numbered_more}
use Rattle.sql_write_laws.proofs.Each.{AreOf, each_numbered, all_appended}
use Rattle.sql_write_laws.proofs.Independent.{independent, stand_with}
use Rattle.sql_write_laws.proofs.Inserted.{inserted_among}
use Rattle.sql_write_laws.proofs.Numbered.{next_is, insert_last, numbers_are, some_same}

abbrev with_suspended : SuspenseRow → Rows → Rows
with_suspended x r = record r { suspense = r.suspense ++ x ∷ [] }

suspense_numbers : (t : Tables) (r : Rows) → AreOf t r → map (λ (y : SuspenseRecord). y.number) t.suspense ≡ range_with_len 1 (length r.suspense)
suspense_numbers t r are =
    numbers_are (λ (y : SuspenseRecord). y.number) (λ p. Some (suspense_record p)) (λ p y h. ap (λ (z : SuspenseRecord). z.number) (sym (some_same h))) 1 r.suspense t.suspense
    (ap (map Some) are.0.suspense ∙ map-map Some suspense_record (enumerate_from 1 r.suspense))

item_put : (n : ℕ) (x : SuspenseRow) (t : Tables) (r : Rows) → n ≡ length r.suspense + 1 → AreOf t r → (put_suspense_edit n x).Tells t → AreOf ((put_suspense_edit n x).after t) (with_suspended x r)
item_put n x t r at are told =
    stand_with t r are (record (independent t r are) {
      suspense = record {
        table = _;
        rows = r.suspense ++ x ∷ [];
        is_of =
            insert_last (λ (y : SuspenseRecord). y.number) t.suspense (record { number = n; row = x }) 1 (length r.suspense) (suspense_numbers t r are) at
            ∙ (λ i. are.0.suspense i ++ suspense_record (at i, x) ∷ [])
            ∙ sym (numbered_more suspense_record r.suspense (x ∷ []));
      };
    })

abbrev pub put_items : List SuspenseRow → Edit Tables
put_items = each_edit_on (λ t. next_number (λ y. y.number) t.suspense) put_suspense_edit

pub items_put : (xs : List SuspenseRow) (t : Tables) (r : Rows) → AreOf t r → (put_items xs).Tells t → AreOf ((put_items xs).after t) (record r { suspense = r.suspense ++ xs })
items_put xs t r are told =
    subst (AreOf ((put_items xs).after t)) (all_appended (λ (ys : List SuspenseRow). record r { suspense = ys }) (λ s x. with_suspended x s) (λ ys x. refl) r.suspense xs)
    (each_numbered put_suspense_edit with_suspended (λ s. length s.suspense) (λ x s. length-append s.suspense (x ∷ [])) item_put xs _ t r (next_is (λ (y : SuspenseRecord). y.number) t.suspense (length r.suspense) (suspense_numbers t r are)) are told)

pub taken_put : (f : TakenFile) (t : Tables) (r : Rows) → AreOf t r → (put_taken_edit f).Tells t → AreOf ((put_taken_edit f).after t) (record r { taken = r.taken ++ f ∷ [] })
taken_put f t r are told =
    stand_with t r are (record (independent t r are) { taken = record { table = _; rows = r.taken ++ f ∷ []; is_of = inserted_among (key_cmp the.taken) f r.taken t.taken are.0.taken } })
