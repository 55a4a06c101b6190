use Rattle.std.proofs.Common.{◌≡◌, ℕ, true, List, [], ◌∷◌, Option, refl}
use Rattle.std.specs.Prelude.{IsSome}
use Rattle.std.proofs.lemmas.Bool.{and_parts}
use Rattle.ach_records.specs.Print.{Value, addenda05_row, change98_row, return99_row}
use Rattle.ach_files.specs.declared.outgoing.Addenda.{Addenda}
use Rattle.ach_files.specs.declared.outgoing.Addenda.TheVariants as addendas
use Rattle.ach_files.specs.Outgoing.{addenda_rows, IsText, AllFit}
use Rattle.ach_files.proofs.Pages.{there}
use Rattle.ach_files.proofs.print.page.put_addenda.Goals as goal

addenda_there : (a : Addenda) (trace : List ℕ) (t : Option (List ℕ)) → (a ≡ addendas.Absent → ⊥) → ((values : List Value) → addenda_rows trace a ≡ values ∷ [] → IsText t values) → AllFit (addenda_rows trace a) → IsSome t
addenda_there addendas.Absent trace t n h fits = absurd (n refl)
addenda_there (addendas.Payment i) trace t n h fits = there t _ (h (addenda05_row (record { information = i; trace = trace })) refl) ((and_parts _ true fits).0)
addenda_there (addendas.Change c) trace t n h fits = there t _ (h (change98_row c) refl) ((and_parts _ true fits).0)
addenda_there (addendas.Return r) trace t n h fits = there t _ (h (return99_row r) refl) ((and_parts _ true fits).0)

pub put_record-requires : goal.put_record-requires
put_record-requires c = addenda_there c.args.entry.now.addenda c.args.entry.now.trace c.addenda_record.result c.in_default.not-Absent c.addenda_record.ensures c.requires
