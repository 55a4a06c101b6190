use Rattle.ach_files.proofs.Printable.{all_printable}
use Rattle.std.proofs.Common.{◌≡◌, ◌+◌, ◌<◌, ◌++◌, ◌∷◌, [], ℕ, List, None, length, Option, arith, refl, sym, ap, ◌∙◌, subst, length-append}
use Rattle.ach_files.specs.declared.fault.Fault.{Fault}
use Rattle.ach_files.specs.FirstFault.{Tells, map_fault}
use Rattle.ach_files.specs.Layout.{Layout, layout}
use Rattle.ach_files.specs.RecordFault.{record_fault}
use Rattle.ach_files.specs.Has.{HasRecords, HasLayout, item_room}
use Rattle.ach_files.specs.Memory.{items_in}
use Rattle.ach_files.proofs.Inside.{begins_is, record_read}
use Rattle.ach_files.proofs.recogniser.Recogniser.take_whole.Goals as goal

pub returns-in-Ok-clause-read : goal.returns-in-Ok-clause-read
returns-in-Ok-clause-read c = λ bytes begin has.
    let text = c.args.text.now in
    let same : c.copy_from_slice.new.self ≡ text = c.copy_from_slice.ensures.after in
    let l = layout bytes in
    let r = record_read bytes text has.fine (begins_is l.place begin) (record { len = c.requires.whole; printable = all_printable text c.requires.printable }) (omega (arith, has.has.taken, c.requires.whole, c.requires.room)) in
    let a = c.in-Ok.ensures.records l.records (record { count = has.has.layout.records.count; stage = has.has.layout.records.stage; facts = has.has.layout.records.facts; digest = has.has.layout.records.digest }) in
    let none : record_fault l.records text ≡ None = ap (record_fault l.records) (sym same) ∙ a.0 in
    let records : HasRecords c.take_record.new.self (l.records ++ text ∷ []) = subst (λ (t : List ℕ). HasRecords c.take_record.new.self (l.records ++ t ∷ [])) same a.1 in
    record {
      has = record {
        taken = omega (arith, has.has.taken, c.in-Ok.ensures.position, c.requires.whole, length-append bytes text);
        layout = subst (λ (k : Layout). HasLayout c.take_record.new.self k) (sym r.comes) (record { place = rw c.in-Ok.ensures.position.0 refl; records = records });
      };
      fine = r.tells ∙ ap (map_fault (length l.records + 1)) none;
    }

pub returns-in-Err-clause-read : goal.returns-in-Err-clause-read
returns-in-Err-clause-read c = λ bytes begin has.
    let text = c.args.text.now in
    let same : c.copy_from_slice.new.self ≡ text = c.copy_from_slice.ensures.after in
    let l = layout bytes in
    let r = record_read bytes text has.fine (begins_is l.place begin) (record { len = c.requires.whole; printable = all_printable text c.requires.printable }) (omega (arith, has.has.taken, c.requires.whole, c.requires.room)) in
    let a = c.in-Err.ensures.records l.records (record { count = has.has.layout.records.count; stage = has.has.layout.records.stage; facts = has.has.layout.records.facts; digest = has.has.layout.records.digest }) in
    let number : c.args.self.now.records + 1 ≡ length l.records + 1 = omega (arith, has.has.layout.records.count) in
    let fault_in_record = c.fault_in_record.ensures.value (record_fault l.records c.copy_from_slice.new.self) a in
    subst (λ (f : Option Fault). Tells c.fault_in_record.result f) (ap (λ k. map_fault k (record_fault l.records c.copy_from_slice.new.self)) number ∙ ap (λ t. map_fault (length l.records + 1) (record_fault l.records t)) same ∙ sym r.tells) fault_in_record

pub returns-in-Err-clause-memory : goal.returns-in-Err-clause-memory
returns-in-Err-clause-memory c = λ bytes begin has e.
    let text = c.args.text.now in
    let same : c.copy_from_slice.new.self ≡ text = c.copy_from_slice.ensures.after in
    let l = layout bytes in
    let r = record_read bytes text has.fine (begins_is l.place begin) (record { len = c.requires.whole; printable = all_printable text c.requires.printable }) (omega (arith, has.has.taken, c.requires.whole, c.requires.room)) in
    let a = c.in-Err.ensures.memory l.records (record { count = has.has.layout.records.count; stage = has.has.layout.records.stage; facts = has.has.layout.records.facts; digest = has.has.layout.records.digest }) (c.fault_in_record.ensures.memory e) in
    let none : record_fault l.records text ≡ None = ap (record_fault l.records) (sym same) ∙ a.0 in
    let more : item_room c.args.self.now < items_in (l.records ++ text ∷ []) = subst (λ (t : List ℕ). item_room c.args.self.now < items_in (l.records ++ t ∷ [])) same a.1 in
    (r.tells ∙ ap (map_fault (length l.records + 1)) none, subst (λ (k : Layout). item_room c.args.self.now < items_in k.records) (sym r.comes) more)
