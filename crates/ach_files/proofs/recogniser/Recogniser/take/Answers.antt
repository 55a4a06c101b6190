use Rattle.std.proofs.Common.{◌≡◌, ◌+◌, ◌<◌, arith, refl, length, take, ◌∙◌, sym, ap, inr, subst, Option, Some, ℕ}
use Rattle.ach_files.specs.declared.fault.Fault.{Fault}
use Rattle.ach_files.specs.declared.fault.FileFault.TheVariants as faults
use Rattle.ach_files.specs.Has.{HasLayout, item_room}
use Rattle.ach_files.specs.Layout.{Layout, next_layout, Put, Go, Stray, move_at}
use Rattle.ach_files.specs.FirstFault.{byte_fault, Tells, map_fault, record_of, fault_at}
use Rattle.ach_files.specs.Memory.{items_in}
use Rattle.ach_files.specs.ReaderState.{move_of, place_of}
use Rattle.ach_files.proofs.Bytes.{fault_large, fault_small, next_is}
use Rattle.ach_files.proofs.recogniser.Recogniser.take.Goals as goal

pub returns-then-self-ge-MOST_BYTES-clause-read : goal.returns-then-self-ge-MOST_BYTES-clause-read
returns-then-self-ge-MOST_BYTES-clause-read c = λ l n has.
    let s = c.step_of-step.result in
    let m : move_of c.args.self.now.part s ≡ move_at l.place c.args.byte = c.step_of-step.ensures.place c.args.self.now.part ∙ ap (λ p. move_at p c.args.byte) has.layout.place in
    let number = c.record_of-at.ensures l.records c.args.self.now.part has.layout.records.count in
    let large = fault_large n l c.args.byte (move_of c.args.self.now.part s) m (omega (arith, has.taken)) in
    inr (large ∙ ap (λ (k : ℕ). Some (fault_at k faults.TooLarge)) (sym number))

pub returns-in-Ok-clause-read : goal.returns-in-Ok-clause-read
returns-in-Ok-clause-read c = λ l n has.
    let m : Put (take c.in-Put.count c.args.self.now.part) ≡ move_at l.place c.args.byte = c.in-Put.ensures.place c.args.self.now.part ∙ ap (λ p. move_at p c.args.byte) has.layout.place in
    let a = c.in-Ok.ensures.layout l (record { count = has.layout.records.count; stage = has.layout.records.stage; facts = has.layout.records.facts; digest = has.layout.records.digest }) in
    let small = fault_small n l c.args.byte _ m (omega (arith, has.taken)) in
    (small ∙ ap (map_fault _) a.0, record { taken = omega (arith, has.taken, c.in-Ok.ensures.taken); layout = subst (λ (k : Layout). HasLayout c.put.new.self k) (sym (next_is l c.args.byte _ m)) a.1 })

pub returns-in-Err-clause-read : goal.returns-in-Err-clause-read
returns-in-Err-clause-read c = λ l n has.
    let part = c.args.self.now.part in
    let m : Put (take c.in-Put.count part) ≡ move_at l.place c.args.byte = c.in-Put.ensures.place part ∙ ap (λ p. move_at p c.args.byte) has.layout.place in
    let number : c.record_of-at.result ≡ length l.records + 1 = c.record_of-at.ensures l.records part has.layout.records.count ∙ ap (λ s. record_of l.records (move_of part s)) c.in-Put.is in
    let a = c.in-Err.ensures.layout l (record { count = has.layout.records.count; stage = has.layout.records.stage; facts = has.layout.records.facts; digest = has.layout.records.digest }) in
    let small = fault_small n l c.args.byte _ m (omega (arith, has.taken)) in
    let o = byte_fault l.records (take c.in-Put.count part) c.args.byte in
    subst (λ (f : Option Fault). Tells c.fault_in_record.result f) (ap (λ k. map_fault k o) number ∙ sym small) (c.fault_in_record.ensures.value o a)

pub returns-in-Go-clause-read : goal.returns-in-Go-clause-read
returns-in-Go-clause-read c = λ l n has.
    let part = c.args.self.now.part in
    let m : Go (place_of part c.in-Go.position) ≡ move_at l.place c.args.byte = c.in-Go.ensures.place part ∙ ap (λ p. move_at p c.args.byte) has.layout.place in
    let small = fault_small n l c.args.byte _ m (omega (arith, has.taken)) in
    let e : next_layout l c.args.byte ≡ record { records = l.records; place = place_of part c.in-Go.position } = next_is l c.args.byte _ m in
    (small, record { taken = omega (arith, has.taken); layout = rw e (record { place = refl; records = record { count = has.layout.records.count; stage = has.layout.records.stage; facts = has.layout.records.facts; digest = has.layout.records.digest } }) })

pub returns-in-Stray-clause-read : goal.returns-in-Stray-clause-read
returns-in-Stray-clause-read c = λ l n has.
    let part = c.args.self.now.part in
    let m : Stray ≡ move_at l.place c.args.byte = c.in-Stray.ensures.place part ∙ ap (λ p. move_at p c.args.byte) has.layout.place in
    let number : c.record_of-at.result ≡ length l.records = c.record_of-at.ensures l.records part has.layout.records.count ∙ ap (λ s. record_of l.records (move_of part s)) c.in-Stray.is in
    let small = fault_small n l c.args.byte _ m (omega (arith, has.taken)) in
    inr (small ∙ ap (λ (k : ℕ). Some (fault_at k faults.BadLength)) (sym number))

pub returns-in-Err-clause-memory : goal.returns-in-Err-clause-memory
returns-in-Err-clause-memory c = λ l n has e.
    let part = c.args.self.now.part in
    let m : Put (take c.in-Put.count part) ≡ move_at l.place c.args.byte = c.in-Put.ensures.place part ∙ ap (λ p. move_at p c.args.byte) has.layout.place in
    let a = c.in-Err.ensures.memory l (record { count = has.layout.records.count; stage = has.layout.records.stage; facts = has.layout.records.facts; digest = has.layout.records.digest }) (c.fault_in_record.ensures.memory e) in
    let small = fault_small n l c.args.byte _ m (omega (arith, has.taken)) in
    (small ∙ ap (map_fault _) a.0, subst (λ (k : Layout). item_room c.args.self.now < items_in k.records) (sym (next_is l c.args.byte _ m)) a.1)
