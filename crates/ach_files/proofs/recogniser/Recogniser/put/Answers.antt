use Rattle.std.proofs.Common.{◌≡◌, ◌<◌, refl, length, ◌∙◌, sym, rules, subst, Option}
use Rattle.ach_files.specs.declared.fault.FileFault.{FileFault}
use Rattle.ach_files.specs.Has.{HasLayout, item_room}
use Rattle.ach_files.specs.Layout.{Layout}
use Rattle.ach_files.specs.FirstFault.{TellsKind}
use Rattle.ach_files.specs.Memory.{items_in}
use Rattle.ach_files.proofs.OutOfMemory.{if_err_map}
use Rattle.ach_files.proofs.Bytes.{whole_fault_is, whole_moved, match_ok}
use Rattle.ach_files.proofs.recogniser.Recogniser.put.Goals as goal

pub returns-then-count-eq93-clause-layout : goal.returns-then-count-eq93-clause-layout
returns-then-count-eq93-clause-layout c = λ l has.
    let part = c.args.self.now.part in
    let len : length part ≡ 94 = search rules in
    let plain = sym c.is_line_end.ensures ∙ c.if-is_line_end.false in
    let printable = sym c.is_printable.ensures ∙ c.if-not-is_printable.false in
    let f = whole_fault_is l.records part c.args.count c.args.byte plain printable len c.if-count-eq93.true in
    let m = whole_moved l part c.args.count c.args.byte len c.if-count-eq93.true in
    let a = c.take_record.ensures.records l.records (record { count = has.count; stage = has.stage; facts = has.facts; digest = has.digest }) in
    match_ok c.take_record.result _ _ _ _ _ a c.take_record.ensures.position
    (λ u h p. (f ∙ h.0, subst (λ (n : Layout). HasLayout c.take_record.new.self n) (sym m) (record { place = rw p.0 refl; records = h.1 })))
    (λ e h. subst (λ (o : Option FileFault). TellsKind e o) (sym f) h)

pub returns-then-count-eq93-clause-memory : goal.returns-then-count-eq93-clause-memory
returns-then-count-eq93-clause-memory c = λ l has.
    let part = c.args.self.now.part in
    let len : length part ≡ 94 = search rules in
    let plain = sym c.is_line_end.ensures ∙ c.if-is_line_end.false in
    let printable = sym c.is_printable.ensures ∙ c.if-not-is_printable.false in
    let f = whole_fault_is l.records part c.args.count c.args.byte plain printable len c.if-count-eq93.true in
    let m = whole_moved l part c.args.count c.args.byte len c.if-count-eq93.true in
    let a = c.take_record.ensures.memory l.records (record { count = has.count; stage = has.stage; facts = has.facts; digest = has.digest }) in
    if_err_map c.take_record.result _ _ (λ e h memory. let p = h memory in (f ∙ p.0, subst (λ (n : Layout). item_room c.args.self.now < items_in n.records) (sym m) p.1)) a
