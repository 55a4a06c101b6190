use Rattle.std.proofs.Common.{◌≡◌, ◌-◌, ◌<◌, ◌≤◌, ◌+◌, ◌∙◌, sym, ap, set, length, arith}
use Rattle.desk_book.specs.Steps.{returned_state_by}
use Rattle.memory_store.proofs.Numbered.{numbered_before, numbered_past, numbered_at}
use Rattle.memory_store.proofs.intake.bring_back.Goals as goal

pub returns-then-at-len : goal.returns-then-at-len
returns-then-at-len c =
    let states = c.args.states.now.items in
    let number = c.args.returned.now.row.index in
    let place : number ≡ 1 + (number - 1) = omega arith in
    let within : number - 1 < length states = omega arith in
    ap (set states (number - 1)) (c.come_back.ensures ∙ ap (returned_state_by c.args.returned.now) c.index.ensures)
    ∙ sym (numbered_at (returned_state_by c.args.returned.now) number 1 states (number - 1) c.index.result.now place within)

pub returns-else-at-len : goal.returns-else-at-len
returns-else-at-len c =
    let states = c.args.states.now.items in
    let past : 1 + length states ≤ c.args.returned.now.row.index = omega arith in
    sym (numbered_past (returned_state_by c.args.returned.now) c.args.returned.now.row.index 1 states past)

pub returns-else-number-ge1 : goal.returns-else-number-ge1
returns-else-number-ge1 c = sym (numbered_before (returned_state_by c.args.returned.now) c.args.returned.now.row.index 1 c.args.states.now.items c.if-number-ge1.false)
