use Rattle.std.proofs.Common.{sym}
use Rattle.desk_intake.specs.ReturnedEntries.{HasEntries}
use Rattle.desk_intake.specs.Resolutions.{matched_item_as}
use Rattle.desk_intake.proofs.Repeats.{returned_again, returned_first}
use Rattle.desk_intake.proofs.resolution.unless_repeated.Goals as goal

pub returns-then-branch : goal.returns-then-branch
returns-then-branch c = λ es has.
    let told = c.in_ok-add.ensures es has in
    returned_first (matched_item_as c.args.met) es (HasEntries c.add.new.self) c.args.before c.in_ok-add.field-0
    c.if-before.false (sym c.if-not-is_return.ensures) c.if-branch.true told.0 told.1

pub returns-else-branch : goal.returns-else-branch
returns-else-branch c = λ es has.
    let told = c.in_ok-add.ensures es has in
    returned_again (matched_item_as c.args.met) es (HasEntries c.add.new.self) c.args.before c.in_ok-add.field-0
    c.if-before.false (sym c.if-not-is_return.ensures) c.if-branch.false told.0 told.1
