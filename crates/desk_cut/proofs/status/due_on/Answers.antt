use Rattle.std.proofs.Common.{◌∙◌, sym}
use Rattle.std.specs.Prelude.{OnErr, Result, Ok, Err}
use Rattle.desk_cut.proofs.IsDue.{beyond_due, sent_due}
use Rattle.desk_cut.proofs.status.due_on.Goals as goal

on_err : {A E : Type 0} (r : Result A E) (P : Type 0) → P → OnErr r P
on_err (Ok x) P holds = tt
on_err (Err e) P holds = holds

pub returns-then-settles_beyond-clause-memory : goal.returns-then-settles_beyond-clause-memory
returns-then-settles_beyond-clause-memory c =
    beyond_due c.args.holidays.now c.args.day c.args.sizes.now (sym c.settles_beyond.ensures ∙ c.if-settles_beyond.true)

pub returns-in_err-loads-clause-memory : goal.returns-in_err-loads-clause-memory
returns-in_err-loads-clause-memory c =
    on_err c.from_residual-in_err-loads.result _
    (sent_due c.args.holidays.now c.args.day c.args.sizes.now c.deref.result.now (c.deref.ensures.value ∙ c.in_ok-decided.ensures.sent) c.in_err-loads.ensures.memory)

pub returns-in_err-due-clause-memory : goal.returns-in_err-due-clause-memory
returns-in_err-due-clause-memory c =
    on_err c.from_residual-in_err-due.result _
    (sent_due c.args.holidays.now c.args.day c.args.sizes.now c.deref-2.result.now (c.deref-2.ensures.value ∙ c.in_ok-decided.ensures.sent) c.in_err-due.ensures.memory)
