use Rattle.std.proofs.Common.{rules}
use Rattle.sqlite.specs.Held.{state}
use Rattle.sql_statements.proofs.Edits.{makes_of}
use Rattle.sql_statements.proofs.Inside.{inside_as}
use Rattle.sql_tables.specs.Layout.{desk_layout}
use Rattle.sql_tables.specs.TableEdits.{new_submission_record, put_submission_edit}
use Rattle.sql_writes.proofs.SubmissionRows.{submission_put}
use Rattle.sql_writes.proofs.submissions.put_submission.Goals as goal

pub returns : goal.returns
returns g c =
    inside_as g.S.Store
    (λ told clean.
    let old = state g.S.Store c.args.tx.now.conn.now in
    let new = state g.S.Store c.execute.new.tx.conn.now in
    let shown = (told clean).shown in
    let count = c.in_ok-execute.field-0 in
    let x = new_submission_record c.args.company.now c.args.order c.args.content.now c.args.retry.now in
    let ran = rw (c.characters.ensures, c.bytes.ensures.value, c.in_ok-order.ensures, c.characters-2.ensures, c.bytes-2.ensures.value, c.characters-3.ensures, c.text.ensures, c.direction.ensures, c.characters-4.ensures, c.bytes-3.ensures.value, c.date.ensures, c.day.ensures.value, c.retried_reference.ensures, c.in_ok-of_index.ensures, c.switch.ensures) at (told clean).ran in
    makes_of desk_layout (put_submission_edit c.args.company.now c.args.order c.args.content.now c.args.retry.now) old new shown
    (λ t h. let done = submission_put x old new count ran t h in (done.0, (done.1, done.2, c.asks_as.ensures (search rules))))) c.in_ok-execute.ensures
