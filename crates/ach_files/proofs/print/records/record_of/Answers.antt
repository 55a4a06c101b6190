use Rattle.ach_records.proofs.Rows.{refused_row}
use Rattle.ach_files.proofs.print.records.record_of.Goals as goal

pub returns-in-Ok : goal.returns-in-Ok
returns-in-Ok c = λ old values p. rw c.in-Ok.is at p

pub returns-in-Err : goal.returns-in-Err
returns-in-Err c = λ old values p. refused_row values c.in-Err.field-0 ((rw c.in-Err.is at p).0)
