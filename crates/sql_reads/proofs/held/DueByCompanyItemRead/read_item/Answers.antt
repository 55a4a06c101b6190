use Rattle.std.proofs.Common.{rules}
use Rattle.std.proofs.lemmas.Fn.{filter_same}
use Rattle.desk_book.specs.OnCut.{is_due}
use Rattle.sql_tables.specs.Composed.{held_in}
use Rattle.sql_tables.specs.TableReads.{whole_row}
use Rattle.sql_read_steps.proofs.InTurn.{query, learnt, told_then, learned}
use Rattle.sql_reads.proofs.HeldRows.{due_of_heads}
use Rattle.sql_reads.proofs.held.DueByCompanyItemRead.read_item.Goals as goal

pub returns : goal.returns
returns g c =
    let k = c.args.company.now in
    let holidays = c.args.self.now.holidays.now in
    let day = c.args.self.now.day in
    let heads = query (rw c.in_ok-heads.ensures at c.waiting_submissions.ensures.answer) c.waiting_submissions.ensures.stays c.waiting_submissions.ensures.survives in
    learned (told_then heads.so (learnt c.read_each.ensures c.in_ok-found.was))
    (λ t told.
    due_of_heads k t holidays day c.in_ok-found.found.items _ c.in_ok-heads.heads.items told.0
    (filter_same _ (λ head. is_due holidays day (held_in k t (whole_row t head))) _ (λ head is_kept next called. (search rules, search rules)) _ _ c.retain.ensures.filtered)
    told.1)
