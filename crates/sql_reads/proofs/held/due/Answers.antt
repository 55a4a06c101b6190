use Rattle.std.proofs.Common.{◌∙◌, ap, sym, List}
use Rattle.std.specs.List.{flat_map}
use Rattle.desk_book.specs.OnCut.{due_submissions, is_due}
use Rattle.desk_book.specs.declared.held_submission.HeldSubmission.{HeldSubmission}
use Rattle.desk_rules.specs.declared.bodies.company.Company.{Company}
use Rattle.sql_tables.specs.Composed.{waiting_of_in}
use Rattle.sql_tables.specs.Tables.{Tables}
use Rattle.sql_read_steps.proofs.InTurn.{query, learnt, both, answered}
use Rattle.sql_read_steps.proofs.ListReads.{flat_map_same}
use Rattle.sql_reads.proofs.HeldRows.{filter-flat_map}
use Rattle.sql_reads.proofs.held.due.Goals as goal

pub returns : goal.returns
returns g c =
    let holidays = c.args.holidays.now in
    let day = c.args.day in
    let due : Tables → Company → List HeldSubmission = λ t k. due_submissions holidays day (waiting_of_in k t) in
    let companies = query (rw c.in_ok-companies.ensures at c.companies.ensures.answer) c.companies.ensures.stays c.companies.ensures.survives in
    answered (both companies (learnt c.read_each.ensures c.in_ok-lists.was))
    (λ t told.
    c.in_ok-all.ensures
    ∙ flat_map_same (λ list. list.items) (due t) c.in_ok-lists.lists.items c.in_ok-companies.companies.items told.1
    ∙ ap (flat_map (due t)) told.0
    ∙ sym (filter-flat_map (is_due holidays day) (λ k. waiting_of_in k t) t.companies))
