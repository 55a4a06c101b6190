use Rattle.std.proofs.Common.{◌≡◌, ◌∙◌, ap, sym, rules, Some, option_map}
use Rattle.sql_tables.specs.TableReads.{row_under_in, whole_row}
use Rattle.sql_read_steps.proofs.InTurn.{query, read, both, answered, answered_last}
use Rattle.sql_reads.proofs.rows.submission.Goals as goal

pub returns-in_ok-row-in-Some : goal.returns-in_ok-row-in-Some
returns-in_ok-row-in-Some g c =
    let head = query (rw c.in_ok-head.ensures at c.submission.ensures.answer) c.submission.ensures.stays c.submission.ensures.survives in
    answered (both head (read c.row.ensures c.in_ok-row-in-Some.was).so) (λ t told. ap Some told.1 ∙ ap (option_map (whole_row t)) (sym c.in-Some.is ∙ told.0))

pub returns-in_err-row-in-Some : goal.returns-in_err-row-in-Some
returns-in_err-row-in-Some g c =
    let head = query (rw c.in_ok-head.ensures at c.submission.ensures.answer) c.submission.ensures.stays c.submission.ensures.survives in
    answered_last {Next = λ found t. found ≡ row_under_in c.args.company c.args.reference t} head (record {
      answer = λ clean. search rules;
      stays = c.row.ensures.stays;
      survives = c.row.ensures.survives;
    }) (λ x t found told. told)
