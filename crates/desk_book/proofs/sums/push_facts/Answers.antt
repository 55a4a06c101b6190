use Rattle.std.proofs.Common.{◌∙◌, ap, ◌++◌, map, zip, Bool}
use Rattle.std.proofs.lemmas.Slice.Zip.{either_empty_from_Zip}
use Rattle.desk_rules.specs.LimitChecks.{is_debit}
use Rattle.desk_rules.specs.declared.bodies.submission.Submission.{Submission}
use Rattle.desk_history.specs.Facts.{entry_fact}
use Rattle.desk_book.proofs.Zips.{zip_ended, made_all}
use Rattle.desk_book.proofs.sums.push_facts.Goals as goal

pub returns : goal.returns
returns c =
    let row = c.args.row.now in
    let ended = zip_ended _ _ (either_empty_from_Zip c.loop-entry.entry-iterator c.next.new.self _ c.in-None.is c.next.ensures.steps) in
    made_all (entry_fact c.is_debit-debit.result) _ _ _ ended c.loop-entry.invariant
    ∙ ap (λ (debit : Bool). c.args.facts.now.items ++ map (entry_fact debit) (zip row.content.entries row.states)) (c.is_debit-debit.ensures ∙ ap (λ (s : Submission). is_debit s.direction) c.submission-content.ensures.value)
