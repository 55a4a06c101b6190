use Rattle.std.proofs.Common.{rules, ◌∙◌, ap, filter, not}
use Rattle.std.proofs.lemmas.Fn.{filter_same}
use Rattle.std.specs.List.{flat_map}
use Rattle.sql_tables.specs.TableReads.{is_since, whole_row}
use Rattle.sql_read_steps.proofs.InTurn.{query, learnt, told_then, learned}
use Rattle.sql_measures.specs.Counted.{debit_facts}
use Rattle.sql_measures.proofs.rates.EarlierFactsItemRead.read_item.Goals as goal

pub returns : goal.returns
returns g c =
    let since = c.args.self.now.since in
    let heads = query (rw c.in_ok-heads.ensures at c.numbered_submission.ensures.answer) c.numbered_submission.ensures.stays c.numbered_submission.ensures.survives in
    learned (told_then heads.so (learnt c.facts_of_debits.ensures c.in_ok-found.was))
    (λ t told.
    told.1
    ∙ ap (flat_map (λ head. debit_facts (whole_row t head)))
    (filter_same _ (λ head. not (is_since since head.settled)) _ (λ head is_kept next called. (search rules, search rules)) _ _ c.retain.ensures.filtered
    ∙ ap (filter (λ head. not (is_since since head.settled))) told.0))
