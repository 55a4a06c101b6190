use Rattle.std.proofs.Common.{◌∙◌}
use Rattle.sql_tables.specs.TableReads.{whole_row}
use Rattle.sql_read_steps.proofs.InTurn.{learnt, learned}
use Rattle.sql_read_steps.proofs.ListReads.{flat_map_same}
use Rattle.sql_measures.specs.Counted.{debit_facts}
use Rattle.sql_measures.proofs.facts.facts_of_debits.Goals as goal

pub returns : goal.returns
returns g c =
    learned (learnt c.read_each.ensures c.in_ok-lists.was)
    (λ t are. c.in_ok-all.ensures ∙ flat_map_same (λ list. list.items) (λ head. debit_facts (whole_row t head)) c.in_ok-lists.lists.items c.args.heads.items are)
