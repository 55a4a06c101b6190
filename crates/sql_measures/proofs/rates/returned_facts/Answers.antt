use Rattle.std.proofs.Common.{◌∙◌, subst}
use Rattle.std.specs.Prelude.{Contains}
use Rattle.sql_read_steps.proofs.InTurn.{query, learnt, both, answered}
use Rattle.sql_read_steps.proofs.ListReads.{flat_map_same}
use Rattle.sql_measures.specs.Counted.{earlier_facts}
use Rattle.sql_measures.proofs.rates.returned_facts.Goals as goal

pub returns : goal.returns
returns g c =
    let orders = query (rw c.in_ok-orders.ensures at c.orders_returned.ensures.answer) c.orders_returned.ensures.stays c.orders_returned.ensures.survives in
    answered (both orders (learnt c.read_each.ensures c.in_ok-lists.was))
    (λ t told. record {
      orders = c.distinct-orders.result.items;
      rise = c.distinct-orders.ensures.rise;
      all = λ o has. c.distinct-orders.ensures.all o (subst (λ l. Contains l o) (Rattle.std.proofs.Common.sym told.0) has);
      are = c.in_ok-all.ensures ∙ flat_map_same (λ list. list.items) (earlier_facts c.args.company c.args.since t) c.in_ok-lists.lists.items c.distinct-orders.result.items told.1;
    })
