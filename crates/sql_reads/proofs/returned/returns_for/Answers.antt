use Rattle.std.proofs.Common.{ap}
use Rattle.sql_tables.specs.RowParts.{state_among}
use Rattle.sql_tables.specs.TableReads.{returns_in}
use Rattle.sql_read_steps.proofs.InTurn.{query, learned, unasked}
use Rattle.sql_reads.proofs.WholeRows.{held_alike}
use Rattle.sql_reads.proofs.returned.returns_for.Goals as goal

pub returns-in-None : goal.returns-in-None
returns-in-None g c =
    unasked (λ t. rw c.new.ensures.items (held_alike c.args.head.now (returns_in c.args.head.now.company c.args.head.now.order t) c.in-None.is))

pub returns-in_ok-returns-in-Some : goal.returns-in_ok-returns-in-Some
returns-in_ok-returns-in-Some g c =
    let returns = query (rw c.in_ok-returns-in-Some.ensures at c.returns.ensures.answer) c.returns.ensures.stays c.returns.ensures.survives in
    learned returns.so (λ t told index. ap (λ rs. state_among c.args.head.now rs index) told)
