use Rattle.std.proofs.Common.{◌∙◌, ap, sym, Some, option_map}
use Rattle.sql_tables.specs.Composed.{with_return_in}
use Rattle.sql_read_steps.proofs.InTurn.{read, both, answered}
use Rattle.sql_reads.proofs.traced.named_in.Goals as goal

pub returns-in_ok-named-in-Some : goal.returns-in_ok-named-in-Some
returns-in_ok-named-in-Some g c =
    let entry = read c.sent_in.ensures c.in_ok-entry.was in
    let named = read c.with_return.ensures c.in_ok-named-in-Some.was in
    answered (both entry named.so)
    (λ t told known.
    let so = told.0 known in
    (ap Some told.1 ∙ ap (option_map (with_return_in t)) (sym c.in-Some.is ∙ so.0), so.1))
