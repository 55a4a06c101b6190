use Rattle.std.proofs.Common.{◌∙◌, ap, map, max}
use Rattle.std.specs.List.{reduce}
use Rattle.std.specs.Prelude.{filter_map}
use Rattle.sql_tables.specs.Composed.{settled_at}
use Rattle.sql_tables.specs.TableReads.{places_between}
use Rattle.sql_read_steps.proofs.InTurn.{query, learnt, both, answered}
use Rattle.sql_read_steps.proofs.ListReads.{filter_map_all}
use Rattle.sql_reads.proofs.latest.latest_settled.Goals as goal

pub returns : goal.returns
returns g c =
    let places = query (rw c.in_ok-places.ensures at c.places.ensures.answer) c.places.ensures.stays c.places.ensures.survives in
    answered (both places (learnt c.days_at.ensures c.in_ok-days.was))
    (λ t told.
    rw c.deref.ensures.value at c.latest_of.ensures
    ∙ ap (λ days. reduce max (filter_map (λ day. day) days)) (told.1 ∙ ap (map (λ place. settled_at place t)) told.0)
    ∙ ap (reduce max) (filter_map_all (λ place. settled_at place t) (places_between c.args.from c.args.to t)))
