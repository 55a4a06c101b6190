use Rattle.std.proofs.Common.{◌<◌, All, List, map, sym, subst}
use Rattle.std.proofs.lemmas.List.Elements.{All-map}
use Rattle.desk_plan.specs.declared.batch.Batch.{Batch}
use Rattle.desk_history.specs.Sendings as history
use Rattle.desk_cut.specs.Sent.{due_in}
use Rattle.desk_cut.specs.declared.due.DueSubmission.{DueSubmission}
use Rattle.desk_cut.proofs.numbers.load.Goals as goal

pub returns-clause-later : goal.returns-clause-later
returns-clause-later c =
    subst (λ (loads : List Batch). All (λ b. c.args.day < b.settled) loads) (sym c.in_ok-loads.ensures.value)
    (All-map (λ (b : Batch). c.args.day < b.settled) history.plan_of (map due_in c.deref.result.now)
    (All-map (λ (s : history.Sending). c.args.day < s.settled) due_in c.deref.result.now
    (subst (λ (sent : List DueSubmission). All (λ s. c.args.day < s.settled) sent) (sym c.deref.ensures.value) c.in_ok-sent.ensures.later)))
