use Rattle.std.proofs.Common.{◌∙◌, ap}
use Rattle.sql_read_steps.proofs.InTurn.{query, answered}
use Rattle.sql_measures.proofs.OpenHeads.{open_suffice}
use Rattle.sql_measures.specs.Counted.{heads_exposures}
use Rattle.sql_measures.proofs.open_cents.exposed_submissions.Goals as goal

pub returns-in_ok-heads-in-Some : goal.returns-in_ok-heads-in-Some
returns-in_ok-heads-in-Some g c =
    answered (query (rw c.in_ok-heads-in-Some.ensures at c.open_submissions.ensures.answer) c.open_submissions.ensures.stays c.open_submissions.ensures.survives)
    (λ t are. ap (λ heads. heads_exposures t heads c.args.today c.args.calendar.now) are ∙ open_suffice t c.args.today c.args.calendar.now c.in-Some.since c.in-Some.ensures c.args.company)
