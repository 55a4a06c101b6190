use Rattle.std.proofs.Common.{◌≤◌, ◌+◌, arith, length}
use Rattle.sql_read_steps.proofs.InTurn.{query, learned}
use Rattle.sql_reads.proofs.SettledRuns.{settled_together}
use Rattle.sql_reads.proofs.latest.sent_together.Goals as goal

pub returns-then-have_places : goal.returns-then-have_places
returns-then-have_places g c =
    let sent = query (rw c.in_ok-sent.ensures at c.entry_places.ensures.answer) c.entry_places.ensures.stays c.entry_places.ensures.survives in
    let first = c.in-Some.first.now in
    let last = c.saturating_sub.result in
    let places = c.args.places.now in
    let within : first + length places ≤ last + 1 = omega (arith, c.saturating_sub.ensures, c.in-Some-place_behind.ensures.behind) in
    learned sent.so
    (λ t told. settled_together t first last places c.in_ok-sent.sent.items c.in-Some-place_behind.ensures.follow within told (rw c.deref.ensures.value at c.have_places.ensures c.if-have_places.true))
