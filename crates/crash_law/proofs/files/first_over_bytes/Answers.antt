use Rattle.crash_law.proofs.Openings.{first_over_bytes}
use Rattle.crash_law.proofs.files.first_over_bytes.Goals as goal

pub returns : goal.returns
returns g c = first_over_bytes c.first_calls.ensures c.calls_are_history.ensures g.S.Store
