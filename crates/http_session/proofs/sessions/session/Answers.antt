use Rattle.http_session.proofs.FaultLemmas.{leaves}
use Rattle.http_session.proofs.sessions.session.Goals as goal

pub returns-clause-left : goal.returns-clause-left
returns-clause-left g c =
    leaves g.R.Source g.W.Sink _ _ _ _ _ c.session_with_tries.ensures.fault c.session_with_tries.ensures.flushed
