use Rattle.std.proofs.Common.{Ok, Err, refl}
use Rattle.http_session.proofs.serving.converse.Goals as goal

pub returns-in-Ok-clause-converses : goal.returns-in-Ok-clause-converses
returns-in-Ok-clause-converses g c =
    let (exchanges, spoke, stands) = c.in-Ok.ensures.ran in (
      exchanges,
      record {
        after = c.session.new.reader;
        ended = Ok c.in-Ok.field-0;
        spoke = spoke;
        leaves = c.in-Ok.ensures.left;
        lingers = c.linger.ensures;
        breaks = tt;
      },
      stands,
    )

pub returns-in-Err-clause-converses : goal.returns-in-Err-clause-converses
returns-in-Err-clause-converses g c =
    let (exchanges, spoke, stands) = c.in-Err.ensures.ran in (
      exchanges,
      record {
        after = c.session.new.reader;
        ended = Err c.in-Err.field-0;
        spoke = spoke;
        leaves = c.in-Err.ensures.left;
        lingers = tt;
        breaks = refl;
      },
      stands,
    )
