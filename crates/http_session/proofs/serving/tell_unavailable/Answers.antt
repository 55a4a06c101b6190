use Rattle.std.proofs.Common.{Ok, Err, refl}
use Rattle.io_retries.proofs.FailureLemmas.{cannot_write}
use Rattle.http_session.proofs.serving.tell_unavailable.Goals as goal

pub returns-in-Ok : goal.returns-in-Ok
returns-in-Ok g c = record {
  told = c.write_all_with_retries.new.writer;
  wrote = Ok c.in-Ok.field-0;
  writes = (c.in-Ok.ensures.bytes, c.in-Ok.ensures.flushed);
  lingers = c.linger.ensures;
  breaks = tt;
}

pub returns-in-Err : goal.returns-in-Err
returns-in-Err g c = record {
  told = c.write_all_with_retries.new.writer;
  wrote = Err c.in-Err.field-0;
  writes = (c.in-Err.ensures.bytes, cannot_write g.S.Sink _ _ c.in-Err.ensures.fault);
  lingers = tt;
  breaks = refl;
}
