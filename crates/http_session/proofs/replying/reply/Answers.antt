use Rattle.std.proofs.Common.{ap, Some, not}
use Rattle.http_session.proofs.replying.reply.Goals as goal

pub returns-in-Ok-send-clause-replied : goal.returns-in-Ok-send-clause-replied
returns-in-Ok-send-clause-replied g c = record {
  answer = Some c.in-Ok.bytes.items;
  answered = c.in-Ok.ensures.answers;
  sends = rw c.deref.ensures.value at c.in-Ok-send.ensures.sends;
  tells = ap not c.closes-closes.ensures;
}

pub returns-in-Ok-clause-replied : goal.returns-in-Ok-clause-replied
returns-in-Ok-clause-replied g c = record {
  answer = Some c.in-Ok.bytes.items;
  answered = c.in-Ok.ensures.answers;
  sends = rw c.deref.ensures.value at c.in-Err-send.ensures.sends;
  tells = tt;
}
