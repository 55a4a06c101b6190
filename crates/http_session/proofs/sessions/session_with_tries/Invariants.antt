use Rattle.std.proofs.Common.{◌≡◌, ◌⊎◌, length}
use Rattle.http_session.specs.Turns.{SoFar}
use Rattle.http_session.proofs.sessions.session_with_tries.Given as goal

abbrev pub invariant-loop-count : goal.invariant-loop-count
invariant-loop-count g l = record {
  fits : length l.fields ≡ 32;
  before : g.D.Answers.is_clean l.desk → g.D.Answers.is_clean l.fn.desk;
  so_far : SoFar g.D.Answers.step (g.D.Answers.is_clean l.desk) (g.D.Answers.stands_for l.fn.desk) (g.D.Answers.stands_for l.desk)
      (g.R.Source.remaining l.fn.reader) (g.R.Source.remaining l.reader) (g.W.Sink.contents l.fn.writer) (g.W.Sink.contents l.writer) l.count l.unread;
  flushed : (l.writer ≡ l.fn.writer) ⊎ g.W.Sink.is_flushed l.writer;
}
