use Rattle.http_session.proofs.ServedOn.{ServedSoFar}
use Rattle.http_session.proofs.serving.serve.Given as goal

abbrev pub invariant-loop-served : goal.invariant-loop-served
invariant-loop-served g l = record {
  before : g.D.Answers.is_clean l.desk → g.D.Answers.is_clean l.fn.desk;
  so_far : ServedSoFar g.L.Listener g.L.Stream.Connection g.L.Stream.Source g.L.Stream.Sink l.fn.patience g.D.Answers
      l.fn.listener l.listener l.fn.desk l.desk l.served;
}
