use Rattle.std.proofs.Common.{[], refl, arith}
use Rattle.http_session.proofs.ServedOn.{none_stands, served_more}
use Rattle.http_session.proofs.serving.serve.Goals as goal

pub loop-served-init : goal.loop-served-init
loop-served-init g c = record {
  before = λ clean. clean;
  so_far = ([], refl, refl, none_stands g.D.Answers.step (g.D.Answers.is_clean c.args.desk.now) (g.D.Answers.stands_for c.args.desk.now));
}

pub loop-served-preserved : goal.loop-served-preserved
loop-served-preserved g c =
    let (exchanges, served, stands) = c.serve_connection.ensures.served in record {
      before = λ clean. c.loop-served.invariant.before (c.serve_connection.ensures.before clean);
      so_far = served_more g.L.Listener g.L.Stream.Connection g.L.Stream.Source g.L.Stream.Sink c.args.patience g.D.Answers
          c.args.listener.now c.loop-served.listener c.serve_connection.new.listener c.args.desk.now c.loop-served.desk c.serve_connection.new.desk
          c.loop-served.served exchanges c.serve_connection.ensures.before c.loop-served.invariant.so_far
          (record {
            stream = c.in-Ok.stream;
            mid = c.accept.new.self;
            accepts = c.in-Ok.ensures;
            served = served;
          }) stands;
    }

pub returns-clause-told : goal.returns-clause-told
returns-clause-told g c =
    let (sessions, is, size, after) = c.loop-served.invariant.so_far in (
      sessions,
      record {
        left = c.loop-served.listener;
        accepts = is;
        ends = (omega (arith, size, c.loop-served-test.false, c.loop-served.auto.served-end), refl);
      },
      after,
    )

pub returns-in_default-clause-told : goal.returns-in_default-clause-told
returns-in_default-clause-told g c =
    let (sessions, is, size, after) = c.loop-served.invariant.so_far in (
      sessions,
      record {
        left = c.loop-served.listener;
        accepts = is;
        ends = (omega (arith, size, c.loop-served-test.true), omega (arith, size), c.in_default.ensures);
      },
      after,
    )
