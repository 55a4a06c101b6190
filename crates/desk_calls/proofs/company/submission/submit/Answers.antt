use Rattle.desk_history.specs.Request as request
use Rattle.desk_calls.proofs.Adding.{answers_added, leaves_added}
use Rattle.desk_calls.proofs.Asked.{submission_told}
use Rattle.desk_calls.proofs.company.submission.submit.Goals as goal

pub returns : goal.returns
returns g c =
    record {
      before = λ clean. c.submission_verdict.ensures.before (c.add.ensures.before clean);
      answers = λ clean.
          answers_added c.args.company (request.Submit c.args.draft.now) _ (λ b. submission_told b c.args.company c.args.draft.now) _ _ _
          c.in_ok-verdict.verdict c.add.result (c.in_ok-verdict.ensures.read (c.add.ensures.before clean)) (c.add.ensures.answers clean);
      left = λ clean.
          leaves_added c.args.company (request.Submit c.args.draft.now) _ (λ b. submission_told b c.args.company c.args.draft.now) g.S.Store.keeps _ _ _ _ _
          c.in_ok-verdict.verdict c.add.result (c.in_ok-verdict.ensures.read (c.add.ensures.before clean))
          (c.in_ok-verdict.ensures.left (c.add.ensures.before clean)) (c.add.ensures.left clean);
    }
