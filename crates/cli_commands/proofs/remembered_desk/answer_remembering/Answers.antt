use Rattle.std.proofs.Common.{rules, sym, subst}
use Rattle.desk_http.specs.Keeping.{KeptHistory, StandsIn}
use Rattle.cli_commands.proofs.RememberedRuns.{stands_remembering, stands_within}
use Rattle.cli_commands.proofs.SessionRuns.{breaks_off_from, has_answered_from}
use Rattle.cli_commands.proofs.remembered_desk.answer_remembering.Goals as goal

pub returns : goal.returns
returns g c =
    let first = c.new-store.result in
    let now = c.answer_by_store-status.result.1 in
    let keeps = g.S.Store.keeps in
    let stood = λ (b : KeptHistory) (was : StandsIn g.S.Store c.args.store b).
    stands_remembering (g.S.Store.holds first.store) keeps (g.S.Store.may_leave first.store) b first.known c.numbered_books.ensures c.new-store.ensures.known
    (subst (λ s. StandsIn g.S.Store s b) (sym c.new-store.ensures.store) was) in
    let within = λ (b : KeptHistory). stands_within (g.S.Store.holds now.store) keeps (g.S.Store.may_leave now.store) b now.known in record {
      before = search rules;
      answered = λ fine.
          rw c.into_inner.ensures (has_answered_from g.R.Source _ _ g.W.Sink _ _ (g.S.Store.is_clean now.store) _ (StandsIn g.S.Store c.args.store) _ _ _
          (λ clean. clean) (λ _. stood) within _ (c.answer_by_store-status.ensures.answered fine));
      failed = λ failed.
          rw c.into_inner.ensures (breaks_off_from g.R.Source _ _ g.W.Sink _ _ (g.S.Store.is_clean now.store) _ (StandsIn g.S.Store c.args.store) _ _ _
          (λ clean. clean) (λ _. stood) within (c.answer_by_store-status.ensures.failed failed));
    }
