use Rattle.std.proofs.Common.{sym, subst, List}
use Rattle.http_session.specs.Exchanges.{Exchange}
use Rattle.http_session.proofs.ServedOn.{stands_for_less}
use Rattle.desk_http.specs.Keeping.{KeptHistory, StandsIn, Takes}
use Rattle.cli_commands.specs.ServedRuns.{IsServedBy}
use Rattle.cli_commands.proofs.RememberedRuns.{stands_remembering, stands_within}
use Rattle.cli_commands.proofs.ServedPortLemmas.{port_for_less}
use Rattle.cli_commands.proofs.remembered_desk.serve_remembering.Goals as goal

pub returns-clause-told : goal.returns-clause-told
returns-clause-told g c =
    let first = c.new-store.result in
    let now = c.serve_by_store-status.result.1 in
    let clean = g.S.Store.is_clean now.store in
    let keeps = g.S.Store.keeps in
    let stood = λ (b : KeptHistory) (was : StandsIn g.S.Store c.args.store b).
    stands_remembering (g.S.Store.holds first.store) keeps (g.S.Store.may_leave first.store) b first.known c.numbered_books.ensures c.new-store.ensures.known
    (subst (λ s. StandsIn g.S.Store s b) (sym c.new-store.ensures.store) was) in
    let less = λ (exchanges : List Exchange). stands_for_less Takes clean clean
    (StandsIn g.S.Store c.args.store) _ _ (StandsIn g.S.Store now.store) exchanges
    (λ c. c) (λ _. stood) (λ b. stands_within (g.S.Store.holds now.store) keeps (g.S.Store.may_leave now.store) b now.known) in
    rw c.into_inner.ensures (port_for_less g.N.Bound.Listener g.N.Bound.Stream.Connection g.N.Bound.Stream.Source g.N.Bound.Stream.Sink g.W.Sink
    c.args.options _ (IsServedBy g.S.Store c.args.store now.store) less g.N.Network c.args.network.now c.serve_by_store-status.new.network
    c.args.writer.now c.serve_by_store-status.new.writer c.serve_by_store-status.result.0 c.serve_by_store-status.ensures.told)
