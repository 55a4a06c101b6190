use Rattle.std.proofs.Common.{inl, inr, refl, subst, sym}
use Rattle.io_retries.proofs.FailureLemmas.{cannot_write}
use Rattle.http_session.specs.Sides.{StandsOn}
use Rattle.http_session.proofs.ServedOn.{none_stands}
use Rattle.cli_commands.specs.Printing.{unavailable}
use Rattle.cli_commands.specs.ServedRuns.{TellsServed}
use Rattle.cli_commands.specs.declared.status.Status.{Status}
use Rattle.cli_commands.proofs.PrefixLemmas.{written_on}
use Rattle.cli_commands.proofs.ServedPortLemmas.{ended_badly}
use Rattle.cli_commands.proofs.served_port.serve_and_tell.Goals as goal

pub returns-in_default-clause-told : goal.returns-in_default-clause-told
returns-in_default-clause-told g c = inl (
  (c.in_default.ensures.bytes, cannot_write g.W.Sink _ _ c.in_default.ensures.fault),
  refl,
  none_stands g.D.Answers.step (g.D.Answers.is_clean c.args.desk.now) (g.D.Answers.stands_for c.args.desk.now),
)

pub returns-in-Err-clause-told : goal.returns-in-Err-clause-told
returns-in-Err-clause-told g c =
    let stands = StandsOn g.D.Answers c.args.desk.now c.serve.new.desk in
    let (sessions, serves, after) = c.in-Err.ensures.told in
    let printed = written_on g.W.Sink _ _ _ c.args.line.now unavailable c.in-Ok.ensures.bytes c.print_unavailable.ensures.printed in
    let ended = ended_badly g.L.Listener g.L.Stream.Connection g.L.Stream.Source g.L.Stream.Sink g.W.Sink c.args.options stands
    c.from-connections.result c.from_secs-patience.result c.args.listener.now c.serve.new.listener c.in-Err.field-0 sessions
    c.from-connections.ensures (rw c.from.ensures at c.from_secs-patience.ensures) serves after in
    let Tells : Status → Type 0 = λ status. TellsServed g.L.Listener g.L.Stream.Connection g.L.Stream.Source g.L.Stream.Sink g.W.Sink
    c.args.options stands c.args.line.now c.args.listener.now c.serve.new.listener c.args.writer.now c.print_unavailable.new.writer status in
    subst Tells (sym c.print_unavailable.ensures.status) (inr (printed, ended))
