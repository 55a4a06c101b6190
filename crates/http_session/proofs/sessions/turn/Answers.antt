use Rattle.std.proofs.Common.{◌≡◌, ◌⊎◌, ℕ, List, [], ◌++◌, drop, length, Ok, Err, inl, inr, refl, sym, ap, ◌∙◌, subst, arith, length-drop}
use Rattle.std.proofs.KnownBytes.{Appends-nil}
use Rattle.httparse.specs.Spans.{IsRequestAt}
use Rattle.http_message.specs.Heads.{request_of}
use Rattle.http_message.specs.Message.{asked, bad_head}
use Rattle.http_message.specs.Stream.{Reads}
use Rattle.http_message.proofs.StartLemmas.{cut_is_little, part_is_little}
use Rattle.http_response.specs.Response.{unavailable_text}
use Rattle.io_retries.specs.Failures.{ReadFailed, WriteFailed}
use Rattle.http_session.specs.Faults.{AfterFault, UnlessCutOff}
use Rattle.http_session.specs.Turns.{Turned}
use Rattle.http_session.specs.declared.sessions.Ended.TheVariants.{Closed, Cut}
use Rattle.http_session.specs.declared.sessions.SessionFault.TheVariants.{Read}
use Rattle.http_session.proofs.FaultLemmas.{turn_faults, turn_flushes}
use Rattle.http_session.proofs.TurnLemmas.{ends_before, gave_up, turned}
use Rattle.http_session.proofs.sessions.turn.Goals as goal

pub returns-in-Fault-clause-turned : goal.returns-in-Fault-clause-turned
returns-in-Fault-clause-turned g c start before old count e p =
    ends_before _ _ _ _ _ _ _ _ _ _ _ _ c.in-Fault.ensures.arrived.taken (Err Read) [] [] p c.in-Fault.ensures.arrived.takes
    (Appends-nil _) refl (refl, c.in-Fault.ensures.arrived.is) (part_is_little _ c.in-Fault.ensures.arrived.is)

pub returns-in-Ok-clause-turned : goal.returns-in-Ok-clause-turned
returns-in-Ok-clause-turned g c start before old count e p =
    ends_before _ _ _ _ _ _ _ _ _ _ _ _ c.in-NoRoom.ensures.arrived.taken (Ok Closed) unavailable_text unavailable_text p c.in-NoRoom.ensures.arrived.takes
    c.in-Ok.ensures.sends refl (inr (refl, c.in-NoRoom.ensures.arrived.is.0)) c.in-NoRoom.ensures.arrived.is.1

pub returns-in-Err-clause-turned : goal.returns-in-Err-clause-turned
returns-in-Err-clause-turned g c start before old count e p =
    gave_up _ _ _ _ _ _ _ _ _ _ _ _ c.in-NoRoom.ensures.arrived.taken c.in-Err.fault p c.in-NoRoom.ensures.arrived.takes c.in-NoRoom.ensures.arrived.is.0 c.in-NoRoom.ensures.arrived.is.1 c.in-Err.ensures.sends

pub returns-in-End-clause-turned : goal.returns-in-End-clause-turned
returns-in-End-clause-turned g c start before old count e p =
    ends_before _ _ _ _ _ _ _ _ _ _ _ _ c.in-End.ensures.arrived.taken (Ok Closed) [] [] p c.in-End.ensures.arrived.takes
    (Appends-nil _) refl (inl (refl, c.in-End.ensures.arrived.is.0, c.in-End.ensures.arrived.is.1)) (part_is_little _ (inl c.in-End.ensures.arrived.is.0))

pub returns-in-Cut-clause-turned : goal.returns-in-Cut-clause-turned
returns-in-Cut-clause-turned g c start before old count e p =
    ends_before _ _ _ _ _ _ _ _ _ _ _ _ c.in-Cut.ensures.arrived.taken (Ok Cut) [] [] p c.in-Cut.ensures.arrived.takes
    (Appends-nil _) refl (refl, c.in-Cut.ensures.arrived.is.0, c.in-Cut.ensures.arrived.is.1) (cut_is_little _ c.in-Cut.ensures.arrived.is.0)

pub returns-in-BadHead-clause-turned : goal.returns-in-BadHead-clause-turned
returns-in-BadHead-clause-turned g c start before old count e p =
    let came = c.in-BadHead.ensures.arrived in
    subst (Turned _ _ _ _ _ _ _ _ _ _) (sym c.turn_of.ensures)
    (turned _ _ _ _ _ _ _ _ _ _ _ _ count _ came.taken _ bad_head c.args.is_last c.reply-told.result e
    c.reply-told.ensures.before p came.takes came.is c.reply-told.ensures.replied came.few)

pub returns-in-Request-clause-turned : goal.returns-in-Request-clause-turned
returns-in-Request-clause-turned g c start before old count e p =
    let came = c.in-Request.ensures.arrived in
    let h = came.is.head in
    let body = c.in-Request.body.items in
    let At : List ℕ → Type 0 = λ bytes. IsRequestAt bytes c.read_message.new.fields c.in-Request.head h in
    let parts : At c.bytes.result.now = subst At (sym c.bytes.ensures.value) came.is.at.parts in
    let replied = c.reply_to_request-told.ensures.replied h parts in
    let rest_is = c.skip-in-Request.ensures ∙ ap (λ n. drop n c.skip.new.self) (c.len-size.ensures ∙ c.in-Request.body.ok.0) ∙ ap (λ l. drop (length body) l) c.skip.ensures in
    let sizes = simp length-drop at (ap length rest_is) in
    let few = came.few in
    let Rest : List ℕ → Type 0 = λ l. Reads c.args.is_last (c.args.unread.now ++ came.taken) (asked (request_of h body c.args.is_last)) l in
    let reads : Rest c.skip-in-Request.new.self = subst Rest (sym rest_is) (came.is.reads c.args.is_last) in
    subst (Turned _ _ _ _ _ _ _ _ _ _) (sym c.turn_of-in-Request.ensures)
    (turned _ _ _ _ _ _ _ _ _ _ _ _ count _ came.taken _ (asked (request_of h body c.args.is_last)) c.args.is_last c.reply_to_request-told.result e
    c.reply_to_request-told.ensures.before p came.takes reads replied (omega (arith, sizes, few)))

pub returns-in-BadHead-clause-fault : goal.returns-in-BadHead-clause-fault
returns-in-BadHead-clause-fault g c =
    let OfRead = ReadFailed g.R.Source c.read_message.new.reader c.reply-told.new.tries in
    let OfWrite = WriteFailed g.W.Sink c.reply-told.new.writer c.reply-told.new.tries in
    subst (λ r. AfterFault r OfRead OfWrite) (sym c.turn_of.ensures) (turn_faults c.reply-told.result c.args.is_last OfRead OfWrite c.reply-told.ensures.fault)

pub returns-in-Request-clause-fault : goal.returns-in-Request-clause-fault
returns-in-Request-clause-fault g c =
    let told = c.reply_to_request-told in
    let OfRead = ReadFailed g.R.Source c.read_message.new.reader told.new.tries in
    let OfWrite = WriteFailed g.W.Sink told.new.writer told.new.tries in
    subst (λ r. AfterFault r OfRead OfWrite) (sym c.turn_of-in-Request.ensures) (turn_faults told.result c.args.is_last OfRead OfWrite told.ensures.fault)

pub returns-in-BadHead-clause-flushed : goal.returns-in-BadHead-clause-flushed
returns-in-BadHead-clause-flushed g c =
    let writer = c.reply-told.new.writer in
    let Flushed = (writer ≡ c.args.writer.now) ⊎ g.W.Sink.is_flushed writer in
    subst (λ r. UnlessCutOff r Flushed) (sym c.turn_of.ensures) (turn_flushes c.reply-told.result c.args.is_last Flushed c.reply-told.ensures.flushed)

pub returns-in-Request-clause-flushed : goal.returns-in-Request-clause-flushed
returns-in-Request-clause-flushed g c =
    let told = c.reply_to_request-told in
    let Flushed = (told.new.writer ≡ c.args.writer.now) ⊎ g.W.Sink.is_flushed told.new.writer in
    subst (λ r. UnlessCutOff r Flushed) (sym c.turn_of-in-Request.ensures) (turn_flushes told.result c.args.is_last Flushed told.ensures.flushed)
