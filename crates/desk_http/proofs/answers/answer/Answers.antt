use Rattle.std.proofs.Common.{◌≡◌, subst}
use Rattle.std.specs.Prelude.{Bool, IfOk, Err}
use Rattle.http_message.specs.Message.{message_value}
use Rattle.http_history.specs.Verdict.{Verdict}
use Rattle.http_history.specs.Texts.{fault_text}
use Rattle.desk_http.specs.Answering.{answer_in}
use Rattle.desk_http.specs.MadeCalls.{GoesCall}
use Rattle.desk_http.proofs.Messages.{IsRead, fault_left, faulted, made, made_left, replied}
use Rattle.desk_http.proofs.answers.answer.Goals as goal

pub returns-in-Ok-Ok-clause-goes : goal.returns-in-Ok-Ok-clause-goes
returns-in-Ok-Ok-clause-goes g c = λ clean.
    made c.book_tells.ensures c.calls_are_history.ensures (g.S.Store.holds c.args.desk.now) (g.S.Store.holds c.verdict_of.new.desk) (g.S.Store.holds c.carry_out.new.desk)
    (message_value c.args.message) c.in-Ok-Ok.call c.carry_out.result
    (subst (λ (v : Verdict). IsRead (g.S.Store.holds c.args.desk.now) (g.S.Store.holds c.verdict_of.new.desk) (message_value c.args.message) v)
    c.in-Ok-Ok.field-0-is (c.in-Ok-Ok.ensures.read (c.carry_out.ensures.before clean)))
    (subst (λ (b : Bool). GoesCall (g.S.Store.holds c.verdict_of.new.desk) c.in-Ok-Ok.call b c.carry_out.result (g.S.Store.holds c.carry_out.new.desk)) c.closes-closes.ensures (c.carry_out.ensures.goes clean))

pub returns-in-Ok-Ok-clause-replies : goal.returns-in-Ok-Ok-clause-replies
returns-in-Ok-Ok-clause-replies g c = λ clean.
    replied c.one_meaning.ensures c.own_text.ensures (g.S.Store.holds c.args.desk.now) (g.S.Store.holds c.carry_out.new.desk)
    (message_value c.args.message) (answer_in c.carry_out.result) (returns-in-Ok-Ok-clause-goes g c clean)

pub returns-in-Ok-Ok-clause-left : goal.returns-in-Ok-Ok-clause-left
returns-in-Ok-Ok-clause-left g c = λ clean.
    made_left c.book_tells.ensures c.calls_are_history.ensures g.S.Store.keeps (g.S.Store.holds c.args.desk.now) (g.S.Store.holds c.verdict_of.new.desk)
    (g.S.Store.may_leave c.args.desk.now) (g.S.Store.may_leave c.verdict_of.new.desk) (g.S.Store.may_leave c.carry_out.new.desk)
    (message_value c.args.message) c.in-Ok-Ok.call c.carry_out.result
    (subst (λ (v : Verdict). IsRead (g.S.Store.holds c.args.desk.now) (g.S.Store.holds c.verdict_of.new.desk) (message_value c.args.message) v)
    c.in-Ok-Ok.field-0-is (c.in-Ok-Ok.ensures.read (c.carry_out.ensures.before clean)))
    (c.in-Ok-Ok.ensures.left (c.carry_out.ensures.before clean)) (c.carry_out.ensures.left clean)

pub returns-in-Ok-Err-clause-goes : goal.returns-in-Ok-Err-clause-goes
returns-in-Ok-Err-clause-goes g c = λ clean.
    faulted (g.S.Store.holds c.args.desk.now) (g.S.Store.holds c.verdict_of.new.desk) (message_value c.args.message) c.in-Ok-Err.fault c.answer_fault.result
    (subst (λ (v : Verdict). IsRead (g.S.Store.holds c.args.desk.now) (g.S.Store.holds c.verdict_of.new.desk) (message_value c.args.message) v)
    c.in-Ok-Err.field-0-is (c.in-Ok-Err.ensures.read clean))
    (subst (λ (b : Bool). IfOk c.answer_fault.result (λ bytes. bytes.items ≡ fault_text b (Err c.in-Ok-Err.fault))) c.closes-closes.ensures c.answer_fault.ensures)

pub returns-in-Ok-Err-clause-replies : goal.returns-in-Ok-Err-clause-replies
returns-in-Ok-Err-clause-replies g c = λ clean.
    replied c.one_meaning.ensures c.own_text.ensures (g.S.Store.holds c.args.desk.now) (g.S.Store.holds c.verdict_of.new.desk)
    (message_value c.args.message) (answer_in c.answer_fault.result) (returns-in-Ok-Err-clause-goes g c clean)

pub returns-in-Ok-Err-clause-left : goal.returns-in-Ok-Err-clause-left
returns-in-Ok-Err-clause-left g c = λ clean.
    fault_left g.S.Store.keeps (g.S.Store.holds c.args.desk.now) (g.S.Store.holds c.verdict_of.new.desk)
    (g.S.Store.may_leave c.args.desk.now) (g.S.Store.may_leave c.verdict_of.new.desk) (message_value c.args.message) c.in-Ok-Err.fault (answer_in c.answer_fault.result)
    (subst (λ (v : Verdict). IsRead (g.S.Store.holds c.args.desk.now) (g.S.Store.holds c.verdict_of.new.desk) (message_value c.args.message) v)
    c.in-Ok-Err.field-0-is (c.in-Ok-Err.ensures.read clean))
    (c.in-Ok-Err.ensures.left clean)
