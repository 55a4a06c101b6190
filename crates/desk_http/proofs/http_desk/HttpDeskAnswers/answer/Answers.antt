use Rattle.http_message.specs.Message.{message_value}
use Rattle.desk_http.proofs.Steps.{answered}
use Rattle.desk_http.proofs.http_desk.HttpDeskAnswers.answer.Goals as goal

pub returns-clause-answers : goal.returns-clause-answers
returns-clause-answers g c = λ clean.
    answered c.book_tells.ensures c.reads_leave.ensures c.calls_are_history.ensures g.S.Store.keeps
    (g.S.Store.holds c.args.self.now.desk) (g.S.Store.holds c.answer.new.desk)
    (g.S.Store.may_leave c.args.self.now.desk) (g.S.Store.may_leave c.answer.new.desk)
    c.one_meaning.ensures (message_value c.args.message) c.answer.result (c.answer.ensures.goes clean) (c.answer.ensures.left clean)
