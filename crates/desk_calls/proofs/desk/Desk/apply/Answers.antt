use Rattle.std.proofs.Common.{subst}
use Rattle.desk_calls.specs.Applying.{AnswersCall, LeavesMessage}
use Rattle.desk_calls.proofs.Applied.{own_reply, leaves_on, has_book}
use Rattle.desk_calls.proofs.desk.Desk.apply.Goals as goal

pub returns-clause-replies : goal.returns-clause-replies
returns-clause-replies g c = λ clean identity key H id r.
    own_reply c.book_tells.ensures (g.S.Store.holds c.args.self.now) (g.S.Store.holds c.respond.new.store) c.args.call identity key H id r c.respond.result
    (subst (λ store. AnswersCall (g.S.Store.holds store) c.args.call c.respond.result (g.S.Store.holds c.respond.new.store)) c.self.view_is (c.respond.ensures.answers clean))

pub returns-clause-left : goal.returns-clause-left
returns-clause-left g c = λ clean identity key H m k asked more.
    leaves_on c.book_tells.ensures g.S.Store.keeps (g.S.Store.holds c.args.self.now) (g.S.Store.may_leave c.args.self.now) (g.S.Store.may_leave c.respond.new.store)
    c.args.call identity key H m k c.respond.result
    (subst (λ store. LeavesMessage g.S.Store.keeps (g.S.Store.holds store) (g.S.Store.may_leave store) c.args.call c.respond.result (g.S.Store.may_leave c.respond.new.store)) c.self.view_is (c.respond.ensures.left clean)) asked more

pub returns-clause-book : goal.returns-clause-book
returns-clause-book g c = λ clean.
    has_book c.one_message.ensures (g.S.Store.holds c.args.self.now) (g.S.Store.holds c.respond.new.store) c.args.call c.respond.result
    (subst (λ store. AnswersCall (g.S.Store.holds store) c.args.call c.respond.result (g.S.Store.holds c.respond.new.store)) c.self.view_is (c.respond.ensures.answers clean))
