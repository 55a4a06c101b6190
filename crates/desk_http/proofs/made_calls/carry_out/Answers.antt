use Rattle.desk_http.proofs.Calls.{printed, unprinted}
use Rattle.desk_http.proofs.made_calls.carry_out.Goals as goal

pub returns-in-Ok-print_answer-clause-goes : goal.returns-in-Ok-print_answer-clause-goes
returns-in-Ok-print_answer-clause-goes g c = λ clean.
    printed c.book_tells.ensures c.one_kind.ensures (g.S.Store.holds c.args.desk.now) (g.S.Store.holds c.apply.new.self)
    c.args.call c.args.closes c.kind_of_call-kind.result c.in-Ok-apply.answer c.in-Ok-print_answer.bytes
    c.kind_of_call-kind.ensures (c.in-Ok-apply.ensures.goes clean) c.in-Ok-print_answer.ensures.text

pub returns-in-Err-print_answer-clause-goes : goal.returns-in-Err-print_answer-clause-goes
returns-in-Err-print_answer-clause-goes g c = λ clean.
    unprinted c.book_tells.ensures c.reads_leave.ensures (g.S.Store.holds c.args.desk.now) (g.S.Store.holds c.apply.new.self)
    c.args.call c.args.closes c.in-Ok-apply.answer _ (c.in-Ok-apply.ensures.goes clean) c.in-Err-print_answer.ensures.memory
