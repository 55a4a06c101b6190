use Rattle.std.proofs.Common.{rules, map, subst}
use Rattle.std.specs.Prelude.{IsSome}
use Rattle.desk_book.specs.Standing.{sent_row}
use Rattle.desk_book.specs.Steps.{if_order}
use Rattle.remembering_store.specs.HeldSizes.{AreKept}
use Rattle.remembering_store.proofs.Companies.{company_followed}
use Rattle.remembering_store.proofs.held.KnownHeld.send.Goals as goal

pub returns-else-not-decide : goal.returns-else-not-decide
returns-else-not-decide c = λ b right.
    let s = c.args.sent.now in
    let w = c.decide.new.self in
    let there = c.in-Some.ensures.value in
    let put = (c.get_mut.follows.holds w).3 (subst (λ o. IsSome o) there (search rules)) in
    company_followed AreKept s.company (map (if_order s.order (sent_row s.settled))) c.args.self.now.companies (c.get_mut.follows.lender w) c.in-Some.held.now w b there put.0
    (c.decide.ensures.sent c.if-not-decide.false s.settled) right
