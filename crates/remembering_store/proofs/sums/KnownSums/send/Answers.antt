use Rattle.std.proofs.Common.{rules, map, subst}
use Rattle.std.specs.Prelude.{IsSome}
use Rattle.desk_book.specs.Standing.{sent_row}
use Rattle.desk_book.specs.Steps.{if_order}
use Rattle.remembering_store.specs.KnownCompany.{AgreesWith}
use Rattle.remembering_store.proofs.Companies.{company_followed}
use Rattle.remembering_store.proofs.sums.KnownSums.send.Goals as goal

pub returns-else-not-send : goal.returns-else-not-send
returns-else-not-send c = λ b right.
    let s = c.args.sent.now in
    let w = c.send.new.self in
    let there = c.in-Some.ensures.value in
    let put = (c.get_mut.follows.holds w).3 (subst (λ o. IsSome o) there (search rules)) in
    company_followed AgreesWith s.company (map (if_order s.order (sent_row s.settled))) c.args.self.now.companies (c.get_mut.follows.lender w) c.in-Some.company.now w b there put.0
    (c.send.ensures c.if-not-send.false) right
