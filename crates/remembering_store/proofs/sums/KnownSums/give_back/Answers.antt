use Rattle.std.proofs.Common.{rules, map, subst}
use Rattle.std.specs.Prelude.{IsSome}
use Rattle.desk_book.specs.Steps.{returned_row_by}
use Rattle.remembering_store.specs.KnownCompany.{AgreesWith}
use Rattle.remembering_store.proofs.Companies.{company_followed}
use Rattle.remembering_store.proofs.sums.KnownSums.give_back.Goals as goal

pub returns-else-not-give_back : goal.returns-else-not-give_back
returns-else-not-give_back c = λ b right.
    let x = c.args.returned.now in
    let w = c.give_back.new.self in
    let there = c.in-Some.ensures.value in
    let put = (c.get_mut.follows.holds w).3 (subst (λ o. IsSome o) there (search rules)) in
    company_followed AgreesWith x.company (map (returned_row_by x)) c.args.self.now.companies (c.get_mut.follows.lender w) c.in-Some.company.now w b there put.0
    (c.give_back.ensures c.if-not-give_back.false) right
