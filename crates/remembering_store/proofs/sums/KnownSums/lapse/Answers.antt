use Rattle.std.proofs.Common.{rules, map, subst}
use Rattle.std.specs.Prelude.{IsSome}
use Rattle.desk_book.specs.Standing.{lapsed_row}
use Rattle.desk_book.specs.Steps.{if_order}
use Rattle.remembering_store.specs.KnownCompany.{AgreesWith}
use Rattle.remembering_store.proofs.Companies.{company_followed}
use Rattle.remembering_store.proofs.sums.KnownSums.lapse.Goals as goal

pub returns-else-not-lapse : goal.returns-else-not-lapse
returns-else-not-lapse c = λ b right.
    let l = c.args.lapsed.now in
    let w = c.lapse.new.self in
    let there = c.in-Some.ensures.value in
    let put = (c.get_mut.follows.holds w).3 (subst (λ o. IsSome o) there (search rules)) in
    company_followed AgreesWith l.company (map (if_order l.order lapsed_row)) c.args.self.now.companies (c.get_mut.follows.lender w) c.in-Some.company.now w b there put.0
    (c.lapse.ensures c.if-not-lapse.false) right
