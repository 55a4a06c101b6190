use Rattle.std.proofs.Common.{rules, subst}
use Rattle.std.specs.Prelude.{IsSome}
use Rattle.remembering_store.specs.KnownCompany.{AgreesWith}
use Rattle.remembering_store.proofs.Companies.{company_found, company_put}
use Rattle.remembering_store.proofs.sums.KnownSums.remember_rates.Goals as goal

pub returns : goal.returns
returns c = λ b is right.
    let a = c.args in
    let m = a.self.now.companies in
    let w = c.remember_rates.new.self in
    let there = c.in-Some.ensures.value in
    let put = (c.get_mut.follows.holds w).3 (subst (λ o. IsSome o) there (search rules)) in
    company_put AgreesWith a.company m (c.get_mut.follows.lender w) w b put.0 (c.remember_rates.ensures (b.rows a.company) is (company_found AgreesWith a.company m c.in-Some.known.now b there right)) right
