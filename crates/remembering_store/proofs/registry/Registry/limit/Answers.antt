use Rattle.std.proofs.Common.{rules, ◌≡◌, sym, subst, map, None}
use Rattle.std.specs.Prelude.{IsSome}
use Rattle.std.specs.HashMap.{get}
use Rattle.desk_history.specs.History.{with_limits}
use Rattle.remembering_store.specs.CompanyKeys.{is_same_company}
use Rattle.remembering_store.proofs.Registering.{key, HasAll, company_limited, none_limited}
use Rattle.remembering_store.proofs.registry.Registry.limit.Goals as goal

pub returns-in-Some : goal.returns-in-Some
returns-in-Some c = λ companies all.
    let a = c.args in
    let v = c.in-Some.company.now in
    let w = record v { limits = a.limits } in
    let there = c.in-Some.ensures.value in
    let put = (c.get_mut.follows.holds w).3 (subst (λ o. IsSome o) there (search rules)) in
    company_limited a.id a.limits a.self.now.companies (c.get_mut.follows.lender w) v companies (sym there) put.0 all

pub returns-in_default : goal.returns-in_default
returns-in_default c = λ companies all.
    let a = c.args in
    let m = a.self.now.companies in
    let none : get is_same_company m (key a.id) ≡ None = sym c.in_default.ensures.value in
    subst (λ n. HasAll n (map (with_limits a.id a.limits) companies)) (sym c.get_mut.follows.holds-at-none) (none_limited a.id a.limits m companies none all)
