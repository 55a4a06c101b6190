use Rattle.std.proofs.Common.{◌≡◌, ℕ, suc, ◌+◌, ◌-◌, ◌<◌, List, ◌∷◌, ◌∙◌, ap, sym, subst, drop, get_or, length, arith}
use Rattle.std.proofs.Math.Seq.{drop-cons}
use Rattle.desk_rules.specs.declared.bodies.company.Company.{Company}
use Rattle.remembering_store.proofs.Registering.{HasAll, first_put, updated}
use Rattle.remembering_store.proofs.registry.Registry.of.Goals as goal

pub loop-done-preserved : goal.loop-done-preserved
loop-done-preserved c =
    let all : List Company = c.args.companies.now in
    let company : Company = c.index-companies-companies.result in
    let n : ℕ = length all - (c.loop-done.done + 1) in
    let here : n < length all = omega arith in
    let place : length all - 1 - c.loop-done.done ≡ n = omega arith in
    let next : suc n ≡ length all - c.loop-done.done = omega arith in
    let rest : List Company = drop (length all - c.loop-done.done) all in
    let split : drop n all ≡ company ∷ rest = drop-cons all n company here
    ∙ (λ i. (ap (λ (k : ℕ). get_or all k company) (sym place) ∙ sym c.index-companies-companies.is) i ∷ drop (next i) all) in
    let puts = updated company.id company c.loop-done.by_key c.insert.new.self c.insert.result (sym c.is_err.ensures.value ∙ c.if-is_err.false) c.insert.ensures.updates in
    subst (HasAll c.insert.new.self) (sym split) (first_put company c.loop-done.by_key c.insert.new.self rest puts.0 c.loop-done.invariant)
