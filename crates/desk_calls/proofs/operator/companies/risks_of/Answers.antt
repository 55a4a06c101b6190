use Rattle.std.proofs.Common.{◌≡◌, ◌∙◌, ◌+◌, ◌++◌, List, [], ◌∷◌, ap, sym, drop, append_assoc}
use Rattle.std.proofs.lemmas.List.{drop_more}
use Rattle.std.proofs.lemmas.Result.{err_from_is_err_and}
use Rattle.desk_rules.specs.declared.bodies.company.Company.{Company}
use Rattle.desk_history.specs.declared.companies.CompanyRisk.{CompanyRisk}
use Rattle.desk_calls.specs.Companies.{risks}
use Rattle.desk_calls.proofs.operator.companies.risks_of.Goals as goal

pub loop-company-preserved : goal.loop-company-preserved
loop-company-preserved g c =
    let day = c.args.day in
    let companies = c.args.companies.now in
    let at = c.loop-company.company-index in
    let found = c.loop-company.found.items in
    let k = c.company-item.result in
    let later = drop (at + 1) companies in
    let split : drop at companies ≡ k ∷ later = drop_more companies at k c.loop-company-test.true ∙ ap (λ (one : Company). one ∷ later) (sym c.company-item.is) in
    record {
      before = λ clean. c.loop-company.invariant.before (c.risk_of.ensures.before clean);
      read = λ clean b held.
          let so_far = c.loop-company.invariant.read (c.risk_of.ensures.before clean) b held in
          let read = c.in_ok-risk.ensures.read clean b so_far.1 in
          let rest = risks day later b in (
            ap (λ (xs : List CompanyRisk). xs ++ rest) c.in_ok-push.ensures.items
                ∙ append_assoc found (c.in_ok-risk.risk ∷ []) rest
                ∙ ap (λ (risk : CompanyRisk). found ++ risk ∷ rest) read.0
                ∙ ap (λ (ks : List Company). found ++ risks day ks b) (sym split)
                ∙ so_far.0,
            read.1,
          );
      left = λ clean kept may. c.loop-company.invariant.left (c.risk_of.ensures.before clean) kept (c.risk_of.ensures.left clean kept may);
    }

pub returns-in_err-push : goal.returns-in_err-push
returns-in_err-push g c =
    record {
      before = λ clean. c.loop-company.invariant.before (c.risk_of.ensures.before clean);
      read = λ clean.
          let p = err_from_is_err_and c.from_residual-in_err-push.result c.from_residual-in_err-push.ensures.1 in
          rw p.1 (λ b held. (c.in_ok-risk.ensures.read clean b (c.loop-company.invariant.read (c.risk_of.ensures.before clean) b held).1).1);
      left = λ clean kept may. c.loop-company.invariant.left (c.risk_of.ensures.before clean) kept (c.risk_of.ensures.left clean kept may);
    }

pub returns-in_err-risk : goal.returns-in_err-risk
returns-in_err-risk g c =
    record {
      before = λ clean. c.loop-company.invariant.before (c.risk_of.ensures.before clean);
      read = λ clean.
          let p = err_from_is_err_and c.from_residual-in_err-risk.result c.from_residual-in_err-risk.ensures.1 in
          rw p.1 (λ b held. c.in_err-risk.ensures.read clean b (c.loop-company.invariant.read (c.risk_of.ensures.before clean) b held).1);
      left = λ clean kept may. c.loop-company.invariant.left (c.risk_of.ensures.before clean) kept (c.risk_of.ensures.left clean kept may);
    }

pub returns-in_err-found : goal.returns-in_err-found
returns-in_err-found g c =
    record {
      before = λ clean. clean;
      read = λ clean.
          let p = err_from_is_err_and c.from_residual.result c.from_residual.ensures.1 in
          rw p.1 (λ b held. held);
      left = λ clean kept may. may;
    }
