use Rattle.std.proofs.Common.{◌≡◌, ◌∙◌, ◌+◌, ◌++◌, List, [], ◌∷◌, ap, sym, drop, append_assoc}
use Rattle.std.proofs.lemmas.List.{drop_more}
use Rattle.std.proofs.lemmas.Result.{err_from_is_err_and}
use Rattle.desk_rules.specs.declared.bodies.company.Company.{Company}
use Rattle.desk_cut.specs.declared.waiting.CompanyWaiting.{CompanyWaiting}
use Rattle.desk_calls.specs.Status.{each_waiting}
use Rattle.desk_calls.proofs.operator.status.each_waiting.Goals as goal

pub loop-company-preserved : goal.loop-company-preserved
loop-company-preserved g c =
    let day = c.args.day.now in
    let holidays = c.args.holidays.now in
    let companies = c.args.companies.now in
    let at = c.loop-company.company-index in
    let found = c.loop-company.found.items in
    let k = c.company-item.result in
    let later = drop (at + 1) companies in
    let split : drop at companies ≡ k ∷ later = drop_more companies at k c.loop-company-test.true ∙ ap (λ (one : Company). one ∷ later) (sym c.company-item.is) in
    record {
      before = λ clean. c.loop-company.invariant.before (c.waiting_of.ensures.before clean);
      read = λ clean b held.
          let so_far = c.loop-company.invariant.read (c.waiting_of.ensures.before clean) b held in
          let read = c.in_ok-waiting.ensures.read clean b so_far.1 in
          let rest = each_waiting day holidays later b in (
            ap (λ (xs : List CompanyWaiting). xs ++ rest) c.in_ok-push.ensures.items
                ∙ append_assoc found (c.in_ok-waiting.waiting ∷ []) rest
                ∙ ap (λ (s : CompanyWaiting). found ++ s ∷ rest) read.0
                ∙ ap (λ (ks : List Company). found ++ each_waiting day holidays ks b) (sym split)
                ∙ so_far.0,
            read.1,
          );
      left = λ clean kept may. c.loop-company.invariant.left (c.waiting_of.ensures.before clean) kept (c.waiting_of.ensures.left clean kept may);
    }

pub returns-in_err-push : goal.returns-in_err-push
returns-in_err-push g c =
    record {
      before = λ clean. c.loop-company.invariant.before (c.waiting_of.ensures.before clean);
      read = λ clean.
          let p = err_from_is_err_and c.from_residual-in_err-push.result c.from_residual-in_err-push.ensures.1 in
          rw p.1 (λ b held. (c.in_ok-waiting.ensures.read clean b (c.loop-company.invariant.read (c.waiting_of.ensures.before clean) b held).1).1);
      left = λ clean kept may. c.loop-company.invariant.left (c.waiting_of.ensures.before clean) kept (c.waiting_of.ensures.left clean kept may);
    }

pub returns-in_err-waiting : goal.returns-in_err-waiting
returns-in_err-waiting g c =
    record {
      before = λ clean. c.loop-company.invariant.before (c.waiting_of.ensures.before clean);
      read = λ clean.
          let p = err_from_is_err_and c.from_residual.result c.from_residual.ensures.1 in
          rw p.1 (λ b held. c.in_err-waiting.ensures.read clean b (c.loop-company.invariant.read (c.waiting_of.ensures.before clean) b held).1);
      left = λ clean kept may. c.loop-company.invariant.left (c.waiting_of.ensures.before clean) kept (c.waiting_of.ensures.left clean kept may);
    }
