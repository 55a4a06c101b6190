use Rattle.std.proofs.Common.{◌≡◌, subst, ℕ, ◌<◌, Some}
use Rattle.std.specs.Prelude.{IfSome}
use Rattle.remembering_store.proofs.Rates.{sent_rates}
use Rattle.remembering_store.proofs.sums.known_company.KnownCompany.send.Goals as goal

pub returns : goal.returns
returns c = λ done rs was.
    let a = c.args in
    let kept = c.rates_before-self.result in
    record {
      submissions = c.send.ensures.follows done rs was.submissions;
      rates = sent_rates a.order a.settled rs a.self.now.rates kept (subst (λ (on : ℕ). IfSome kept (λ x. (a.self.now.rates ≡ Some x) × (x.day < on))) c.day.ensures.value c.rates_before-self.ensures)
          (c.send.ensures.held done rs was.submissions) was.rates;
    }
