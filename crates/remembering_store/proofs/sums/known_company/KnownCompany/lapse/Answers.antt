use Rattle.remembering_store.proofs.Rates.{lapsed_rates}
use Rattle.remembering_store.proofs.sums.known_company.KnownCompany.lapse.Goals as goal

pub returns : goal.returns
returns c = λ done rs was. record {
  submissions = c.lapse.ensures.follows done rs was.submissions;
  rates = lapsed_rates c.args.order rs c.args.self.now.rates (c.lapse.ensures.held done rs was.submissions) was.rates;
}
