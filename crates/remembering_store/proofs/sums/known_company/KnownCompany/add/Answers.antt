use Rattle.remembering_store.proofs.Rates.{added_rates}
use Rattle.remembering_store.proofs.sums.known_company.KnownCompany.add.Goals as goal

pub returns : goal.returns
returns c = λ done rs retry is numbered was. record {
  submissions = c.add.ensures done rs retry is numbered was.submissions;
  rates = added_rates rs c.args.content.now retry c.args.self.now.rates was.rates;
}
