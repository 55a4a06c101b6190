use Rattle.std.proofs.Common.{rules}
use Rattle.remembering_store.proofs.Rates.{rates_on}
use Rattle.remembering_store.proofs.sums.known_company.KnownCompany.rates.Goals as goal

pub returns : goal.returns
returns c = λ rs agrees.
    rates_on c.args.self.now.rates c.in_ok-known.known c.args.today rs c.in_ok-known.was (search rules) agrees.rates
