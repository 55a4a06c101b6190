-- What is remembered of a company, with its return rates, and when it agrees with the company's rows.
use Rattle.std.specs.Prelude.{◌≡◌, List, IfSome}
use Rattle.desk_rules.specs.ReturnRates.{rates}
use Rattle.desk_history.specs.declared.reports.DayRates.{DayRates}
use Rattle.desk_book.specs.declared.row.Row.{Row}
use Rattle.desk_book.specs.Standing.{facts_in}
use Rattle.remembering_store.specs.Remembered.{IsOf}
use Rattle.remembering_store.specs.declared.sums.known_company.KnownCompany.{KnownCompany}

-- these are the return rates of the rows on their day
abbrev pub AreRatesOf : List Row → DayRates → Type 0
AreRatesOf rs x = x.rates ≡ rates (facts_in rs) x.day

pub record AgreesWith (m : KnownCompany) (rs : List Row) : Type 0 where
  pub submissions : IsOf m.submissions rs
  pub rates : IfSome m.rates (AreRatesOf rs)
