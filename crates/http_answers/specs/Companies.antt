-- The body of all companies' exposures, limits and return rates, with its keys in byte order.
use Rattle.std.specs.Prelude.{ℕ, not, List, [], ◌∷◌, ◌++◌, filter, bytes_eq, codes}
use Rattle.serde_json.specs.Data.{Data, string}
use Rattle.bank_days.specs.Day.{day_text}
use Rattle.http_json.specs.Members.{object_of}
use Rattle.desk_history.specs.declared.companies.CompanyRisk.{CompanyRisk}
use Rattle.desk_history.specs.declared.companies.DeskCompanies.{DeskCompanies}
use Rattle.desk_history.specs.declared.reports.DayRates.{DayRates}
use Rattle.http_answers.specs.Company.{exposure_members, rates_members}
use Rattle.http_answers.specs.Lists.{list_of}

-- all members of a company's own body but the day, which the whole list has once
abbrev pub without_day : List (List ℕ × Data) → List (List ℕ × Data)
without_day members = filter (λ m. not (bytes_eq m.0 (codes "day"))) members

unfoldable pub risk_rates_body : DayRates → Data
risk_rates_body r = object_of (without_day (rates_members r))

abbrev pub risk_members : CompanyRisk → List (List ℕ × Data)
risk_members k =
    without_day (exposure_members k.exposure)
    ++ (codes "id", string k.id)
    ∷ (codes "name", string k.name)
    ∷ (codes "rates", risk_rates_body k.rates) ∷ []

unfoldable pub risk_body : CompanyRisk → Data
risk_body k = object_of (risk_members k)

abbrev pub companies_members : DeskCompanies → List (List ℕ × Data)
companies_members all =
    (codes "companies", list_of risk_body all.companies)
    ∷ (codes "day", string (day_text all.day)) ∷ []

unfoldable pub companies_body : DeskCompanies → Data
companies_body all = object_of (companies_members all)
