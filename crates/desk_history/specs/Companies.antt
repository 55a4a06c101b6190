-- What each company may still cost the bank, and its return rates: what the company itself reads of both.
use Rattle.std.specs.Prelude.{ℕ, List, map, Result, Ok}
use Rattle.desk_rules.specs.declared.bodies.company.Company.{Company}
use Rattle.desk_rules.specs.declared.refusals.refusal.Refusal as rules
use Rattle.desk_rules.specs.declared.refusals.refusal.Refusal.TheVariants.{NoDay}
use Rattle.desk_rules.specs.Chain.{◌>>=◌}
use Rattle.desk_history.specs.declared.answer.Outcome.{Outcome}
use Rattle.desk_history.specs.declared.answer.Outcome.TheVariants as done
use Rattle.desk_history.specs.declared.companies.CompanyRisk.{CompanyRisk}
use Rattle.desk_history.specs.declared.companies.DeskCompanies.{DeskCompanies}
use Rattle.desk_history.specs.Words.{some_or}
use Rattle.desk_history.specs.Part.{Event, holidays}
use Rattle.desk_history.specs.Acceptance.{submissions}
use Rattle.desk_history.specs.Facts.{facts}
use Rattle.desk_history.specs.Reports.{day_rates, exposure}
use Rattle.desk_history.specs.Message.{Pair}
use Rattle.desk_history.specs.History.{day, companies, part}

-- a company's exposures, limits and rates on a day, by its part
abbrev pub company_risk : (parts : List ℕ → List Event) → (day : ℕ) → Company → CompanyRisk
company_risk parts day k =
    let P = parts k.id in
    record {
      exposure = exposure (facts P (submissions P)) (holidays P) k.limits day;
      id = k.id;
      name = k.name;
      rates = day_rates (facts P (submissions P)) day;
    }

-- those of all companies
abbrev pub desk_companies : (odfi : List ℕ) → List Pair → (day : ℕ) → DeskCompanies
desk_companies odfi H day = record { companies = map (company_risk (part odfi H) day) (companies H); day = day }

-- on the desk day
abbrev pub companies_outcome : (odfi : List ℕ) → List Pair → Result Outcome rules.Refusal
companies_outcome odfi H = do
  d ← some_or NoDay (day H)
  Ok (done.Companies (desk_companies odfi H d))
