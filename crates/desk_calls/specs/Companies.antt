-- The desk's read of all companies.
use Rattle.std.specs.Prelude.{ℕ, List, map}
use Rattle.desk_rules.specs.declared.bodies.company.Company.{Company}
use Rattle.desk_history.specs.declared.companies.CompanyRisk.{CompanyRisk}
use Rattle.desk_book.specs.Book.{Book}
use Rattle.desk_book.specs.OnCompanies.{company_risk}

-- the exposures, limits and rates of each of these companies
abbrev pub risks : (day : ℕ) → List Company → Book → List CompanyRisk
risks day ks b = map (λ k. company_risk day k b) ks
