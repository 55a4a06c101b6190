-- The exposures, limits and return rates of all companies, from the book.
use Rattle.std.specs.Prelude.{ℕ, List, map, Ok}
use Rattle.desk_rules.specs.declared.bodies.company.Company.{Company}
use Rattle.desk_rules.specs.declared.refusals.refusal.Refusal.TheVariants.{NoDay}
use Rattle.desk_rules.specs.Chain.{◌>>=◌}
use Rattle.desk_history.specs.declared.answer.Answer.{Answer}
use Rattle.desk_history.specs.declared.answer.Outcome.TheVariants as done
use Rattle.desk_history.specs.declared.companies.CompanyRisk.{CompanyRisk}
use Rattle.desk_history.specs.declared.companies.DeskCompanies.{DeskCompanies}
use Rattle.desk_history.specs.Reply.{answer_of}
use Rattle.desk_history.specs.Words.{some_or}
use Rattle.desk_book.specs.Book.{Book}
use Rattle.desk_book.specs.Sums.{exposures_of, rates_of}

-- a company's exposures, limits and rates on a day
abbrev pub company_risk : (day : ℕ) → Company → Book → CompanyRisk
company_risk day k b =
    let exposures = exposures_of k.id day b in
    record {
      exposure = record { credit = exposures.0; debit = exposures.1; day = day; limits = k.limits };
      id = k.id;
      name = k.name;
      rates = record { day = day; rates = rates_of k.id day b };
    }

-- those of all companies
abbrev pub desk_companies : Book → (day : ℕ) → DeskCompanies
desk_companies b day = record { companies = map (λ k. company_risk day k b) b.companies; day = day }

-- on the desk day
abbrev pub companies_answer : Book → Answer
companies_answer b = answer_of (do
  d ← some_or NoDay b.day
  Ok (done.Companies (desk_companies b d)))
