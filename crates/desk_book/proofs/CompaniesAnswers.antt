-- What the operator reads of all companies follows from the book.
use Rattle.std.proofs.Common.{◌≡◌, ℕ, List, map}
use Rattle.std.specs.Prelude.{Ok}
use Rattle.desk_rules.specs.declared.bodies.company.Company.{Company}
use Rattle.desk_rules.specs.declared.refusals.refusal.Refusal.TheVariants.{NoDay}
use Rattle.desk_rules.specs.Chain.{◌>>=◌}
use Rattle.desk_history.specs.declared.answer.Outcome.TheVariants as done
use Rattle.desk_history.specs.declared.companies.CompanyRisk.{CompanyRisk}
use Rattle.desk_history.specs.declared.identity.Identity.{Identity}
use Rattle.desk_history.specs.Companies as history
use Rattle.desk_history.specs.History.{day, companies, part}
use Rattle.desk_history.specs.Message.{Pair}
use Rattle.desk_history.specs.Operator.{IsHistory}
use Rattle.desk_history.specs.Part.{Event}
use Rattle.desk_history.specs.Reply.{answer_of}
use Rattle.desk_history.specs.Reports.{day_rates, exposure}
use Rattle.desk_history.specs.Words.{some_or}
use Rattle.desk_book.specs.Book.{book_of}
use Rattle.desk_book.specs.CompaniesLaws.{TellsCompanies}
use Rattle.desk_book.specs.OnCompanies.{company_risk}
use Rattle.desk_book.specs.RowLaws.{VerdictsOnRows}
use Rattle.desk_book.proofs.Standings.{same_standing}

module _ (verdicts : VerdictsOnRows) (identity : Identity) (key : List ℕ) (H : List Pair) (is : IsHistory identity H) where
  same_risk : (d : ℕ) (k : Company) → history.company_risk (part identity.odfi H) d k ≡ company_risk d k (book_of identity key H)
  same_risk d k =
      let P : List Event = part identity.odfi H k.id in
      (λ i. record {
        exposure = exposure (verdicts.facts P i) (same_standing identity key H k.id is i).holidays k.limits d;
        id = k.id;
        name = k.name;
        rates = day_rates (verdicts.facts P i) d;
      })

pub tells_companies : VerdictsOnRows → TellsCompanies
tells_companies verdicts identity key H is =
    (λ i. answer_of (some_or NoDay (day H) >>= (λ d.
    Ok (done.Companies (record { companies = map (λ k. same_risk verdicts identity key H is d k i) (companies H); day = d })))))
