-- The operator reads of each company what the company itself reads.
use Rattle.std.specs.Prelude.{◌≡◌, ℕ, List, map, All, Option, Some, None}
use Rattle.desk_rules.specs.declared.refusals.refusal.Refusal.TheVariants.{NoDay}
use Rattle.desk_history.specs.declared.answer.Answer.{Answer}
use Rattle.desk_history.specs.declared.answer.Answer.TheVariants.{Done, Refused}
use Rattle.desk_history.specs.declared.answer.CallRefusal.TheVariants.{Rule}
use Rattle.desk_history.specs.declared.answer.Outcome.TheVariants as done
use Rattle.desk_history.specs.declared.companies.CompanyRisk.{CompanyRisk}
use Rattle.desk_history.specs.declared.identity.Identity.{Identity}
use Rattle.desk_history.specs.Part.{Event}
use Rattle.desk_history.specs.Request as request
use Rattle.desk_history.specs.Reply.{reply}
use Rattle.desk_history.specs.Message.{Companies, Pair}
use Rattle.desk_history.specs.History.{day, companies, part}
use Rattle.desk_history.specs.Operator.{answer_to, IsHistory}

-- the answers to a company's own two reads, from its part
pub record IsOwnRow (P : List Event) (row : CompanyRisk) : Type 0 where
  pub exposure : reply P request.Exposure ≡ Done (done.Exposure row.exposure)
  pub rates : reply P request.Rates ≡ Done (done.Rates row.rates)

-- one row for each registered company, in the byte order of identifications, and no other
pub record AreOwnRows (odfi : List ℕ) (H : List Pair) (rows : List CompanyRisk) : Type 0 where
  pub ids : map (λ row. row.id) rows ≡ map (λ k. k.id) (companies H)
  pub names : map (λ row. row.name) rows ≡ map (λ k. k.name) (companies H)
  pub own : All (λ row. IsOwnRow (part odfi H row.id) row) rows

-- the rows on the desk day; before the first it is refused
abbrev pub ShowsOwnRows : (odfi : List ℕ) → List Pair → (day : Option ℕ) → Answer → Type 0
ShowsOwnRows odfi H None answer = answer ≡ Refused (Rule NoDay)
ShowsOwnRows odfi H (Some d) (Done (done.Companies all)) = (all.day ≡ d) × AreOwnRows odfi H all.companies
ShowsOwnRows odfi H (Some d) answer = ⊥

abbrev pub CompaniesRows : Type 0
CompaniesRows = (identity : Identity) (H : List Pair) → IsHistory identity H → ShowsOwnRows identity.odfi H (day H) (answer_to identity H Companies)
