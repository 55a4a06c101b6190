-- The operator reads of each company what the company itself reads, over bytes.
use Rattle.std.specs.Prelude.{◌≡◌, ℕ, Bool, true, List, map, All, Option, Some, None}
use Rattle.serde_json.specs.Written.{compact_text}
use Rattle.http_message.specs.Message.{MessageValue, closes}
use Rattle.http_response.specs.declared.response.Content.TheVariants.{Json}
use Rattle.http_response.specs.Response.{response_text}
use Rattle.http_routes.specs.declared.route.CompanyRoute.{CompanyRoute}
use Rattle.http_routes.specs.declared.route.CompanyRoute.TheVariants as company_routes
use Rattle.http_routes.specs.declared.route.OperatorRoute.TheVariants as operator_routes
use Rattle.http_json.specs.Refusals.{refusal_body}
use Rattle.http_answers.specs.Companies.{companies_body}
use Rattle.http_answers.specs.Company.{exposure_body, rates_body}
use Rattle.desk_rules.specs.declared.refusals.refusal.Refusal.TheVariants.{NoDay}
use Rattle.desk_history.specs.declared.companies.CompanyRisk.{CompanyRisk}
use Rattle.desk_history.specs.declared.companies.DeskCompanies.{DeskCompanies}
use Rattle.desk_history.specs.declared.identity.Identity.{Identity}
use Rattle.desk_history.specs.History as core
use Rattle.desk_history.specs.Message.{Message}
use Rattle.desk_history.specs.Part.{digest}
use Rattle.http_history.specs.Addressee.{Addressee, to_nobody, to_company, to_operator, addressee_of, shown_key}
use Rattle.http_history.specs.Verdict.{is_key, is_company}
use Rattle.http_history.specs.History.{from_message, Pair, calls_of, text}
use Rattle.http_history.specs.Part.{core_events, part}
use Rattle.http_history.specs.Reply.{reply}
use Rattle.http_history.specs.Laws.{IsMeant}

-- ---- what the company itself reads

-- a message to this route of the company, with the key of this digest
abbrev pub IsFromCompany : (digest : Option (List ℕ)) → (company : List ℕ) → CompanyRoute → Addressee → Type 0
IsFromCompany digest c route (to_nobody fault) = ⊥
IsFromCompany digest c route (to_company taken k r) = (taken ≡ route) × (k ≡ c) × (is_company digest c (shown_key r) ≡ true)
IsFromCompany digest c route (to_operator taken r) = ⊥

-- every message of the company to this route, with its right key, is answered 200 with this body
abbrev pub Gets : Identity → List Pair → (company : List ℕ) → CompanyRoute → (body : List ℕ) → Type 0
Gets identity H c route body =
    (v : MessageValue) → IsFromCompany (digest (core_events (part identity H c))) c route (addressee_of v)
    → reply v (part identity H c) ≡ response_text 200 Json (closes v) body

-- a row has what the company reads of its exposure and of its rates
pub record IsOwnRow (identity : Identity) (H : List Pair) (row : CompanyRisk) : Type 0 where
  pub exposure : Gets identity H row.id company_routes.Exposure (compact_text (exposure_body row.exposure))
  pub rates : Gets identity H row.id company_routes.Rates (compact_text (rates_body row.rates))

-- ---- what the operator reads

-- the operator's message that asks for all companies, with the key of this digest
abbrev pub IsCompaniesRead : (digest : List ℕ) → Addressee → Type 0
IsCompaniesRead digest (to_nobody fault) = ⊥
IsCompaniesRead digest (to_company route c r) = ⊥
IsCompaniesRead digest (to_operator route r) = (route ≡ operator_routes.Companies) × (is_key (Some digest) (shown_key r) ≡ true)

-- one row for each registered company, in the byte order of identifications, and no other
pub record AreOwnRows (identity : Identity) (H : List Pair) (d : ℕ) (all : DeskCompanies) : Type 0 where
  pub day : all.day ≡ d
  pub ids : map (λ row. row.id) all.companies ≡ map (λ k. k.id) (core.companies (calls_of identity H))
  pub names : map (λ row. row.name) all.companies ≡ map (λ k. k.name) (core.companies (calls_of identity H))
  pub own : All (IsOwnRow identity H) all.companies

-- the bytes have these rows on the desk day; before the first day they are refusal 1
abbrev pub ShowsOwnRows : Identity → List Pair → (day : Option ℕ) → (closes : Bool) → (bytes : List ℕ) → Type 0
ShowsOwnRows identity H None closes bytes = bytes ≡ response_text 409 Json closes (compact_text (refusal_body NoDay))
ShowsOwnRows identity H (Some d) closes bytes =
    (all : DeskCompanies) × (bytes ≡ response_text 200 Json closes (compact_text (companies_body all))) × AreOwnRows identity H d all

abbrev pub CompaniesRows : Type 0
CompaniesRows = (identity : Identity) (key : List ℕ) (H : List Pair) (v : MessageValue) (means : Option Message)
    → IsMeant identity key H v means → IsCompaniesRead key (addressee_of v)
    → ShowsOwnRows identity H (core.day (calls_of identity H)) (closes v) (text identity key H (from_message v) means)
