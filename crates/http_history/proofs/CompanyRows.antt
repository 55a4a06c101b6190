-- The operator reads of each company what the company itself reads, over bytes.
use Rattle.std.proofs.Common.{◌≡◌, ℕ, List, Bool, refl, sym, ap, ◌∙◌, subst, Option, Some, None, Result, Ok, Err, if◌then◌else◌}
use Rattle.std.proofs.lemmas.List.Elements.{All-weaker}
use Rattle.serde_json.specs.Written.{compact_text}
use Rattle.http_response.specs.declared.response.Content.TheVariants.{Json}
use Rattle.http_response.specs.Response.{response_text}
use Rattle.http_routes.specs.declared.route.CompanyRoute.{CompanyRoute}
use Rattle.http_routes.specs.declared.route.CompanyRoute.TheVariants as company_routes
use Rattle.http_routes.specs.declared.route.OperatorRoute.{OperatorRoute}
use Rattle.http_json.specs.Refusals.{refusal_body}
use Rattle.http_answers.specs.Companies.{companies_body}
use Rattle.http_answers.specs.Company.{exposure_body, rates_body}
use Rattle.http_answers.specs.declared.faults.MessageFault.{MessageFault}
use Rattle.http_answers.specs.declared.faults.MessageFault.TheVariants.{Denied}
use Rattle.desk_rules.specs.declared.refusals.refusal.Refusal.TheVariants.{NoDay}
use Rattle.desk_history.specs.declared.answer.Answer.{Answer}
use Rattle.desk_history.specs.declared.answer.Answer.TheVariants as answers
use Rattle.desk_history.specs.declared.answer.CallRefusal.TheVariants.{Rule}
use Rattle.desk_history.specs.declared.answer.Outcome.TheVariants as outcomes
use Rattle.desk_history.specs.declared.call.Call.TheVariants as calls
use Rattle.desk_history.specs.declared.companies.CompanyRisk.{CompanyRisk}
use Rattle.desk_history.specs.declared.companies.DeskCompanies.{DeskCompanies}
use Rattle.desk_history.specs.declared.identity.Identity.{Identity}
use Rattle.desk_history.specs.declared.reports.DayRates.{DayRates}
use Rattle.desk_history.specs.declared.reports.Exposure.{Exposure}
use Rattle.desk_history.specs.CompanyRows as core_rows
use Rattle.desk_history.specs.History as core_history
use Rattle.desk_history.specs.Message.{Message, Of, Companies}
use Rattle.desk_history.specs.Operator.{answer_to}
use Rattle.desk_history.specs.Part as events
use Rattle.desk_history.specs.PartCompany.{DigestOfPart}
use Rattle.desk_history.specs.Part.{digest}
use Rattle.desk_history.specs.Reply as replies
use Rattle.desk_history.specs.Request as request
use Rattle.desk_history.specs.Request.{Request}
use Rattle.http_message.specs.Message as messages
use Rattle.http_message.specs.Message.{MessageValue, RequestValue}
use Rattle.http_history.specs.Addressee.{Addressee, to_nobody, to_company, to_operator, addressee_of}
use Rattle.http_history.specs.Verdict.{Verdict, request_on, company_request, operator_call, operator_verdict, verdict_by, Means}
use Rattle.http_history.specs.Texts.{call_text}
use Rattle.http_history.specs.History.{from_message, Pair, calls_of, text, IsHistory}
use Rattle.http_history.specs.Part.{core_events, part}
use Rattle.http_history.specs.Reply.{request_text, reply_to}
use Rattle.http_history.specs.CompanyRows.{IsFromCompany, IsOwnRow, IsCompaniesRead, ShowsOwnRows, CompaniesRows}
use Rattle.http_history.proofs.Calls.{calls_are_history}
use Rattle.http_history.proofs.Parts.{same_part}
use Rattle.http_history.proofs.Replies.{text_of_request}

-- ---- what the company itself reads

-- its message under its right key is answered from its part
asked : (P : List events.Event) (c : List ℕ) (route : CompanyRoute) (q : Request) (closes : Bool) → ((r : RequestValue) → request_on route r ≡ Ok q)
    → (a : Addressee) → IsFromCompany (digest P) c route a → reply_to closes a P ≡ call_text closes (Of c q) (replies.reply P q)
asked P c route q closes on (to_nobody fault) from = absurd from
asked P c route q closes on (to_operator taken r) from = absurd from
asked P c route q closes on (to_company taken k r) (same_route, same_company, right) =
    (λ i. request_text closes (company_request (digest P) (same_route i) (same_company i) r) P)
    ∙ ap (λ (b : Bool). request_text closes (if b then request_on route r else Err Denied) P) right
    ∙ ap (λ (found : Result Request MessageFault). request_text closes found P) (on r)
    ∙ sym (text_of_request closes c P q)

exposure_shown : (closes : Bool) (c : List ℕ) (e : Exposure) → call_text closes (Of c request.Exposure) (answers.Done (outcomes.Exposure e)) ≡ response_text 200 Json closes (compact_text (exposure_body e))
unfolding call_text
exposure_shown closes c e = refl

rates_shown : (closes : Bool) (c : List ℕ) (r : DayRates) → call_text closes (Of c request.Rates) (answers.Done (outcomes.Rates r)) ≡ response_text 200 Json closes (compact_text (rates_body r))
unfolding call_text
rates_shown closes c r = refl

-- ---- what the operator reads

-- its message under the right key is one call
means_companies : (digests : List ℕ → Option (List ℕ)) (key : List ℕ) (a : Addressee) (means : Option Message) → IsCompaniesRead key a → Means (verdict_by digests (Some key) a) means → means ≡ Some Companies
means_companies digests key (to_nobody fault) means asks is = absurd asks
means_companies digests key (to_company route c r) means asks is = absurd asks
means_companies digests key (to_operator route r) means (same_route, right) is =
    let verdict : operator_verdict (Some key) route r ≡ Ok calls.Companies =
    ap (λ (b : Bool). if b then operator_call route r else Err Denied) right ∙ ap (λ (route : OperatorRoute). operator_call route r) same_route in
    only means (subst (λ (verdict : Verdict). Means verdict means) verdict is)
  where
    only : (means : Option Message) → Means (Ok calls.Companies) means → means ≡ Some Companies
    only None is = absurd is
    only (Some m) is = ap Some is

companies_text : (identity : Identity) (key : List ℕ) (H : List Pair) (v : MessageValue) → text identity key H (from_message v) (Some Companies) ≡ call_text (messages.closes v) Companies (answer_to identity (calls_of identity H) Companies)
unfolding text
companies_text identity key H v = refl

refused_shown : (closes : Bool) → call_text closes Companies (answers.Refused (Rule NoDay)) ≡ response_text 409 Json closes (compact_text (refusal_body NoDay))
unfolding call_text
refused_shown closes = refl

companies_shown : (closes : Bool) (all : DeskCompanies) → call_text closes Companies (answers.Done (outcomes.Companies all)) ≡ response_text 200 Json closes (compact_text (companies_body all))
unfolding call_text
companies_shown closes all = refl

-- ---- the law

module _ (digests : DigestOfPart) (identity : Identity) (key : List ℕ) (H : List Pair) (is : IsHistory identity key H) where
  own_row : (row : CompanyRisk) → core_rows.IsOwnRow (core_history.part identity.odfi (calls_of identity H) row.id) row → IsOwnRow identity H row
  own_row row own =
      let same = same_part digests identity key H row.id is in
      record {
        exposure = λ v from.
            asked (core_events (part identity H row.id)) row.id company_routes.Exposure request.Exposure (messages.closes v) (λ _. refl) (addressee_of v) from
            ∙ ap (λ (P : List events.Event). call_text (messages.closes v) (Of row.id request.Exposure) (replies.reply P request.Exposure)) same
            ∙ ap (call_text (messages.closes v) (Of row.id request.Exposure)) own.exposure
            ∙ exposure_shown (messages.closes v) row.id row.exposure;
        rates = λ v from.
            asked (core_events (part identity H row.id)) row.id company_routes.Rates request.Rates (messages.closes v) (λ _. refl) (addressee_of v) from
            ∙ ap (λ (P : List events.Event). call_text (messages.closes v) (Of row.id request.Rates) (replies.reply P request.Rates)) same
            ∙ ap (call_text (messages.closes v) (Of row.id request.Rates)) own.rates
            ∙ rates_shown (messages.closes v) row.id row.rates;
      }

  shown : (closes : Bool) (day : Option ℕ) (a : Answer) → core_rows.ShowsOwnRows identity.odfi (calls_of identity H) day a → ShowsOwnRows identity H day closes (call_text closes Companies a)
  shown closes None a refused = ap (call_text closes Companies) refused ∙ refused_shown closes
  shown closes (Some d) (answers.Done (outcomes.Companies all)) (same, rows) = (
    all,
    companies_shown closes all,
    record {
      day = same;
      ids = rows.ids;
      names = rows.names;
      own = All-weaker (λ row. core_rows.IsOwnRow (core_history.part identity.odfi (calls_of identity H) row.id) row) (IsOwnRow identity H) own_row all.companies rows.own;
    },
  )
  shown closes (Some d) a none = absurd none

pub companies_rows : DigestOfPart → core_rows.CompaniesRows → CompaniesRows
companies_rows digests rows identity key H v means meant asks =
    let shows = shown digests identity key H meant.history (messages.closes v) (core_history.day (calls_of identity H)) (answer_to identity (calls_of identity H) Companies)
    (rows identity (calls_of identity H) (calls_are_history identity H)) in
    let one = means_companies _ key (addressee_of v) means asks meant.read in
    subst (ShowsOwnRows identity H (core_history.day (calls_of identity H)) (messages.closes v))
    (sym (ap (text identity key H (from_message v)) one ∙ companies_text identity key H v)) shows
