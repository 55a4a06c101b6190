-- The bytes of an answer to a company, from its part and the message alone.
use Rattle.std.specs.Prelude.{◌≡◌, ℕ, Bool, List, [], Some, None, Result, Ok, Err}
use Rattle.desk_rules.specs.declared.refusals.refusal.Refusal.{Refusal}
use Rattle.desk_rules.specs.RefusalNames.{name_of, status_of}
use Rattle.desk_history.specs.declared.answer.Outcome.{Outcome}
use Rattle.desk_history.specs.declared.answer.Outcome.TheVariants as outcomes
use Rattle.desk_history.specs.Part as events
use Rattle.desk_history.specs.Part.{digest}
use Rattle.desk_history.specs.Reply.{request_outcome}
use Rattle.desk_history.specs.Request.{Request}
use Rattle.http_message.specs.Message.{MessageValue, closes}
use Rattle.http_json.specs.Acceptance.{acceptance_body}
use Rattle.http_json.specs.Refusals.{refusal_body}
use Rattle.http_answers.specs.declared.faults.MessageFault.{MessageFault}
use Rattle.http_answers.specs.declared.faults.MessageFault.TheVariants.{NoReference}
use Rattle.http_answers.specs.Company.{report_body, returns_body, changes_body, statement_body, rates_body, exposure_body}
use Rattle.http_history.specs.Addressee.{Addressee, to_nobody, to_company, to_operator, addressee_of}
use Rattle.http_history.specs.Verdict.{company_request}
use Rattle.http_history.specs.Texts.{json_text, fault_text}
use Rattle.http_history.specs.Part.{Event, core_events}

-- what a request did or found; a company's has no other outcome
abbrev pub outcome_text : (closes : Bool) → Outcome → List ℕ
outcome_text closes (outcomes.Submitted r) = json_text closes 201 (acceptance_body r.reference r.cents r.entries r.order)
outcome_text closes (outcomes.Found None) = fault_text closes (Err NoReference)
outcome_text closes (outcomes.Found (Some report)) = json_text closes 200 (report_body report)
outcome_text closes (outcomes.Returns rows) = json_text closes 200 (returns_body rows)
outcome_text closes (outcomes.Changes rows) = json_text closes 200 (changes_body rows)
outcome_text closes (outcomes.Statement statement) = json_text closes 200 (statement_body statement)
outcome_text closes (outcomes.Rates rates) = json_text closes 200 (rates_body rates)
outcome_text closes (outcomes.Exposure exposure) = json_text closes 200 (exposure_body exposure)
outcome_text closes outcome = []

unfoldable pub answer_text : (closes : Bool) → Result Outcome Refusal → List ℕ
answer_text closes (Ok outcome) = outcome_text closes outcome
answer_text closes (Err refusal) = json_text closes (status_of (name_of refusal)) (refusal_body refusal)

abbrev pub request_text : (closes : Bool) → Result Request MessageFault → (part : List events.Event) → List ℕ
request_text closes (Ok request) P = answer_text closes (request_outcome P request)
request_text closes (Err fault) P = fault_text closes (Err fault)

abbrev pub reply_to : (closes : Bool) → Addressee → (part : List events.Event) → List ℕ
reply_to closes (to_nobody fault) P = fault_text closes (Err fault)
reply_to closes (to_company route c r) P = request_text closes (company_request (digest P) route c r) P
reply_to closes (to_operator route r) P = []

-- the answer to a message on a company's path, from the company's part over calls
abbrev pub answer_from : MessageValue → (part : List events.Event) → List ℕ
answer_from v P = reply_to (closes v) (addressee_of v) P

-- and from its part over bytes
abbrev pub reply : MessageValue → (part : List Event) → List ℕ
reply v P = answer_from v (core_events P)

abbrev pub IsOnRouteOf : (company : List ℕ) → Addressee → Type 0
IsOnRouteOf c (to_company route k r) = k ≡ c
IsOnRouteOf c a = ⊥

-- the message goes to a route of the company
abbrev pub IsToCompany : (company : List ℕ) → MessageValue → Type 0
IsToCompany c v = IsOnRouteOf c (addressee_of v)
