-- The verdict on a message, from a book: a fault, or a call of the desk.
use Rattle.std.specs.Prelude.{◌≡◌, ℕ, ◌∷◌, [], Bool, false, ◌&&◌, if◌then◌else◌, List, Option, Some, None, unwrap_or, Result, Ok, Err, bytes_eq}
use Rattle.std.specs.Result.{result_ok}
use Rattle.serde_json.specs.Data.{Data}
use Rattle.sha2.specs.Sha256.{sha256}
use Rattle.ach_fields.specs.Names.{is_id, reference_of}
use Rattle.bank_days.specs.Day.{day_of}
use Rattle.desk_rules.specs.declared.bodies.draft.CompanyDraft.{CompanyDraft}
use Rattle.desk_rules.specs.declared.refusals.refusal.Field.TheVariants as field
use Rattle.http_json.specs.Drafts.{text_at, submission_draft_of, retry_draft_of, company_draft_of, limits_draft_of}
use Rattle.http_json.specs.Read.{object_of}
use Rattle.desk_history.specs.declared.call.Call.{Call}
use Rattle.desk_history.specs.declared.call.Call.TheVariants as calls
use Rattle.desk_history.specs.Calls.{IsMessageOf}
use Rattle.desk_history.specs.Message.{Message}
use Rattle.desk_history.specs.Request.{Request, Submit, Retry, LookUp, Returns, Changes, Statement, Rates, Exposure}
use Rattle.desk_book.specs.declared.caller.Caller.TheVariants as callers
use Rattle.desk_book.specs.Book.{Book}
use Rattle.desk_book.specs.Reads.{key_of}
use Rattle.http_message.specs.Message.{MessageValue, RequestValue}
use Rattle.http_routes.specs.declared.route.CompanyRoute.{CompanyRoute}
use Rattle.http_routes.specs.declared.route.CompanyRoute.TheVariants as company_routes
use Rattle.http_routes.specs.declared.route.OperatorRoute.{OperatorRoute}
use Rattle.http_routes.specs.declared.route.OperatorRoute.TheVariants as operator_routes
use Rattle.http_routes.specs.Finding.{piece_of}
use Rattle.http_answers.specs.declared.faults.MessageFault.{MessageFault}
use Rattle.http_answers.specs.declared.faults.MessageFault.TheVariants.{Denied, BadJson, NoReference, NoFile}
use Rattle.http_history.specs.Addressee.{Addressee, to_nobody, to_company, to_operator, addressee_of, request_path, shown_key}

-- what a message comes to: it makes a call, or has a fault
abbrev pub Verdict : Type 0
Verdict = Result Call MessageFault

-- ---- who has a key

-- a key is shown, and its SHA-256 is this digest
abbrev pub is_key : (digest : Option (List ℕ)) → (key : Option (List ℕ)) → Bool
is_key None key = false
is_key (Some digest) None = false
is_key (Some digest) (Some key) = bytes_eq (sha256 key) digest

-- who shows the key of this digest is the company
abbrev pub is_company : (digest : Option (List ℕ)) → (company : List ℕ) → (key : Option (List ℕ)) → Bool
is_company digest c key = is_id c && is_key digest key

-- ---- what a company asks

-- what the object of a body makes
abbrev pub with_object : {A : Type 0} → Option Data → (Data → A) → Result A MessageFault
with_object None make = Err BadJson
with_object (Some d) make = Ok (make d)

abbrev pub look_up : Option (List ℕ) → Result Request MessageFault
look_up None = Err NoReference
look_up (Some reference) = Ok (LookUp reference)

abbrev pub submission_in : (body : List ℕ) → Result Request MessageFault
submission_in body = with_object (object_of body) (λ d. Submit (submission_draft_of d))

abbrev pub retry_in : (body : List ℕ) → Result Request MessageFault
retry_in body = with_object (object_of body) (λ d. Retry (retry_draft_of d))

-- what is asked on a route; the reference is the piece of the path after four slashes
abbrev pub request_on : CompanyRoute → RequestValue → Result Request MessageFault
request_on company_routes.Submit r = submission_in r.body
request_on company_routes.Retry r = retry_in r.body
request_on company_routes.LookUp r = look_up (result_ok (reference_of (piece_of 4 (request_path r))))
request_on company_routes.Returns r = Ok Returns
request_on company_routes.Changes r = Ok Changes
request_on company_routes.Statement r = Ok Statement
request_on company_routes.Rates r = Ok Rates
request_on company_routes.Exposure r = Ok Exposure

-- what a company asks that has a key of this digest; without its key it is denied
abbrev pub company_request : (digest : Option (List ℕ)) → CompanyRoute → (company : List ℕ) → RequestValue → Result Request MessageFault
company_request digest route c r = if is_company digest c (shown_key r) then request_on route r else Err Denied

-- the call of a company's request
abbrev pub call_of : (company : List ℕ) → Request → Call
call_of c (Submit d) = calls.Submit c d
call_of c (Retry d) = calls.Retry c d
call_of c (LookUp reference) = calls.LookUp c reference
call_of c Returns = calls.ReturnsOf c
call_of c Changes = calls.ChangesOf c
call_of c Statement = calls.StatementOf c
call_of c Rates = calls.RatesOf c
call_of c Exposure = calls.ExposureOf c

abbrev pub company_verdict : (company : List ℕ) → Result Request MessageFault → Verdict
company_verdict c (Ok request) = Ok (call_of c request)
company_verdict c (Err fault) = Err fault

-- ---- what the operator asks

-- the company that an object is, with the SHA-256 of its key; of no bytes where it has none
abbrev pub company_with_digest : Data → CompanyDraft
company_with_digest d = company_draft_of (sha256 (unwrap_or (text_at field.Key d) [])) d

-- the call that the object of a body makes: a new desk day
abbrev pub day_in : (body : List ℕ) → Verdict
day_in body = with_object (object_of body) (λ d. calls.SetDay (text_at field.Day d))

-- a company that is registered
abbrev pub company_in : (body : List ℕ) → Verdict
company_in body = with_object (object_of body) (λ d. calls.PutCompany (company_with_digest d))

-- a company's new limits
abbrev pub limits_in : (body : List ℕ) → Verdict
limits_in body = with_object (object_of body) (λ d. calls.PutLimits (limits_draft_of d))

abbrev pub file_text : (day : Option ℕ) → (modifier : List ℕ) → Verdict
file_text (Some day) (modifier ∷ []) = Ok (calls.FileText day modifier)
file_text day modifier = Err NoFile

-- what is called on a route; a file's day is the piece of the path after three slashes, its modifier the next
abbrev pub operator_call : OperatorRoute → RequestValue → Verdict
operator_call operator_routes.SetDay r = day_in r.body
operator_call operator_routes.SetHolidays r = Ok (calls.SetHolidays r.body)
operator_call operator_routes.PutCompany r = company_in r.body
operator_call operator_routes.PutLimits r = limits_in r.body
operator_call operator_routes.Cut r = Ok calls.Cut
operator_call operator_routes.TakeFile r = Ok (calls.TakeFile r.body)
operator_call operator_routes.FileText r = file_text (day_of (piece_of 3 (request_path r))) (piece_of 4 (request_path r))
operator_call operator_routes.Settlement r = Ok calls.Settlement
operator_call operator_routes.Status r = Ok calls.Status
operator_call operator_routes.Companies r = Ok calls.Companies
operator_call operator_routes.Suspense r = Ok calls.SuspenseItems

-- without the operator's key it is denied
abbrev pub operator_verdict : (digest : Option (List ℕ)) → OperatorRoute → RequestValue → Verdict
operator_verdict digest route r = if is_key digest (shown_key r) then operator_call route r else Err Denied

-- ---- what a message comes to

-- by the digests of the companies' keys and of the operator's
abbrev pub verdict_by : (digests : List ℕ → Option (List ℕ)) → (operator : Option (List ℕ)) → Addressee → Verdict
verdict_by digests operator (to_nobody fault) = Err fault
verdict_by digests operator (to_company route c r) = company_verdict c (company_request (digests c) route c r)
verdict_by digests operator (to_operator route r) = operator_verdict operator route r

abbrev pub verdict_on : Book → MessageValue → Verdict
verdict_on b v = verdict_by (λ c. key_of (callers.Company c) b) (key_of callers.Operator b) (addressee_of v)

-- the message of the history that a verdict's call is; a fault has none
abbrev pub Means : Verdict → Option Message → Type 0
Means (Err fault) means = means ≡ None
Means (Ok call) None = ⊥
Means (Ok call) (Some m) = IsMessageOf call m
