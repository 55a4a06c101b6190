-- The HTTP status and the kind of content of each answer.
use Rattle.std.specs.Prelude.{◌≡◌, ℕ, Some, None}
use Rattle.http_response.specs.declared.response.Content.{Content}
use Rattle.http_response.specs.declared.response.Content.TheVariants.{Json, PlainText}
use Rattle.desk_history.specs.declared.answer.Answer.{Answer}
use Rattle.desk_history.specs.declared.answer.Answer.TheVariants as answers
use Rattle.desk_history.specs.declared.answer.Outcome.{Outcome}
use Rattle.desk_history.specs.declared.answer.Outcome.TheVariants as outcomes
use Rattle.desk_history.specs.declared.call.Call.{Call}
use Rattle.desk_history.specs.declared.call.Call.TheVariants as calls
use Rattle.desk_history.specs.Calls.{IsMessageOf}
use Rattle.desk_history.specs.Message.{Message, Of, PutCompany, FileText}
use Rattle.desk_history.specs.Request as request
use Rattle.http_answers.specs.declared.statuses.CallKind.{CallKind}
use Rattle.http_answers.specs.declared.statuses.CallKind.TheVariants as kinds
use Rattle.http_answers.specs.Refusals.{refusal_status}

-- how the HTTP status of a message's answer is decided
abbrev pub kind_of : Message → CallKind
kind_of (Of company (request.Submit draft)) = kinds.Creates
kind_of (Of company (request.Retry draft)) = kinds.Creates
kind_of (Of company (request.LookUp reference)) = kinds.LooksUp
kind_of (PutCompany draft) = kinds.Creates
kind_of (FileText day modifier) = kinds.LooksUp
kind_of message = kinds.Other

-- and of what a call did
abbrev pub kind_of_call : Call → CallKind
kind_of_call (calls.Submit company draft) = kinds.Creates
kind_of_call (calls.Retry company draft) = kinds.Creates
kind_of_call (calls.PutCompany draft) = kinds.Creates
kind_of_call (calls.LookUp company reference) = kinds.LooksUp
kind_of_call (calls.FileText day modifier) = kinds.LooksUp
kind_of_call call = kinds.Other

-- 404 where nothing was found
abbrev pub found_status : Outcome → ℕ
found_status (outcomes.Found None) = 404
found_status (outcomes.File None) = 404
found_status outcome = 200

-- the status of what was done
abbrev pub outcome_status : CallKind → Outcome → ℕ
outcome_status kinds.Creates outcome = 201
outcome_status kinds.LooksUp outcome = found_status outcome
outcome_status kinds.Other outcome = 200

-- the status of an answer
abbrev pub status_of : CallKind → Answer → ℕ
status_of kind (answers.Done outcome) = outcome_status kind outcome
status_of kind (answers.Refused why) = refusal_status why

-- a file is plain text, and all else is JSON
abbrev pub content_of : Answer → Content
content_of (answers.Done (outcomes.File (Some text))) = PlainText
content_of answer = Json

-- a call and the message that it is are of one kind
abbrev pub OneKind : Type 0
OneKind = (call : Call) (m : Message) → IsMessageOf call m → kind_of_call call ≡ kind_of m
