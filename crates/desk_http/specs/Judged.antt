-- The verdict on a message as the program makes it: of a submission it has the draft as far as that is judged.
use Rattle.std.specs.Prelude.{ℕ, List, Option, Result, Ok, Err}
use Rattle.desk_history.specs.Request.{Request, Submit}
use Rattle.desk_book.specs.declared.caller.Caller.TheVariants as callers
use Rattle.desk_book.specs.Book.{Book}
use Rattle.desk_book.specs.Reads.{key_of}
use Rattle.http_json.specs.Judged.{judged_draft}
use Rattle.http_message.specs.Message.{MessageValue}
use Rattle.http_answers.specs.declared.faults.MessageFault.{MessageFault}
use Rattle.http_history.specs.Addressee.{Addressee, to_nobody, to_company, to_operator, addressee_of}
use Rattle.http_history.specs.Verdict.{Verdict, company_verdict, company_request, operator_verdict}

abbrev pub judged_request : Request → Request
judged_request (Submit d) = Submit (judged_draft d)
judged_request request = request

-- what a company asks, or the fault
abbrev pub judged : Result Request MessageFault → Result Request MessageFault
judged (Ok request) = Ok (judged_request request)
judged (Err fault) = Err fault

abbrev pub judged_by : (digests : List ℕ → Option (List ℕ)) → (operator : Option (List ℕ)) → Addressee → Verdict
judged_by digests operator (to_nobody fault) = Err fault
judged_by digests operator (to_company route c r) = company_verdict c (judged (company_request (digests c) route c r))
judged_by digests operator (to_operator route r) = operator_verdict operator route r

-- what a message comes to
abbrev pub judged_on : Book → MessageValue → Verdict
judged_on b v = judged_by (λ c. key_of (callers.Company c) b) (key_of callers.Operator b) (addressee_of v)
