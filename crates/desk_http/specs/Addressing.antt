-- To whom a request goes, step by step as the program decides it.
use Rattle.std.specs.Prelude.{◌≡◌, Result, Ok, Err}
use Rattle.http_message.specs.Message.{RequestValue, asked}
use Rattle.http_message.specs.declared.framing.Framing.TheVariants.{Body}
use Rattle.http_routes.specs.declared.route.CompanyRoute.{CompanyRoute}
use Rattle.http_routes.specs.declared.route.OperatorRoute.{OperatorRoute}
use Rattle.http_routes.specs.declared.route.Route.{Route}
use Rattle.http_routes.specs.Finding.{piece_of}
use Rattle.desk_book.specs.declared.caller.Caller.TheVariants as callers
use Rattle.desk_book.specs.Book.{Book}
use Rattle.desk_book.specs.Reads.{key_of}
use Rattle.http_answers.specs.declared.faults.MessageFault.{MessageFault}
use Rattle.http_history.specs.Addressee.{Addressee, to_nobody, addressee_of, addressee_by_framing, addressee_by_route, request_path}
use Rattle.http_history.specs.Verdict.{Verdict, company_verdict, company_request, operator_verdict}
use Rattle.desk_http.specs.Judged.{judged, judged_on}

-- the addressee of a request with this route, or with the fault that follows from its head alone
abbrev pub addressee_with : RequestValue → Result Route MessageFault → Addressee
addressee_with r (Ok route) = addressee_by_route r (Ok route)
addressee_with r (Err fault) = to_nobody fault

-- what a request comes to on a company's route, whose company the path names
abbrev pub company_path_verdict : CompanyRoute → RequestValue → Book → Verdict
company_path_verdict route r b =
    company_verdict (piece_of 2 (request_path r))
    (judged (company_request (key_of (callers.Company (piece_of 2 (request_path r))) b) route (piece_of 2 (request_path r)) r))

-- what a request comes to
abbrev pub request_verdict : RequestValue → Book → Verdict
request_verdict r = λ b. judged_on b (asked r)

-- and on a route of the operator
abbrev pub operator_route_verdict : OperatorRoute → RequestValue → Book → Verdict
operator_route_verdict route r = λ b. operator_verdict (key_of callers.Operator b) route r

-- the addressee of a request follows from its route, or from the fault of its head alone
abbrev pub TellsAddressee : RequestValue → Result Route MessageFault → Type 0
TellsAddressee r found = addressee_of (asked r) ≡ addressee_with r found

-- and where the head says well how long the body is
abbrev pub TellsByRoute : RequestValue → Result Route MessageFault → Type 0
TellsByRoute r found = addressee_with r found ≡ addressee_by_framing r (Body 0)
