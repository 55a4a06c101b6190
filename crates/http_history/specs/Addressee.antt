-- The addressee of a message, which follows from the message alone.
use Rattle.std.specs.Prelude.{ℕ, List, if◌then◌else◌, Option, Result, Ok, Err, codes}
use Rattle.std.specs.Str.{is_utf8}
use Rattle.http_message.specs.declared.framing.Framing.{Framing}
use Rattle.http_message.specs.declared.framing.Framing.TheVariants as framings
use Rattle.http_message.specs.Fields.{values_of, first_of}
use Rattle.http_message.specs.Framing.{framing_of}
use Rattle.http_message.specs.Message.{MessageValue, bad_head, asked, RequestValue, path_of}
use Rattle.http_routes.specs.declared.route.CompanyRoute.{CompanyRoute}
use Rattle.http_routes.specs.declared.route.OperatorRoute.{OperatorRoute}
use Rattle.http_routes.specs.declared.route.Route.{Route}
use Rattle.http_routes.specs.declared.route.Route.TheVariants.{Company, Operator}
use Rattle.http_routes.specs.declared.routes.RouteFault.{RouteFault}
use Rattle.http_routes.specs.declared.routes.RouteFault.TheVariants as route_faults
use Rattle.http_routes.specs.Finding.{route_verdict, piece_of}
use Rattle.http_routes.specs.Pieces.{service_at}
use Rattle.http_answers.specs.declared.faults.MessageFault.{MessageFault}
use Rattle.http_answers.specs.declared.faults.MessageFault.TheVariants.{BadHead, LengthRequired, TooLarge, NotFound, BadMethod}

-- the path of a request
abbrev pub request_path : RequestValue → List ℕ
request_path r = path_of r.target

-- the key that a request shows: the value of its first field of this name
abbrev pub shown_key : RequestValue → Option (List ℕ)
shown_key r = first_of (values_of (codes "X-Desk-Key") r.fields)

-- A request goes to the desk under a company's name, or under the operator's. The fault of any other message
-- follows from its head.
pub data Addressee : Type 0 where
  to_nobody : MessageFault → Addressee
  to_company : CompanyRoute → (company : List ℕ) → RequestValue → Addressee
  to_operator : OperatorRoute → RequestValue → Addressee

-- the route that the table has for a path, if it takes this method; a path that is not UTF-8 does not have one
abbrev pub route_of_path : (method path : List ℕ) → Result Route RouteFault
route_of_path method path = if is_utf8 path then route_verdict method (service_at path) else Err route_faults.NotFound

abbrev pub request_route : RequestValue → Result Route RouteFault
request_route r = route_of_path r.method (request_path r)

-- the company is the piece of the path after two slashes
abbrev pub addressee_by_route : RequestValue → Result Route RouteFault → Addressee
addressee_by_route r (Ok (Company route)) = to_company route (piece_of 2 (request_path r)) r
addressee_by_route r (Ok (Operator route)) = to_operator route r
addressee_by_route r (Err route_faults.NotFound) = to_nobody NotFound
addressee_by_route r (Err route_faults.BadMethod) = to_nobody BadMethod

-- what the head says of the body comes before the route
abbrev pub addressee_by_framing : RequestValue → Framing → Addressee
addressee_by_framing r framings.BadLength = to_nobody BadHead
addressee_by_framing r framings.LengthRequired = to_nobody LengthRequired
addressee_by_framing r framings.TooLarge = to_nobody TooLarge
addressee_by_framing r (framings.Body size) = addressee_by_route r (request_route r)

abbrev pub addressee_of : MessageValue → Addressee
addressee_of bad_head = to_nobody BadHead
addressee_of (asked r) = addressee_by_framing r (framing_of r.method r.fields)
