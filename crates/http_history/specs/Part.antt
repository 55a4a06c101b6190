-- The part of a company in a history over bytes, the newest event first.
use Rattle.std.specs.Prelude.{ℕ, Bool, true, false, ◌&&◌, List, [], ◌∷◌, ◌++◌, map, Option, Some, None, Result, Ok, Err, bytes_eq}
use Rattle.desk_history.specs.declared.identity.Identity.{Identity}
use Rattle.desk_history.specs.History as core_history
use Rattle.desk_history.specs.History.{events_for, request_event, is_new, sent_entries}
use Rattle.desk_history.specs.Message as core
use Rattle.desk_history.specs.Message.{Message, is_accepted}
use Rattle.desk_history.specs.Operator.{answer_to}
use Rattle.desk_history.specs.Part as events
use Rattle.desk_history.specs.Part.{digest}
use Rattle.desk_history.specs.Request.{Request}
use Rattle.http_routes.specs.declared.route.CompanyRoute.{CompanyRoute}
use Rattle.http_routes.specs.declared.route.CompanyRoute.TheVariants as company_routes
use Rattle.http_answers.specs.declared.faults.MessageFault.{MessageFault}
use Rattle.http_history.specs.Addressee.{Addressee, to_nobody, to_company, to_operator, addressee_of, shown_key}
use Rattle.http_history.specs.Verdict.{submission_in, retry_in, is_company}
use Rattle.http_history.specs.Versions.{Version, read_at}
use Rattle.http_history.specs.History.{Origin, taken_by, from_facts, Pair, call_at, calls_of}

-- the body that the company posted to a desk of this version; or an event of its part over calls
pub data Event : Type 0 where
  Posted : Version → CompanyRoute → (body : List ℕ) → Event
  Given : events.Event → Event

-- ---- as events of calls

-- the event of a posted body; a body that is not an object has none
abbrev pub posted_events : Version → Result Request MessageFault → List events.Event
posted_events version (Ok request) = request_event true (read_at version request)
posted_events version (Err fault) = []

abbrev pub events_of_post : Version → CompanyRoute → (body : List ℕ) → List events.Event
events_of_post version company_routes.Submit body = posted_events version (submission_in body)
events_of_post version company_routes.Retry body = posted_events version (retry_in body)
events_of_post version route body = []

abbrev pub core_event : Event → List events.Event
core_event (Posted version route body) = events_of_post version route body
core_event (Given e) = e ∷ []

abbrev pub core_events : List Event → List events.Event
core_events [] = []
core_events (e ∷ P) = core_event e ++ core_events P

-- ---- the part

abbrev pub is_post : CompanyRoute → Bool
is_post company_routes.Submit = true
is_post company_routes.Retry = true
is_post route = false

abbrev pub post_if : Bool → Version → CompanyRoute → List ℕ → List Event
post_if true version route body = Posted version route body ∷ []
post_if false version route body = []

-- the POST of the company under its key, whatever was answered; P is its part over calls before
abbrev pub own_events : (company : List ℕ) → Version → Addressee → List events.Event → List Event
own_events c version (to_nobody fault) P = []
own_events c version (to_company route k r) P = post_if (is_post route && (bytes_eq k c && is_company (digest P) c (shown_key r))) version route r.body
own_events c version (to_operator route r) P = []

abbrev pub origin_events : (company : List ℕ) → Origin → List events.Event → List Event
origin_events c (taken_by version v) P = own_events c version (addressee_of v) P
origin_events c from_facts P = []

-- the events that a call gives the company
abbrev pub call_events : Identity → (company : List ℕ) → List core.Pair → Option Message → List events.Event
call_events identity c G None = []
call_events identity c G (Some m) = events_for identity.odfi (sent_entries identity.odfi G) (is_new G m) c (is_accepted (answer_to identity G m)) m (core_history.part identity.odfi G c)

-- what was posted; else what the call gives
abbrev pub or_given : (posted : List Event) → List events.Event → List Event
or_given [] es = map Given es
or_given (e ∷ posted) es = e ∷ posted

-- the events that a pair gives the company after a history
abbrev pub events_at : Identity → List Pair → Pair → (company : List ℕ) → List Event
events_at identity H x c =
    let G = calls_of identity H in
    or_given (origin_events c x.origin (core_history.part identity.odfi G c)) (call_events identity c G (call_at identity G x x.means))

abbrev pub part : Identity → List Pair → (company : List ℕ) → List Event
part identity [] c = []
part identity (x ∷ H) c = events_at identity H x c ++ part identity H c
