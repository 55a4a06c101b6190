-- The meaning of a message that was read.
use Rattle.std.proofs.Common.{◌≡◌, ◌∙◌, ℕ, List, [], ◌∷◌, Bool, true, false, refl, sym, ap, subst}
use Rattle.std.specs.Prelude.{⊤, if◌then◌else◌, Option, Some, None, option_map, Result, Ok, Err}
use Rattle.serde_json.specs.Data.{Data}
use Rattle.bank_days.specs.Day.{day_of}
use Rattle.http_json.specs.Read.{object_of}
use Rattle.desk_history.specs.declared.call.Call.{Call}
use Rattle.desk_history.specs.Authorizations.{request_without_authorization, message_without_authorization}
use Rattle.desk_history.specs.Calls.{IsMessageOf}
use Rattle.desk_history.specs.Message.{Message, Of}
use Rattle.desk_history.specs.Request as request
use Rattle.desk_history.specs.Request.{Request}
use Rattle.http_message.specs.Message.{RequestValue}
use Rattle.http_routes.specs.declared.route.OperatorRoute.{OperatorRoute}
use Rattle.http_routes.specs.declared.route.OperatorRoute.TheVariants as operator_routes
use Rattle.http_routes.specs.Finding.{piece_of}
use Rattle.http_answers.specs.declared.faults.MessageFault.{MessageFault}
use Rattle.http_answers.specs.declared.faults.MessageFault.TheVariants.{Denied}
use Rattle.http_history.specs.Addressee.{request_path}
use Rattle.http_history.specs.Verdict.{Verdict, call_of, company_verdict, with_object, file_text, operator_call, Means}
use Rattle.http_history.specs.Versions.{Version, First, Present, read_at, MeansAt}

-- the message of a company's call is its request
pub own_message : (k : List ℕ) (q : Request) (m : Message) → IsMessageOf (call_of k q) m → m ≡ Of k q
own_message k (request.Submit d) m is = is
own_message k q m is = is

own_call : (k : List ℕ) (q : Request) → IsMessageOf (call_of k q) (Of k q)
own_call k (request.Submit d) = refl
own_call k q = refl

-- ---- by version

-- what was asked, as a desk of this version reads it
abbrev pub asked_at : Version → Result Request MessageFault → Result Request MessageFault
asked_at version (Ok q) = Ok (read_at version q)
asked_at version (Err fault) = Err fault

pub asked_if : (version : Version) (b : Bool) (asked : Result Request MessageFault) (fault : MessageFault)
    → asked_at version (if b then asked else Err fault) ≡ (if b then asked_at version asked else Err fault)
asked_if version true asked fault = refl
asked_if version false asked fault = refl

-- a company's message means what it asked, as the desk reads that
pub company_meaning : (version : Version) (k : List ℕ) (asked : Result Request MessageFault) (means : Option Message)
    → MeansAt version (company_verdict k asked) means → Means (company_verdict k (asked_at version asked)) means
company_meaning Present k (Ok q) means is = is
company_meaning Present k (Err fault) means is = is
company_meaning First k (Err fault) means (spelled, is, left) = left ∙ ap (option_map message_without_authorization) is
company_meaning First k (Ok q) means (None, is, left) = absurd is
company_meaning First k (Ok q) means (Some m, is, left) =
    subst (Means (Ok (call_of k (request_without_authorization q)))) (sym (left ∙ ap (λ (m : Message). Some (message_without_authorization m)) (own_message k q m is)))
    (own_call k (request_without_authorization q))

-- what has no such key means the same to a desk of each version
pub plain_meaning : (version : Version) (verdict : Verdict) (means : Option Message) → ((m : Message) → Means verdict (Some m) → message_without_authorization m ≡ m)
    → MeansAt version verdict means → Means verdict means
plain_meaning Present verdict means plain is = is
plain_meaning First verdict means plain (None, is, left) = subst (Means verdict) (sym left) is
plain_meaning First verdict means plain (Some m, is, left) = subst (Means verdict) (sym (left ∙ ap Some (plain m is))) is

pub nothing_meant : (version : Version) (fault : MessageFault) (means : Option Message) → MeansAt version (Err fault) means → means ≡ None
nothing_meant version fault means is = plain_meaning version (Err fault) means (λ m is. cc) is

-- ---- what the operator called

abbrev pub IsCommand : Message → Type 0
IsCommand (Of k r) = ⊥
IsCommand m = ⊤

object_command : (o : Option Data) (call : Data → Call) → ((d : Data) (m : Message) → IsMessageOf (call d) m → IsCommand m)
    → (m : Message) → Means (with_object o call) (Some m) → IsCommand m
object_command None call commands m is = cc
object_command (Some d) call commands m is = commands d m is

file_command : (day : Option ℕ) (modifier : List ℕ) (m : Message) → Means (file_text day modifier) (Some m) → IsCommand m
file_command None modifier m is = cc
file_command (Some d) [] m is = cc
file_command (Some d) (x ∷ []) m is = subst IsCommand (sym is) tt
file_command (Some d) (x ∷ y ∷ more) m is = cc

route_command : (route : OperatorRoute) (r : RequestValue) (m : Message) → Means (operator_call route r) (Some m) → IsCommand m
route_command operator_routes.SetDay r m is = object_command (object_of r.body) _ (λ d m is. subst IsCommand (sym is) tt) m is
route_command operator_routes.PutCompany r m is = object_command (object_of r.body) _ (λ d m is. subst IsCommand (sym is) tt) m is
route_command operator_routes.PutLimits r m is = object_command (object_of r.body) _ (λ d m is. subst IsCommand (sym is) tt) m is
route_command operator_routes.FileText r m is = file_command (day_of (piece_of 3 (request_path r))) (piece_of 4 (request_path r)) m is
route_command operator_routes.TakeFile r (Of k q) is = absurd is
route_command operator_routes.TakeFile r m is = tt
route_command route r m is = subst IsCommand (sym is) tt

pub is_command : (b : Bool) (route : OperatorRoute) (r : RequestValue) (m : Message)
    → Means (if b then operator_call route r else Err Denied) (Some m) → IsCommand m
is_command false route r m is = cc
is_command true route r m is = route_command route r m is

-- a command has no key to leave out
pub plain_command : (m : Message) → IsCommand m → message_without_authorization m ≡ m
plain_command (Of k r) command = absurd command
plain_command m command = refl

pub command_meaning : (version : Version) (b : Bool) (route : OperatorRoute) (r : RequestValue) (means : Option Message)
    → MeansAt version (if b then operator_call route r else Err Denied) means → Means (if b then operator_call route r else Err Denied) means
command_meaning version b route r means is =
    plain_meaning version (if b then operator_call route r else Err Denied) means (λ m is. plain_command m (is_command b route r m is)) is
