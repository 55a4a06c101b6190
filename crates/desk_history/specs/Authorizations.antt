-- Histories without the key `authorized` of a retry's body. A desk of the first version didn't read the key: what it
-- holds is what the history without the key gives.
use Rattle.std.specs.Prelude.{◌≡◌, ⊤, ℕ, List, map, All, Option, None, option_and_then}
use Rattle.desk_rules.specs.declared.bodies.draft.Optional.TheVariants.{Absent}
use Rattle.desk_rules.specs.declared.bodies.submission.Retry.{Retry}
use Rattle.desk_history.specs.Request as request
use Rattle.desk_history.specs.Request.{Request}
use Rattle.desk_history.specs.Message.{Message, Of, Pair}
use Rattle.desk_history.specs.Accepted.{AcceptedSubmission}
use Rattle.desk_history.specs.Acceptance.{submissions}
use Rattle.desk_history.specs.History.{part}

-- ---- the key is left out

abbrev pub request_without_authorization : Request → Request
request_without_authorization (request.Retry d) = request.Retry (record d { authorized = Absent })
request_without_authorization r = r

abbrev pub message_without_authorization : Message → Message
message_without_authorization (Of c r) = Of c (request_without_authorization r)
message_without_authorization m = m

abbrev pub pair_without_authorization : Pair → Pair
pair_without_authorization x = record { message = message_without_authorization x.message; answer = x.answer }

-- the same messages with the same answers, but for the key
abbrev pub without_authorizations : List Pair → List Pair
without_authorizations H = map pair_without_authorization H

-- ---- where it was never there

abbrev pub AsksNoAuthorization : Request → Type 0
AsksNoAuthorization (request.Retry d) = d.authorized ≡ Absent
AsksNoAuthorization r = ⊤

abbrev pub HasNoAuthorization : Message → Type 0
HasNoAuthorization (Of c r) = AsksNoAuthorization r
HasNoAuthorization m = ⊤

abbrev pub HaveNoAuthorizations : List Pair → Type 0
HaveNoAuthorizations H = All (λ x. HasNoAuthorization x.message) H

-- the day on which the receiver authorized a retry again
abbrev pub authorization_of : Option Retry → Option ℕ
authorization_of retry = option_and_then (λ r. r.authorized) retry

abbrev pub IsUnauthorized : AcceptedSubmission → Type 0
IsUnauthorized a = authorization_of a.retry ≡ None

-- After this no retry has the key, and nothing else changes. If no retry had it, none is accepted as authorized.
pub record AuthorizationsLeftOut : Type 0 where
  pub none : (H : List Pair) → HaveNoAuthorizations (without_authorizations H)
  pub same : (H : List Pair) → HaveNoAuthorizations H → without_authorizations H ≡ H
  pub answers : (H : List Pair) → map (λ x. x.answer) (without_authorizations H) ≡ map (λ x. x.answer) H
  pub accepted : (odfi : List ℕ) (H : List Pair) (c : List ℕ) → HaveNoAuthorizations H → All IsUnauthorized (submissions (part odfi H c))
