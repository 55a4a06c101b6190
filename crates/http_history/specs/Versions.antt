-- How a desk of each version reads a request. Version 1 did not read the key `authorized` of a retry's body.
use Rattle.std.specs.Prelude.{◌≡◌, Option, option_map}
use Rattle.desk_history.specs.Authorizations.{request_without_authorization, message_without_authorization}
use Rattle.desk_history.specs.Message.{Message}
use Rattle.desk_history.specs.Request.{Request}
use Rattle.http_history.specs.Verdict.{Verdict, Means}

-- the version of the desk that took a message
pub data Version : Type 0 where
  First : Version
  Present : Version

-- the request, as a desk of this version reads it
abbrev pub read_at : Version → Request → Request
read_at First r = request_without_authorization r
read_at Present r = r

-- what a verdict means to a desk of this version: to one of version 1, what it means without the key
abbrev pub MeansAt : Version → Verdict → Option Message → Type 0
MeansAt First verdict means = (spelled : Option Message) × Means verdict spelled × (means ≡ option_map message_without_authorization spelled)
MeansAt Present verdict means = Means verdict means
