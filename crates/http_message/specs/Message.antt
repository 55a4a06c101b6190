-- A message of a session, as a value.
use Rattle.std.specs.Prelude.{ℕ, Bool, true, List, ◌==◌}
use Rattle.std.specs.List.{before_first}
use Rattle.http_message.specs.Fields.{FieldValue}
use Rattle.http_message.specs.Framing.{framing_of, closes_by}
use Rattle.http_message.specs.declared.message.Version.{Version}
use Rattle.http_message.specs.declared.request.Request.{Request}
use Rattle.http_message.specs.declared.message.Message.{Message}
use Rattle.http_message.specs.declared.message.Message.TheVariants.{BadHead, Asked}

-- a request, as a value
pub record RequestValue : Type 0 where
  pub method : List ℕ
  pub target : List ℕ
  pub version : Version
  pub fields : List FieldValue
  pub body : List ℕ
  pub is_last : Bool

-- a message, as a value: a bad head, or a request
pub data MessageValue : Type 0 where
  bad_head : MessageValue
  asked : RequestValue → MessageValue

-- the value of a request of the program
abbrev pub request_value : Request → RequestValue
request_value r = record {
  method = r.method.now;
  target = r.target.now;
  version = r.version;
  fields = r.fields;
  body = r.body.items;
  is_last = r.is_last;
}

-- the value of a message of the program
abbrev pub message_value : Message → MessageValue
message_value BadHead = bad_head
message_value (Asked r) = asked (request_value r)

-- a target up to the first question mark
abbrev pub path_of : List ℕ → List ℕ
path_of target = before_first (λ b. b == 63) target

-- whether the connection ends after the answer to a message, if it is answered
abbrev pub closes : MessageValue → Bool
closes bad_head = true
closes (asked r) = closes_by r.is_last r.version r.fields (framing_of r.method r.fields)
