-- The head of a request at the start of a stream.
use Rattle.std.specs.Prelude.{◌≡◌, ℕ, ◌≤◌, ◌==◌, Bool, List, ◌++◌, length, map, if◌then◌else◌}
use Rattle.httparse.specs.Grammar.{RequestHead, print_request, ReadsRequest}
use Rattle.httparse.specs.Spans.{name_and_value}
use Rattle.http_message.specs.Fields.{FieldValue}
use Rattle.http_message.specs.Framing.{framing_of}
use Rattle.http_message.specs.Message.{RequestValue, request_value}
use Rattle.http_message.specs.declared.framing.Framing.{Framing}
use Rattle.http_message.specs.declared.request.Request.{Request}
use Rattle.http_message.specs.declared.message.Version.{Version}
use Rattle.http_message.specs.declared.message.Version.TheVariants.{Http10, Http11}

-- The stream begins with the head and goes on with the rest. The head has at most 16,384 bytes, with the
-- empty lines before it, and at most 32 fields.
pub record Opens (stream : List ℕ) (head : RequestHead) (rest : List ℕ) : Type 0 where
  pub reads : ReadsRequest stream head rest
  pub few : length head.fields ≤ 32
  pub short : length (print_request head) ≤ 16384

-- whatever follows, the stream begins with no such head
abbrev pub NeverOpens : List ℕ → Type 0
NeverOpens stream = (more : List ℕ) (head : RequestHead) (rest : List ℕ) → ¬ (Opens (stream ++ more) head rest)

-- the names and values of a head's fields, the values without the blanks around them
abbrev pub fields_of : RequestHead → List FieldValue
fields_of head = map name_and_value head.fields

-- what the head says of the body
abbrev pub head_framing : RequestHead → Framing
head_framing head = framing_of head.method (fields_of head)

-- the version with this minor number, 0 or 1
abbrev pub version_of : ℕ → Version
version_of minor = if minor == 0 then Http10 else Http11

-- the request with this head and this body
abbrev pub request_of : RequestHead → List ℕ → Bool → RequestValue
request_of head body is_last = record {
  method = head.method;
  target = head.target;
  version = version_of head.minor;
  fields = fields_of head;
  body = body;
  is_last = is_last;
}

-- a request of the program has this head and this body
abbrev pub HasHead : Request → RequestHead → (body : List ℕ) → (is_last : Bool) → Type 0
HasHead request head body is_last = request_value request ≡ request_of head body is_last
