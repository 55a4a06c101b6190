-- The start of the bytes that came, as the program reads it.
use Rattle.std.specs.Prelude.{ℕ, ◌<◌, List, length, drop, map, take}
use Rattle.httparse.specs.Grammar.{RequestHead, HasNoRequest}
use Rattle.httparse.specs.Spans.{header_bytes, span_bytes, IsRequestAt, IsRequestWithin}
use Rattle.httparse.specs.declared.spans.HeaderSpan.{HeaderSpan}
use Rattle.httparse.specs.declared.spans.RequestSpans.{RequestSpans}
use Rattle.http_message.specs.Fields.{FieldValue}
use Rattle.http_message.specs.Framing.{framing_of}
use Rattle.http_message.specs.Heads.{Opens, NeverOpens}
use Rattle.http_message.specs.declared.framing.Framing.{Framing}
use Rattle.http_message.specs.declared.head.Start.{Start}
use Rattle.http_message.specs.declared.head.Start.TheVariants.{Unfinished, Bad, Head}

-- the head at the start of the bytes, whose parts lie where the spans say
pub record IsHeadAt (bytes : List ℕ) (fields : List HeaderSpan) (spans : RequestSpans) (head : RequestHead) : Type 0 where
  pub opens : Opens bytes head (drop spans.len bytes)
  pub parts : IsRequestAt bytes fields spans head
  pub within : IsRequestWithin bytes fields spans

-- the start of the bytes
abbrev pub IsStart : List ℕ → List HeaderSpan → Start → Type 0
IsStart bytes fields Unfinished = (length bytes < 16384) × HasNoRequest bytes
IsStart bytes fields Bad = NeverOpens bytes
IsStart bytes fields (Head spans) = (head : RequestHead) × IsHeadAt bytes fields spans head

-- the fields that lie where the spans say
abbrev pub fields_at : (bytes : List ℕ) → List HeaderSpan → RequestSpans → List FieldValue
fields_at bytes fields spans = map (header_bytes bytes) (take spans.headers fields)

-- what the head whose parts lie where the spans say says of its body
abbrev pub framing_at : (bytes : List ℕ) → List HeaderSpan → RequestSpans → Framing
framing_at bytes fields spans = framing_of (span_bytes bytes spans.method) (fields_at bytes fields spans)

-- this holds of the head whose parts lie where the spans say
abbrev pub OnHeadAt : (bytes : List ℕ) → List HeaderSpan → RequestSpans → (RequestHead → Type 0) → Type 0
OnHeadAt bytes fields spans Holds = (head : RequestHead) → IsRequestAt bytes fields spans head → Holds head
