-- How bytes are read from a reader.
use Rattle.std.specs.Prelude.{⊤, ◌≡◌, ℕ, ◌+◌, ◌<◌, ◌≤◌, ◌==◌, ◌||◌, Bool, true, false, List, [], ◌++◌, length, min, take, drop, Option, Some, None, Result, Ok, Err, Vec}
use Rattle.std.specs.declared.alloc.Global.{Global}
use Rattle.std.specs.Io.KnownBytes.{Consumes, IsAtEnd}
use Rattle.httparse.specs.Grammar.{RequestHead, HasNoRequest}
use Rattle.httparse.specs.declared.spans.HeaderSpan.{HeaderSpan}
use Rattle.httparse.specs.declared.spans.RequestSpans.{RequestSpans}
use Rattle.http_message.specs.Start.{IsStart, IsHeadAt, framing_at}
use Rattle.http_message.specs.declared.framing.Framing.{Framing}
use Rattle.http_message.specs.Heads.{request_of}
use Rattle.http_message.specs.Message.{asked}
use Rattle.http_message.specs.Stream.{Reads, ReadsBad, IsCut, IsPart, WantsBody}
use Rattle.http_message.specs.declared.head.Start.{Start}
use Rattle.http_message.specs.declared.head.Start.TheVariants.{Unfinished}
use Rattle.http_message.specs.declared.reading.Arrival.{Arrival}
use Rattle.http_message.specs.declared.reading.Arrival.TheVariants as arrivals
use Rattle.http_message.specs.declared.reading.Stop.{Stop}
use Rattle.http_message.specs.declared.reading.Stop.TheVariants.{Fault, NoRoom}

-- the bytes grew by this number that the reader gave
pub record Grows (count : ℕ) (before after : Option (List ℕ)) (old new : List ℕ) : Type 0 where
  pub taken : List ℕ
  pub takes : Consumes before after taken
  pub grown : new ≡ old ++ taken
  pub size : length taken ≡ count

-- a byte of a line end
abbrev pub is_line_end_byte : ℕ → Bool
is_line_end_byte b = b == 13 || b == 10

-- the head at the start is not whole yet, and there is room for more of it
abbrev pub IsOpen : List ℕ → Type 0
IsOpen bytes = (length bytes < 16384) × HasNoRequest bytes

-- whether more came, which may complete a head; if not, the input has ended
abbrev pub TellsMore : {E : Type 0} → Result Bool E → Option (List ℕ) → List ℕ → List ℕ → Type 0
TellsMore (Ok true) after old new = length old < length new
TellsMore (Ok false) after old new = IsOpen new × IsAtEnd after
TellsMore (Err fault) after old new = IsOpen new

-- the bytes grew by what the reader gave
pub record ReadsOn {E : Type 0} (result : Result Bool E) (before after : Option (List ℕ)) (old new : List ℕ) : Type 0 where
  pub taken : List ℕ
  pub takes : Consumes before after taken
  pub grown : new ≡ old ++ taken
  pub tells : TellsMore result after old new

-- the input has ended before a head was whole
abbrev pub EndsUnfinished : Start → Option (List ℕ) → Type 0
EndsUnfinished Unfinished after = IsAtEnd after
EndsUnfinished start after = Unit {0}

-- the start of the bytes, which are at most 16,384; or a read failed, and the head is not whole yet
abbrev pub TellsStart : {E : Type 0} → Result Start E → List HeaderSpan → Option (List ℕ) → List ℕ → Type 0
TellsStart (Ok start) fields after bytes = IsStart bytes fields start × EndsUnfinished start after × (length bytes ≤ 16384)
TellsStart (Err fault) fields after bytes = IsOpen bytes

-- the bytes grew by what the reader gave, until the start was known
pub record ReadsHead {E : Type 0} (result : Result Start E) (fields : List HeaderSpan) (before after : Option (List ℕ)) (old new : List ℕ) : Type 0 where
  pub taken : List ℕ
  pub takes : Consumes before after taken
  pub grown : new ≡ old ++ taken
  pub tells : TellsStart result fields after new

-- The room was filled by all that the reader gave; or the input ended, or a read failed, after less.
abbrev pub TellsRoom : {E : Type 0} → Result Bool E → List ℕ → List ℕ → Option (List ℕ) → Type 0
TellsRoom (Ok true) taken room after = room ≡ taken
TellsRoom (Ok false) taken room after = (length taken < length room) × IsAtEnd after
TellsRoom (Err fault) taken room after = length taken < length room

-- a room was filled by what the reader gave
pub record FillsRoom {E : Type 0} (result : Result Bool E) (before after : Option (List ℕ)) (room : List ℕ) : Type 0 where
  pub taken : List ℕ
  pub takes : Consumes before after taken
  pub tells : TellsRoom result taken room after

-- A body of this size from what had come and what was taken: it is whole, up to what had come after it; or
-- the input ended inside it; or a read failed inside it; or it had no room.
abbrev pub TellsBody : Result (Option (Vec ℕ Global)) Stop → List ℕ → List ℕ → ℕ → Option (List ℕ) → Type 0
TellsBody (Ok (Some body)) come taken size after =
    (length body.items ≡ size) × (come ++ taken ≡ body.items ++ drop size come)
TellsBody (Ok None) come taken size after = (length (come ++ taken) < size) × IsAtEnd after
TellsBody (Err Fault) come taken size after = length (come ++ taken) < size
TellsBody (Err NoRoom) come taken size after = (0 < size) × (taken ≡ [])

-- a body of this size is read; some of its bytes had come
pub record ReadsBody (result : Result (Option (Vec ℕ Global)) Stop) (before after : Option (List ℕ)) (come : List ℕ) (size : ℕ) : Type 0 where
  pub taken : List ℕ
  pub takes : Consumes before after taken
  pub tells : TellsBody result come taken size after

-- The stream begins with a request, whose head is at the start of the bytes; the rest of the stream is what
-- the bytes have after the request. The framing is that of the head.
pub record IsRequest (stream bytes : List ℕ) (fields : List HeaderSpan) (spans : RequestSpans) (framing : Framing) (body : List ℕ) : Type 0 where
  pub head : RequestHead
  pub framed : framing ≡ framing_at bytes fields spans
  pub at : IsHeadAt bytes fields spans head
  pub reads : (is_last : Bool) → Reads is_last stream (asked (request_of head body is_last)) (drop (length body) (drop spans.len bytes))

-- as many bytes as a head and a body have at most
abbrev pub IsLittle : List ℕ → Type 0
IsLittle bytes = length bytes ≤ 16384 + 4194304

-- what came, if the stream is all that had come and was taken, and the bytes are what was not cut from it
abbrev pub IsArrival : Arrival → List HeaderSpan → List ℕ → List ℕ → Option (List ℕ) → Type 0
IsArrival arrivals.Fault fields stream bytes after = IsPart stream
IsArrival arrivals.NoRoom fields stream bytes after = WantsBody stream × IsLittle stream
IsArrival arrivals.End fields stream bytes after = (stream ≡ []) × IsAtEnd after
IsArrival arrivals.Cut fields stream bytes after = IsCut stream × IsAtEnd after
IsArrival arrivals.BadHead fields stream bytes after = ReadsBad stream bytes
IsArrival (arrivals.Request spans framing body) fields stream bytes after = IsRequest stream bytes fields spans framing body.items

-- the reader gave some bytes, and this came; at most 16,384 bytes are kept
pub record Arrives (arrival : Arrival) (fields : List HeaderSpan) (before after : Option (List ℕ)) (old new : List ℕ) : Type 0 where
  pub taken : List ℕ
  pub takes : Consumes before after taken
  pub is : IsArrival arrival fields (old ++ taken) new after
  pub few : length new ≤ 16384

-- after a fault this holds, as what is then known of the reader
abbrev pub OnStopFault : Result (Option (Vec ℕ Global)) Stop → (Known : Type 0) → Type 0
OnStopFault (Err Fault) Known = Known
OnStopFault result Known = ⊤

abbrev pub OnArrivalFault : Arrival → (Known : Type 0) → Type 0
OnArrivalFault arrivals.Fault Known = Known
OnArrivalFault arrival Known = ⊤

-- a room of this size begins with those of its bytes that had come
abbrev pub HasWhatCame : (size : ℕ) → (come room : List ℕ) → Type 0
HasWhatCame size come room = take (min size (length come)) room ≡ take size come
