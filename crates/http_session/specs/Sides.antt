-- A session's answerer, reader and writer as the program has them. `a` has the facts of the answerer, `r` those of the bytes
-- that a reader has left, and `w` those of the bytes that a writer holds.
use Rattle.std.specs.Prelude.{◌≡◌, ◌⊎◌, ℕ, Bool, List, Option, Result, Vec}
use Rattle.std.specs.declared.alloc.Global.{Global}
use Rattle.httparse.specs.declared.spans.HeaderSpan.{HeaderSpan}
use Rattle.httparse.specs.declared.spans.RequestSpans.{RequestSpans}
use Rattle.io_retries.specs.Failures.{CannotRead, CannotWrite, ReadFailed, WriteFailed}
use Rattle.io_retries.specs.declared.sink.Sink as sink
use Rattle.io_retries.specs.declared.source.Source as source
use Rattle.io_retries.specs.declared.tries.Tries.{Tries}
use Rattle.http_message.specs.Heads.{request_of}
use Rattle.http_message.specs.Message.{MessageValue, message_value, asked}
use Rattle.http_message.specs.Start.{OnHeadAt}
use Rattle.http_message.specs.Stream.{is_last_after}
use Rattle.http_message.specs.declared.message.Message.{Message}
use Rattle.http_session.specs.Exchanges.{Exchange, StandsAfter}
use Rattle.http_session.specs.Faults.{AfterFault, UnlessCutOff}
use Rattle.http_session.specs.Session.{SessionRan}
use Rattle.http_session.specs.Turns.{Replied, SoFar, Turned}
use Rattle.http_session.specs.declared.answers.Answers as answers
use Rattle.http_session.specs.declared.sessions.Ended.{Ended}
use Rattle.http_session.specs.declared.sessions.SessionFault.{SessionFault}

module _ {D : Type 0} (a : answers.Ghosts D) where
  -- if it is clean, it represents what these messages with their answers make of what it represented
  abbrev pub StandsOn : (old new : D) → List Exchange → Type 0
  StandsOn old new exchanges = StandsAfter a.step (a.is_clean new) (a.stands_for old) (a.stands_for new) exchanges

module _ {D W : Type 0} (a : answers.Ghosts D) (w : sink.Ghosts W) (old new : D) (held holds : W) where
  -- the message was answered, and the answer written
  abbrev pub RepliesTo : MessageValue → Result Bool SessionFault → Type 0
  RepliesTo message result =
      Replied a.step (a.is_clean new) (a.stands_for old) (a.stands_for new) message
      (w.contents held) (w.contents holds) result

  -- the message of the program was answered
  abbrev pub Replies : Message → Result Bool SessionFault → Type 0
  Replies message result = RepliesTo (message_value message) result

  -- the request was answered whose head lies where the spans say, and that has this body
  abbrev pub RepliesAt : (bytes : List ℕ) → List HeaderSpan → RequestSpans → (body : Vec ℕ Global) → (is_last : Bool)
      → Result Bool SessionFault → Type 0
  RepliesAt bytes fields spans body is_last result =
      OnHeadAt bytes fields spans (λ head. RepliesTo (asked (request_of head body.items is_last)) result)

module _ {D R W : Type 0} (a : answers.Ghosts D) (r : source.Ghosts R) (w : sink.Ghosts W) where
  -- A session that has gone on so far, whatever it began with, has gone on after one message more, or has ended.
  abbrev pub Turns : (is_last : Bool) → (old new : D) → (before after : R) → (held holds : W) → (unread left : List ℕ)
      → Result (Option Ended) SessionFault → Type 0
  Turns is_last old new before after held holds unread left result =
      (start : D) (input output : Option (List ℕ)) (count : ℕ) → is_last ≡ is_last_after count
      → SoFar a.step (a.is_clean old) (a.stands_for start) (a.stands_for old)
      input (r.remaining before) output (w.contents held) count unread
      → Turned a.step (a.is_clean new) (a.stands_for start) (a.stands_for new)
      input (r.remaining after) output (w.contents holds) count left result

  -- the session ran from its first message to its end
  abbrev pub Runs : (old new : D) → (before after : R) → (held holds : W) → Result Ended SessionFault → Type 0
  Runs old new before after held holds result =
      SessionRan a.step (a.is_clean new) (a.stands_for old) (a.stands_for new)
      (r.remaining before) (r.remaining after) (w.contents held) (w.contents holds) result

module _ {W : Type 0} (w : sink.Ghosts W) where
  -- a write failed, and left the writer so
  abbrev pub WriterFaults : {A : Type 0} → Result A SessionFault → W → Tries → Type 0
  WriterFaults result writer tries = AfterFault result ⊥ (WriteFailed w writer tries)

  -- unless a write failed, nothing was written, or what was is flushed
  abbrev pub Flushes : {A : Type 0} → Result A SessionFault → (old new : W) → Type 0
  Flushes result old new = UnlessCutOff result ((new ≡ old) ⊎ w.is_flushed new)

module _ {R W : Type 0} (r : source.Ghosts R) (w : sink.Ghosts W) where
  -- a read or a write failed, and left the reader or the writer so
  abbrev pub Faults : {A : Type 0} → Result A SessionFault → R → W → Tries → Type 0
  Faults result reader writer tries = AfterFault result (ReadFailed r reader tries) (WriteFailed w writer tries)

  -- how a session leaves its reader and its writer, of whose tries nothing more is known
  pub record Leaves {A : Type 0} (result : Result A SessionFault) (reader : R) (old new : W) : Type 0 where
    pub fault : AfterFault result (CannotRead r reader) (CannotWrite w new)
    pub flushed : Flushes w result old new
