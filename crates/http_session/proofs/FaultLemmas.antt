-- How a session leaves its reader and its writer.
use Rattle.std.proofs.Common.{Bool, true, false, Result, Ok, Err}
use Rattle.io_retries.specs.declared.sink.Sink as sink
use Rattle.io_retries.specs.declared.source.Source as source
use Rattle.io_retries.specs.declared.tries.Tries.{Tries}
use Rattle.io_retries.proofs.FailureLemmas.{cannot_read, cannot_write}
use Rattle.http_session.specs.Faults.{AfterFault, UnlessCutOff}
use Rattle.http_session.specs.Sides.{Faults, Flushes, Leaves}
use Rattle.http_session.specs.Turns.{turn_of}
use Rattle.http_session.specs.declared.sessions.SessionFault.{SessionFault}
use Rattle.http_session.specs.declared.sessions.SessionFault.TheVariants.{Read, Write}

-- the fault of a turn is that of the reply
pub turn_faults : (told : Result Bool SessionFault) (is_last : Bool) (OfRead OfWrite : Type 0) → AfterFault told ⊥ OfWrite
    → AfterFault (turn_of told is_last) OfRead OfWrite
turn_faults (Ok true) is_last OfRead OfWrite known = tt
turn_faults (Ok false) true OfRead OfWrite known = tt
turn_faults (Ok false) false OfRead OfWrite known = tt
turn_faults (Err Read) is_last OfRead OfWrite known = absurd known
turn_faults (Err Write) is_last OfRead OfWrite known = known

pub turn_flushes : (told : Result Bool SessionFault) (is_last : Bool) (Holds : Type 0) → UnlessCutOff told Holds
    → UnlessCutOff (turn_of told is_last) Holds
turn_flushes (Ok true) is_last Holds holds = holds
turn_flushes (Ok false) true Holds holds = holds
turn_flushes (Ok false) false Holds holds = holds
turn_flushes (Err Read) is_last Holds holds = holds
turn_flushes (Err Write) is_last Holds holds = tt

-- what a session's clauses say of its reader and its writer, without its tries
pub leaves : {R W A : Type 0} (r : source.Ghosts R) (w : sink.Ghosts W) (result : Result A SessionFault) (reader : R) (old new : W) (tries : Tries)
    → Faults r w result reader new tries → Flushes w result old new → Leaves r w result reader old new
leaves r w (Ok a) reader old new tries fault flushed = record { fault = tt; flushed = flushed }
leaves r w (Err Read) reader old new tries fault flushed =
    record { fault = cannot_read r reader tries fault; flushed = flushed }
leaves r w (Err Write) reader old new tries fault flushed =
    record { fault = cannot_write w new tries fault; flushed = tt }
