-- The facts that hold after a session's fault.
use Rattle.std.specs.Prelude.{⊤, Result, Ok, Err}
use Rattle.http_session.specs.declared.sessions.SessionFault.{SessionFault}
use Rattle.http_session.specs.declared.sessions.SessionFault.TheVariants.{Read, Write}

-- a fault of a read, or of a write, comes with what is then known of the reader, or of the writer
abbrev pub AfterFault : {A : Type 0} → Result A SessionFault → (OfRead OfWrite : Type 0) → Type 0
AfterFault (Ok a) OfRead OfWrite = ⊤
AfterFault (Err Read) OfRead OfWrite = OfRead
AfterFault (Err Write) OfRead OfWrite = OfWrite

-- this holds unless a write failed
abbrev pub UnlessCutOff : {A : Type 0} → Result A SessionFault → (Holds : Type 0) → Type 0
UnlessCutOff (Err Write) Holds = ⊤
UnlessCutOff result Holds = Holds
