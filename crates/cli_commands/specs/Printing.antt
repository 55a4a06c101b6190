-- How a command prints its answer, and the status with which it ends.
use Rattle.std.specs.Prelude.{◌≡◌, Option, None, Some, ℕ, Bool, List, [], ◌∷◌, ◌++◌, if◌then◌else◌, codes, Vec}
use Rattle.std.specs.declared.alloc.Global.{Global}
use Rattle.io_retries.specs.Written.{IsCutOff, IsWritten, IsWrittenOrCutOff}
use Rattle.io_retries.specs.declared.sink.Sink as sink
use Rattle.cli_commands.specs.declared.status.Status.{Status}
use Rattle.cli_commands.specs.declared.status.Status.TheVariants.{Done, Refused}

-- an answer with its line ended
abbrev pub with_line_feed : (answer : Bool × List ℕ) → Bool × List ℕ
with_line_feed answer = (answer.0, answer.1 ++ 10 ∷ [])

-- how a command ends that printed its answer
abbrev pub status_of : (is_accepted : Bool) → Status
status_of is_accepted = if is_accepted then Done else Refused

-- what is printed where a read failed or memory ran out
abbrev pub unavailable : List ℕ
unavailable = codes "unavailable" ++ 10 ∷ []

-- that is printed, unless a write failed
abbrev pub SaysUnavailable : {W : Type 0} → sink.Ghosts W → (old new : W) → Type 0
SaysUnavailable w old new = IsWrittenOrCutOff unavailable w old new

-- the answer is printed, and the command ended as it says
abbrev pub PrintsAnswer : {W : Type 0} → (answer : Bool × List ℕ) → sink.Ghosts W → (old new : W) → Status → Type 0
PrintsAnswer answer w old new status = (status ≡ status_of answer.0) × IsWritten answer.1 w old new

-- the line that a call gave is printed, and the command ended as it says
abbrev pub PrintsLine : {W : Type 0} → (given : Option (Bool × Vec ℕ Global)) → sink.Ghosts W → (old new : W) → Status → Type 0
PrintsLine None w old new status = ⊥
PrintsLine (Some given) w old new status = (status ≡ status_of given.0) × IsWritten given.1.items w old new

-- a write of that line failed; or there was none, and `unavailable` is printed
abbrev pub FailsToPrint : {W : Type 0} → (given : Option (Bool × Vec ℕ Global)) → sink.Ghosts W → (old new : W) → Type 0
FailsToPrint None w old new = SaysUnavailable w old new
FailsToPrint (Some given) w old new = IsCutOff given.1.items w old new
