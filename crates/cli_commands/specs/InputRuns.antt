-- A command that reads its input, and prints an answer that is a function of it.
use Rattle.std.specs.Prelude.{◌⊎◌, ℕ, Bool, List, Option, Vec}
use Rattle.std.specs.declared.alloc.Global.{Global}
use Rattle.cli_commands.specs.BodyAnswers.{IsAnswer}
use Rattle.cli_commands.specs.Inputs.{MayHave}
use Rattle.cli_commands.specs.Printing.{PrintsAnswer, SaysUnavailable}
use Rattle.io_retries.specs.Written.{IsCutOff}
use Rattle.io_retries.specs.declared.sink.Sink as sink
use Rattle.cli_commands.specs.declared.status.Status.{Status}

-- whether an input is accepted, and what is printed of it
abbrev pub Answering : Type 0
Answering = List ℕ → Bool × List ℕ

-- what a call gave is the answer to what the input has
abbrev pub IsInputAnswer : Answering → (input : Option (List ℕ)) → (given : Bool × Vec ℕ Global) → Type 0
IsInputAnswer answer input given = (bytes : List ℕ) × MayHave input bytes × IsAnswer (answer bytes) given

-- the command answered all that its input had
abbrev pub HasAnswered : {W : Type 0} → Answering → (input : Option (List ℕ)) → sink.Ghosts W → (old new : W) → Status → Type 0
HasAnswered answer input w old new status =
    (bytes : List ℕ) × MayHave input bytes × PrintsAnswer (answer bytes) w old new status

-- a command that failed printed `unavailable`, or a write of that or of its answer failed
abbrev pub IsFailedRun : {W : Type 0} → Answering → (input : Option (List ℕ)) → sink.Ghosts W → (old new : W) → Type 0
IsFailedRun answer input w old new =
    SaysUnavailable w old new
    ⊎ ((bytes : List ℕ) × MayHave input bytes × IsCutOff (answer bytes).1 w old new)
