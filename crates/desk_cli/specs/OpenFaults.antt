-- The output if a file is not opened as a desk.
use Rattle.std.specs.Prelude.{◌≡◌, ◌⊎◌, ℕ, Bool, false, List, ◌++◌, codes, Option, Some, None, Vec}
use Rattle.std.specs.declared.alloc.Global.{Global}
use Rattle.std.specs.Fmt.{signed_decimal}
use Rattle.io_retries.specs.Written.{IsCutOff}
use Rattle.io_retries.specs.declared.sink.Sink as sink
use Rattle.sql_setup.specs.declared.fault.OpenFault.{OpenFault}
use Rattle.sql_setup.specs.declared.fault.OpenFault.TheVariants.{NotADesk, WrongVersion, Unavailable, Exists}
use Rattle.cli_commands.specs.BodyAnswers.{IsAnswer}
use Rattle.cli_commands.specs.Printing.{with_line_feed, PrintsAnswer, SaysUnavailable}
use Rattle.cli_commands.specs.declared.status.Status.{Status}

-- the line of a fault, without its end; `Unavailable` has none of its own
abbrev pub fault_text : OpenFault → Option (List ℕ)
fault_text NotADesk = Some (codes "NotADesk")
fault_text (WrongVersion n) = Some (codes "WrongVersion " ++ signed_decimal n)
fault_text Exists = Some (codes "Exists")
fault_text Unavailable = None

-- what a call gave is its line, which refuses
abbrev pub IsFaultAnswer : OpenFault → (given : Bool × Vec ℕ Global) → Type 0
IsFaultAnswer fault given = (text : List ℕ) × (fault_text fault ≡ Some text) × IsAnswer (with_line_feed (false, text)) given

module _ {W : Type 0} (fault : OpenFault) (w : sink.Ghosts W) (old new : W) where
  -- the line was printed, and the command is refused
  abbrev pub SaysFault : Status → Type 0
  SaysFault status = (text : List ℕ) × (fault_text fault ≡ Some text) × PrintsAnswer (with_line_feed (false, text)) w old new status

  -- `unavailable` was printed, for want of the line or of memory for it; or a write of the line failed
  abbrev pub FailsToSayFault : Type 0
  FailsToSayFault =
      SaysUnavailable w old new
      ⊎ ((text : List ℕ) × (fault_text fault ≡ Some text) × IsCutOff (with_line_feed (false, text)).1 w old new)
