-- The command that makes the message of a list of entries.
use Rattle.std.specs.Prelude.{ℕ, Bool, true, false, List, Option, Result, Ok, Err}
use Rattle.io_retries.specs.declared.sink.Sink as sink
use Rattle.cli_submit.specs.FaultLines.{fault_line}
use Rattle.cli_submit.specs.Messages.{message_of}
use Rattle.cli_submit.specs.Options.{OptionTexts, texts_of}
use Rattle.cli_submit.specs.declared.fault.InputFault.{InputFault}
use Rattle.cli_submit.specs.declared.options.SubmitOptions.{SubmitOptions}
use Rattle.cli_commands.specs.InputRuns.{Answering, HasAnswered, IsFailedRun}
use Rattle.cli_commands.specs.Printing.{with_line_feed}
use Rattle.cli_commands.specs.declared.status.Status.{Status}

-- the message with nothing after it, or the line of the fault
abbrev pub outcome_text : (message : Result (List ℕ) InputFault) → Bool × List ℕ
outcome_text (Ok message) = (true, message)
outcome_text (Err fault) = with_line_feed (false, fault_line fault)

-- what is printed of a list
abbrev pub list_answer : OptionTexts → (list : List ℕ) → Bool × List ℕ
list_answer options list = outcome_text (message_of options list)

-- and by the options that the program has
abbrev pub submit_answer : SubmitOptions → Answering
submit_answer options = list_answer (texts_of options)

-- the message of the list that the input had was printed, or the line of its fault
abbrev pub HasSubmitted : {W : Type 0} → SubmitOptions → (input : Option (List ℕ)) → sink.Ghosts W → (old new : W) → Status → Type 0
HasSubmitted options input w old new status = HasAnswered (submit_answer options) input w old new status

-- `unavailable` was printed, or a write of that or of the answer failed
abbrev pub IsFailedSubmit : {W : Type 0} → SubmitOptions → (input : Option (List ℕ)) → sink.Ghosts W → (old new : W) → Type 0
IsFailedSubmit options input w old new = IsFailedRun (submit_answer options) input w old new
