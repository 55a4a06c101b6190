-- The output of a command whose answer is a function of its input.
use Rattle.std.proofs.Common.{inl, inr, ℕ, Bool, List, Option, Some, None, IfSome, Result, Ok, Err, ap, ◌∙◌, subst, Vec, Global}
use Rattle.io_retries.specs.Written.{IsCutOff, IsWritten, IsWrittenOrCutOff, WritesAll}
use Rattle.io_retries.specs.declared.sink.Sink as sink
use Rattle.cli_commands.specs.InputRuns.{Answering, HasAnswered, IsFailedRun, IsInputAnswer}
use Rattle.cli_commands.specs.Printing.{FailsToPrint, PrintsLine, status_of}
use Rattle.cli_commands.specs.declared.status.Status.{Status}

-- what a call gives, if it gives something
abbrev pub Answer : Type 0
Answer = Option (Bool × Vec ℕ Global)

pub written_or_cut_off : {W A E : Type 0} (text : List ℕ) (w : sink.Ghosts W) (old new : W) (wrote : Result A E) → WritesAll text w old new wrote
    → IsWrittenOrCutOff text w old new
written_or_cut_off text w old new (Ok a) written = inl written
written_or_cut_off text w old new (Err e) cut = inr cut

module _ {W : Type 0} (answer : Answering) (input : Option (List ℕ)) (w : sink.Ghosts W) (old new : W) where
  pub has_answered : (given : Answer) (status : Status) → IfSome given (IsInputAnswer answer input) → PrintsLine given w old new status
      → HasAnswered answer input w old new status
  has_answered None status is printed = elim printed [ ]
  has_answered (Some g) status is printed =
      (is.0, is.1, (printed.0 ∙ ap status_of is.2.0, subst (λ t. IsWritten t w old new) is.2.1 printed.1))

  pub is_failed_run : (given : Answer) → IfSome given (IsInputAnswer answer input) → FailsToPrint given w old new → IsFailedRun answer input w old new
  is_failed_run None is failed = inl failed
  is_failed_run (Some g) is cut = inr (is.0, is.1, subst (λ t. IsCutOff t w old new) is.2.1 cut)
