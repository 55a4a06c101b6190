-- The output of a command for a file that is not opened as a desk.
use Rattle.std.proofs.Common.{ℕ, Bool, Option, Some, None, IfSome, inl, inr, ap, ◌∙◌, subst, Vec, Global}
use Rattle.io_retries.specs.Written.{IsCutOff, IsWritten}
use Rattle.io_retries.specs.declared.sink.Sink as sink
use Rattle.sql_setup.specs.declared.fault.OpenFault.{OpenFault}
use Rattle.desk_cli.specs.OpenFaults.{IsFaultAnswer, FailsToSayFault, SaysFault}
use Rattle.cli_commands.specs.Printing.{FailsToPrint, PrintsLine, status_of}
use Rattle.cli_commands.specs.declared.status.Status.{Status}

module _ {W : Type 0} (fault : OpenFault) (w : sink.Ghosts W) (old new : W) where
  pub says_fault : (given : Option (Bool × Vec ℕ Global)) (status : Status) → IfSome given (IsFaultAnswer fault) → PrintsLine given w old new status
      → SaysFault fault w old new status
  says_fault None status is printed = absurd printed
  says_fault (Some g) status is printed =
      (is.0, is.1, (printed.0 ∙ ap status_of is.2.0, subst (λ t. IsWritten t w old new) is.2.1 printed.1))

  pub fails_to_say : (given : Option (Bool × Vec ℕ Global)) → IfSome given (IsFaultAnswer fault) → FailsToPrint given w old new
      → FailsToSayFault fault w old new
  fails_to_say None is failed = inl failed
  fails_to_say (Some g) is failed = inr (is.0, is.1, subst (λ t. IsCutOff t w old new) is.2.1 failed)
