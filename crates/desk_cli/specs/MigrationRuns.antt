-- The output of `migrate`.
use Rattle.std.specs.Prelude.{ℕ, Bool, true, List, codes, MatchResult}
use Rattle.sqlite_disk.specs.declared.Disk.{Ghosts}
use Rattle.io_retries.specs.Written.{IsCutOff}
use Rattle.io_retries.specs.declared.sink.Sink as sink
use Rattle.sql_files.specs.Refusals.{fault_of}
use Rattle.cli_commands.specs.Printing.{with_line_feed, PrintsAnswer}
use Rattle.cli_commands.specs.declared.status.Status.{Status}
use Rattle.desk_cli.specs.KeptRuns.{Given}
use Rattle.desk_cli.specs.OpenFaults.{FailsToSayFault, SaysFault}

abbrev pub migrated_answer : Bool × List ℕ
migrated_answer = with_line_feed (true, codes "migrated 1 to 2")

module _ {D W : Type 0} {g : Ghosts D} (given : Given g) (w : sink.Ghosts W) (old new : W) where
  -- `migrated 1 to 2` was printed, of a connection that was given; or the fault of the refusal that was
  abbrev pub SaysWhetherMigrated : Status → Type 0
  SaysWhetherMigrated status =
      MatchResult given (λ _. PrintsAnswer migrated_answer w old new status) (λ why. SaysFault (fault_of why) w old new status)

  abbrev pub FailsToSayWhetherMigrated : Type 0
  FailsToSayWhetherMigrated = MatchResult given (λ _. IsCutOff migrated_answer.1 w old new) (λ why. FailsToSayFault (fault_of why) w old new)
