-- The output of `init`.
use Rattle.std.specs.Prelude.{◌≡◌, ℕ, Bool, true, false, List, codes, Option, MatchOption, MatchResult, Err}
use Rattle.sqlite_disk.specs.declared.Disk.{Ghosts}
use Rattle.io_retries.specs.Written.{IsCutOff}
use Rattle.io_retries.specs.declared.sink.Sink as sink
use Rattle.sql_files.specs.Refusals.{fault_of}
use Rattle.cli_words.specs.InitOptions.{InitTexts}
use Rattle.cli_commands.specs.NewIdentities.{fault_line, identity_of}
use Rattle.cli_commands.specs.Printing.{with_line_feed, PrintsAnswer}
use Rattle.cli_commands.specs.declared.new_identity.OptionFault.{OptionFault}
use Rattle.cli_commands.specs.declared.status.Status.{Status}
use Rattle.desk_cli.specs.KeptRuns.{Given}
use Rattle.desk_cli.specs.OpenFaults.{FailsToSayFault, SaysFault}

abbrev pub created_answer : Bool × List ℕ
created_answer = with_line_feed (true, codes "created")

-- this is the first bad option
abbrev pub IsBad : InitTexts → OptionFault → Type 0
IsBad t fault = identity_of t ≡ Err fault

module _ {D W : Type 0} {g : Ghosts D} (t : InitTexts) (given : Option (Given g)) (w : sink.Ghosts W) (old new : W) where
  -- `created` was printed, of a connection that was given; or the fault of the refusal that was; or the first bad option,
  -- where no file was asked for.
  abbrev pub SaysWhetherCreated : Status → Type 0
  SaysWhetherCreated status =
      MatchOption given ((fault : OptionFault) × IsBad t fault × PrintsAnswer (false, fault_line fault) w old new status)
      (λ made. MatchResult made (λ _. PrintsAnswer created_answer w old new status) (λ why. SaysFault (fault_of why) w old new status))

  abbrev pub FailsToSayWhetherCreated : Type 0
  FailsToSayWhetherCreated =
      MatchOption given ((fault : OptionFault) × IsBad t fault × IsCutOff (fault_line fault) w old new)
      (λ made. MatchResult made (λ _. IsCutOff created_answer.1 w old new) (λ why. FailsToSayFault (fault_of why) w old new))
