-- Exit statuses.
use Rattle.std.specs.Prelude.{ℕ}
use Rattle.cli_commands.specs.declared.status.Status.{Status}
use Rattle.cli_commands.specs.declared.status.Status.TheVariants.{Done, Refused, Failed}

-- the exit status of the process
abbrev pub code_of : Status → ℕ
code_of Done = 0
code_of Refused = 1
code_of Failed = 3
