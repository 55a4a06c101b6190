-- A command that answered, and one that failed, by its writer before and after.
use Rattle.std.specs.Prelude.{◌≡◌, ◌≢◌}
use Rattle.io_retries.specs.declared.sink.Sink as sink
use Rattle.cli_commands.specs.declared.status.Status.{Status}
use Rattle.cli_commands.specs.declared.status.Status.TheVariants.{Failed}

-- a command that did not fail printed this, and ended as it says
abbrev pub IfAnswered : {W : Type 0} → Status → sink.Ghosts W → (old new : W)
    → (Says : sink.Ghosts W → (old new : W) → Status → Type 0) → Type 0
IfAnswered status w old new Says = status ≢ Failed → Says w old new status

-- a command that failed printed no more than this
abbrev pub IfFailed : {W : Type 0} → Status → sink.Ghosts W → (old new : W)
    → (FailsToSay : sink.Ghosts W → (old new : W) → Type 0) → Type 0
IfFailed status w old new FailsToSay = status ≡ Failed → FailsToSay w old new
