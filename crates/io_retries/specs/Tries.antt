-- The tries that a run has.
use Rattle.std.specs.Prelude.{◌≡◌, ℕ, ◌<◌}
use Rattle.std.specs.IoError.{error_kind}
use Rattle.std.specs.declared.io.Error.{Error}
use Rattle.std.specs.declared.io.ErrorKind.TheVariants.{Interrupted}
use Rattle.io_retries.specs.declared.tries.Tries.{Tries}

-- no try was taken
abbrev pub IsUnused : Tries → Type 0
IsUnused tries = tries.left ≡ 1000

-- a call that failed with this error is made again: it was interrupted, and a try is left
abbrev pub IsMadeAgain : Error → (left : ℕ) → Type 0
IsMadeAgain error left = (error_kind error ≡ Interrupted) × (0 < left)
