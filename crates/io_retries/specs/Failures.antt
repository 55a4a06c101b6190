-- What is known of a reader or a writer after a call failed: that the call of the device itself failed.
use Rattle.std.specs.Prelude.{◌≡◌, ℕ, ◌⊎◌}
use Rattle.std.specs.IoError.{error_kind}
use Rattle.std.specs.declared.io.Error.{Error}
use Rattle.std.specs.declared.io.ErrorKind.TheVariants.{Interrupted}
use Rattle.io_retries.specs.declared.sink.Sink as sink
use Rattle.io_retries.specs.declared.source.Source as source
use Rattle.io_retries.specs.declared.tries.Tries.{Tries}

-- The last call of a device failed. If it was interrupted, no try was left to make it again.
abbrev pub FailedLast : (has_failed : Error → Type 0) → (left : ℕ) → Type 0
FailedLast has_failed left = (e : Error) × has_failed e × (error_kind e ≡ Interrupted → left ≡ 0)

abbrev pub ReadFailed : {R : Type 0} → source.Ghosts R → (reader : R) → (tries : Tries) → Type 0
ReadFailed r reader tries = FailedLast (r.has_failed reader) tries.left

-- A writer has also failed if it took none of some bytes.
abbrev pub WriteFailed : {W : Type 0} → sink.Ghosts W → (writer : W) → (tries : Tries) → Type 0
WriteFailed w writer tries = FailedLast (w.has_failed writer) tries.left ⊎ w.took_none writer

-- The same after a run whose tries are gone.
abbrev pub CannotRead : {R : Type 0} → source.Ghosts R → (reader : R) → Type 0
CannotRead r reader = (e : Error) × r.has_failed reader e

abbrev pub CannotWrite : {W : Type 0} → sink.Ghosts W → (writer : W) → Type 0
CannotWrite w writer = ((e : Error) × w.has_failed writer e) ⊎ w.took_none writer
