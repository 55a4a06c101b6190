-- What is known of a reader or a writer once the tries of its run are gone.
use Rattle.std.proofs.Common.{ℕ, List, Result, Ok, Err, OnOk, OnErr, inl, inr}
use Rattle.io_retries.specs.Failures.{CannotRead, CannotWrite, ReadFailed, WriteFailed}
use Rattle.io_retries.specs.Prefixes.{WriteAllAppends}
use Rattle.io_retries.specs.Written.{WritesAll}
use Rattle.io_retries.specs.declared.sink.Sink as sink
use Rattle.io_retries.specs.declared.source.Source as source
use Rattle.io_retries.specs.declared.tries.Tries.{Tries}

pub cannot_read : {R : Type 0} (r : source.Ghosts R) (reader : R) (tries : Tries) → ReadFailed r reader tries → CannotRead r reader
cannot_read r reader tries failed = (failed.0, failed.1)

pub cannot_write : {W : Type 0} (w : sink.Ghosts W) (writer : W) (tries : Tries) → WriteFailed w writer tries → CannotWrite w writer
cannot_write w writer tries (inl failed) = inl (failed.0, failed.1)
cannot_write w writer tries (inr none) = inr none

-- what `write_all_with_retries` says of its writer, without its tries
pub writes_all : {W A E : Type 0} (w : sink.Ghosts W) (old new : W) (text : List ℕ) (tries : Tries) (result : Result A E)
    → WriteAllAppends (w.contents old) (w.contents new) result text → OnOk result (w.is_flushed new) → OnErr result (WriteFailed w new tries)
    → WritesAll text w old new result
writes_all w old new text tries (Ok a) bytes flushed fault = (bytes, flushed)
writes_all w old new text tries (Err e) bytes flushed fault = (bytes, cannot_write w new tries fault)
