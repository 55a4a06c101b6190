-- What a writer took of a text, told of the writer as the program has it.
use Rattle.std.specs.Prelude.{ℕ, ◌⊎◌, List, Result, MatchResult}
use Rattle.std.specs.Io.KnownBytes.{Appends}
use Rattle.io_retries.specs.Failures.{CannotWrite}
use Rattle.io_retries.specs.Prefixes.{AppendsPrefix}
use Rattle.io_retries.specs.declared.sink.Sink as sink

module _ {W : Type 0} (text : List ℕ) (w : sink.Ghosts W) (old new : W) where
  -- it took the whole text and was flushed
  abbrev pub IsWritten : Type 0
  IsWritten = Appends (w.contents old) (w.contents new) text × w.is_flushed new

  -- a write or the flush failed, and it took a prefix of the text
  abbrev pub IsCutOff : Type 0
  IsCutOff = AppendsPrefix (w.contents old) (w.contents new) text × CannotWrite w new

  -- it took the text, unless a write failed
  abbrev pub IsWrittenOrCutOff : Type 0
  IsWrittenOrCutOff = IsWritten ⊎ IsCutOff

  -- which of the two, as a call's result says
  abbrev pub WritesAll : {A E : Type 0} → Result A E → Type 0
  WritesAll result = MatchResult result (λ _. IsWritten) (λ _. IsCutOff)
