-- Reading, in terms of the program's reader. `g` has the facts of the bytes that a reader has left.
use Rattle.std.specs.Prelude.{◌≡◌, ℕ, Bool, List, [], Result}
use Rattle.std.specs.Io.KnownBytes.{Consumes}
use Rattle.io_retries.specs.declared.source.Source.{Ghosts}
use Rattle.httparse.specs.declared.spans.HeaderSpan.{HeaderSpan}
use Rattle.http_message.specs.Input.{Grows, ReadsOn, ReadsHead, Arrives}
use Rattle.http_message.specs.declared.head.Start.{Start}
use Rattle.http_message.specs.declared.reading.Arrival.{Arrival}

module _ {R : Type 0} (g : Ghosts R) (before after : R) where
  -- the bytes grew by this number that the reader gave
  abbrev pub GrowsFrom : (count : ℕ) → (old new : List ℕ) → Type 0
  GrowsFrom count old new = Grows count (g.remaining before) (g.remaining after) old new

  -- the reader gave none, and the bytes are as they were
  abbrev pub NoneCame : (old new : List ℕ) → Type 0
  NoneCame old new = (new ≡ old) × Consumes (g.remaining before) (g.remaining after) []

  -- the bytes grew by what the reader gave, until there may be a head
  abbrev pub ReadsOnFrom : {E : Type 0} → Result Bool E → (old new : List ℕ) → Type 0
  ReadsOnFrom result old new = ReadsOn result (g.remaining before) (g.remaining after) old new

  -- the bytes grew by what the reader gave, until the start was known
  abbrev pub ReadsHeadFrom : {E : Type 0} → Result Start E → List HeaderSpan → (old new : List ℕ) → Type 0
  ReadsHeadFrom result fields old new = ReadsHead result fields (g.remaining before) (g.remaining after) old new

  -- the reader gave some bytes, and this came
  abbrev pub ArrivesFrom : Arrival → List HeaderSpan → (old new : List ℕ) → Type 0
  ArrivesFrom arrival fields old new = Arrives arrival fields (g.remaining before) (g.remaining after) old new
