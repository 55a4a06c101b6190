-- The bytes of a client that are dropped before its connection is closed.
use Rattle.std.specs.Prelude.{◌≡◌, ℕ, ◌≤◌, ◌⊎◌, List, length, Option, Result, OnOk}
use Rattle.std.specs.Io.KnownBytes.{Consumes, IsAtEnd}

-- The reader gave its bytes to their end, or as many as are dropped at most; or a read failed before.
pub record DropsRest {A E : Type 0} (result : Result A E) (before after : Option (List ℕ)) : Type 0 where
  pub taken : List ℕ
  pub takes : Consumes before after taken
  pub few : length taken ≤ 16777216
  pub whole : OnOk result (IsAtEnd after ⊎ (length taken ≡ 16777216))
