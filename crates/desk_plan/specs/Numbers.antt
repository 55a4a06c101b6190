-- Rows of sequences, as a store keeps them: one for each that was used, with its youngest entry.
use Rattle.std.specs.Prelude.{◌≡◌, ◌≢◌, ℕ, Bool, ◌&&◌, nat_le, List, map, filter, max, AllPairs, Option}
use Rattle.std.specs.List.{reduce}
use Rattle.desk_plan.specs.Sequences.{SentSequence}
use Rattle.desk_plan.specs.Reuse.{youngest}

-- the rows name the same youngest entry of each sequence as the sent entries
pub record TellYoungest (rows sent : List SentSequence) : Type 0 where
  pub apart : AllPairs (λ a b. a.sequence ≢ b.sequence) rows
  pub same : (s : ℕ) → youngest rows s ≡ youngest sent s

abbrev pub is_in : ℕ × ℕ → ℕ → Bool
is_in r s = nat_le r.0 s && nat_le s r.1

-- the latest settlement among the rows of a range
abbrev pub latest_in : List SentSequence → ℕ × ℕ → Option ℕ
latest_in rows r = reduce max (map (λ row. row.settled) (filter (λ row. is_in r row.sequence) rows))
