-- Sequences of the entries that are sent.
use Rattle.std.specs.Prelude.{◌≡◌, ℕ, ◌+◌, ◌-◌, ◌≤◌, Bool, true, false, not, ◌&&◌, nat_le, if◌then◌else◌, List, [], ◌∷◌, ◌++◌, length, map, reverse, fold, scan}
use Rattle.std.specs.List.{range_with_len, list_any}
use Rattle.desk_plan.specs.declared.batch.Batch.{Batch}
use Rattle.ach_fields.specs.Trace.{most_sequence}

-- an entry that was sent: its sequence, and the day on which it settled
pub record SentSequence : Type 0 where
  pub sequence : ℕ
  pub settled : ℕ

-- the last sent entry's sequence, 0 if there is none; sent entries are listed with the newest first
abbrev pub last_sequence : List SentSequence → ℕ
last_sequence [] = 0
last_sequence (e ∷ sent) = e.sequence

-- A batch goes on after the last sequence, and begins at 1 where it would pass the largest.
abbrev pub first_after : (last : ℕ) → (entries : ℕ) → ℕ
first_after last entries = if nat_le (last + entries) most_sequence then last + 1 else 1

-- the first and the last sequence of a batch
abbrev pub range_after : (last : ℕ) → (entries : ℕ) → ℕ × ℕ
range_after last entries = (first_after last entries, first_after last entries + entries - 1)

-- those of batches with these numbers of entries, each after the one before it
abbrev pub ranges : (last : ℕ) → (counts : List ℕ) → List (ℕ × ℕ)
ranges last counts = scan (λ l n. (range_after l n).1) range_after last counts

-- from a first sequence to a last one
pub record IsRange (r : ℕ × ℕ) : Type 0 where
  pub some : 1 ≤ r.0
  pub up : r.0 ≤ r.1
  pub within : r.1 ≤ most_sequence

-- whether two ranges have a sequence in common
abbrev pub meets : (p : ℕ × ℕ) → (q : ℕ × ℕ) → Bool
meets p q = nat_le p.0 q.1 && nat_le q.0 p.1

-- whether no two of them have
abbrev pub are_apart : List (ℕ × ℕ) → Bool
are_apart [] = true
are_apart (r ∷ more) = not (list_any (meets r) more) && are_apart more

-- batches with these numbers of entries would take a sequence twice
abbrev pub TakeTwice : (last : ℕ) → (counts : List ℕ) → Type 0
TakeTwice last counts = are_apart (ranges last counts) ≡ false

-- the ranges that batches take after the sent entries
abbrev pub ranges_of : List SentSequence → List Batch → List (ℕ × ℕ)
ranges_of sent batches = ranges (last_sequence sent) (map (λ b. b.entries) batches)

-- the sequences that a batch takes from a first one on, and its entries with them
abbrev pub sequences_from : ℕ → Batch → List ℕ
sequences_from first b = range_with_len first b.entries

abbrev pub entries_from : ℕ → Batch → List SentSequence
entries_from first b = map (λ s. record { sequence = s; settled = b.settled }) (sequences_from first b)

-- the first sequence that it takes after the sent entries
abbrev pub first_of : List SentSequence → Batch → ℕ
first_of sent b = first_after (last_sequence sent) b.entries

-- what was sent once a batch is
abbrev pub after_batch : List SentSequence → Batch → List SentSequence
after_batch sent b = reverse (entries_from (first_of sent b) b) ++ sent

-- what was sent once the batches of a cut are
abbrev pub after_cut : List SentSequence → List Batch → List SentSequence
after_cut sent batches = fold after_batch sent batches

-- the n-th entry has sequence n
pub record IsNumbered (sent : List SentSequence) : Type 0 where
  pub in_order : map (λ e. e.sequence) (reverse sent) ≡ range_with_len 1 (length sent)
