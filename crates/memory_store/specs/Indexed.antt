-- What the indexes of traces and of settlements find.
use Rattle.std.specs.Prelude.{◌≡◌, ◌≤◌, ℕ, ◌%◌, ◌==◌, Bool, List, map, find, reverse, take, length, Option}
use Rattle.std.specs.BTreeMap.{get}
use Rattle.std.specs.Ordering.{nat_cmp}
use Rattle.desk_history.specs.declared.sent_entry.SentEntry.{SentEntry}
use Rattle.desk_history.specs.Sendings.{sent_sequence}
use Rattle.desk_plan.specs.Reuse.{latest_settled, youngest_settlement}
use Rattle.memory_store.specs.declared.settlement_index.SettlementIndex.{SettlementIndex}
use Rattle.memory_store.specs.declared.trace_index.TraceIndex.{TraceIndex}

-- whether an entry's sequence ends in these seven digits
abbrev pub ends_in : ℕ → SentEntry → Bool
ends_in digits e = e.sequence % 10_000_000 == digits

-- the youngest entry with such a sequence; the oldest entry comes first
abbrev pub youngest_ending : List SentEntry → ℕ → Option SentEntry
youngest_ending sent digits = find (ends_in digits) (reverse sent)

-- it finds the youngest among the first of the sent entries, as many as it covers
pub record IsIndexed (sent : List SentEntry) (index : TraceIndex) : Type 0 where
  pub within : index.indexed ≤ length sent
  pub youngest : (digits : ℕ) → get nat_cmp index.youngest digits ≡ youngest_ending (take index.indexed sent) digits

-- the settlement day of the youngest entry with a sequence; the oldest entry comes first
abbrev pub settlement_of : List SentEntry → ℕ → Option ℕ
settlement_of sent sequence = youngest_settlement (map sent_sequence (reverse sent)) sequence

-- it finds that of each sequence among the first of the sent entries, as many as it covers
pub record AreSettled (sent : List SentEntry) (index : SettlementIndex) : Type 0 where
  pub within : index.indexed ≤ length sent
  pub settled : (sequence : ℕ) → get nat_cmp index.settled sequence ≡ settlement_of (take index.indexed sent) sequence

-- the latest of those from a first sequence to a last one
abbrev pub latest_settlement : List SentEntry → ℕ × ℕ → Option ℕ
latest_settlement sent r = latest_settled (map sent_sequence (reverse sent)) r

-- ---- where an index covers all sent entries

-- a fact about the entries that the index of traces covers
abbrev pub OfIndexed : TraceIndex → (List SentEntry → Type 0) → Type 0
OfIndexed index Holds = (sent : List SentEntry) → IsIndexed sent index → index.indexed ≡ length sent → Holds sent

-- where that of settlements does
abbrev pub OfSettled : SettlementIndex → (List SentEntry → Type 0) → Type 0
OfSettled index Holds = (sent : List SentEntry) → AreSettled sent index → index.indexed ≡ length sent → Holds sent
