-- Laws of the division into files, of sequences and of modifiers.
use Rattle.std.specs.Prelude.{◌≡◌, ℕ, ◌+◌, ◌<◌, ◌≤◌, Bool, true, ◌&&◌, if◌then◌else◌, List, ◌++◌, length, map, filter, flat_map, zip, reverse, sum, sum_by, All, Some}
use Rattle.std.specs.List.{list_all}
use Rattle.ach_fields.specs.Characters.{is_id_character}
use Rattle.desk_plan.specs.declared.batch.Batch.{Batch}
use Rattle.desk_plan.specs.Cut.{files_of, may_cut}
use Rattle.desk_plan.specs.Batch.{IsBatch, IsEntryCount}
use Rattle.desk_plan.specs.Files.{Divides, division}
use Rattle.desk_plan.specs.Numbers.{TellYoungest, is_in, latest_in}
use Rattle.desk_plan.specs.Modifiers.{modifier_of, modifier_at, most_files}
use Rattle.desk_plan.specs.Reuse.{is_past, youngest, may_send, latest_settled}
use Rattle.desk_plan.specs.Runs.{flat, in_runs}
use Rattle.desk_plan.specs.Sequences.{SentSequence, IsNumbered, IsRange, last_sequence, range_after, ranges, ranges_of, are_apart, entries_from, after_batch, after_cut}
use Rattle.ach_fields.specs.Trace.{most_sequence}

-- the batches of submissions have one division into files, and no other; its sizes give it back
pub record OneDivision : Type 0 where
  pub found : (batches : List Batch) → All IsBatch batches → Divides (division batches) batches
  pub only : (batches : List Batch) (runs : List (List Batch)) → Divides runs batches → runs ≡ division batches
  pub whole : (batches : List Batch) → flat (division batches) ≡ batches
  pub count : (batches : List Batch) → sum (map length (division batches)) ≡ length batches
  pub by_sizes : (batches : List Batch) → in_runs (map length (division batches)) batches ≡ division batches

-- some of the batches make no more files than all, in one cut and in several
pub record FewerFiles : Type 0 where
  pub cut : (test : Batch → Bool) (batches : List Batch) → All IsBatch batches → length (division (filter test batches)) ≤ length (division batches)
  pub cuts : (test : Batch → Bool) (cuts : List (List Batch)) → All (All IsBatch) cuts → files_of (map (filter test) cuts) ≤ files_of cuts

-- what a cut adds to the sent entries: those of its batches, by their ranges
pub record SentByCut : Type 0 where
  pub entries : (sent : List SentSequence) (batches : List Batch) → All IsBatch batches
      → after_cut sent batches ≡ reverse (flat_map (λ x. entries_from x.0.0 x.1) (zip (ranges_of sent batches) batches)) ++ sent
  pub count : (sent : List SentSequence) (batches : List Batch) → length (after_cut sent batches) ≡ length sent + sum_by (λ b. b.entries) batches
  pub last : (sent : List SentSequence) (b : Batch) → IsBatch b → last_sequence (after_batch sent b) ≡ (range_after (last_sequence sent) b.entries).1
  pub within : (last : ℕ) (counts : List ℕ) → All IsEntryCount counts → All IsRange (ranges last counts)

-- That all sequences of a cut may be used is seen by its ranges: no two have one in common, and of
-- each the latest settlement is long enough ago. Each batch settles after the day.
abbrev pub ByRanges : Type 0
ByRanges = (day : ℕ) (sent : List SentSequence) (batches : List Batch) → All IsBatch batches → All (λ b. day < b.settled) batches
    → may_send day sent batches ≡ (are_apart (ranges_of sent batches) && list_all (λ r. is_past day (latest_settled sent r)) (ranges_of sent batches))

-- a desk that has sent no more entries than there are sequences uses each once, and each names its entry
pub record NeverTwice : Type 0 where
  pub may : (day : ℕ) (sent : List SentSequence) (batches : List Batch) → IsNumbered sent → length sent + sum_by (λ b. b.entries) batches ≤ most_sequence → may_send day sent batches ≡ true
  pub numbered : (sent : List SentSequence) (batches : List Batch) → IsNumbered sent → length sent + sum_by (λ b. b.entries) batches ≤ most_sequence → IsNumbered (after_cut sent batches)
  pub named : (sent : List SentSequence) → IsNumbered sent → All (λ e. youngest sent e.sequence ≡ Some e) sent

-- the latest settlement of a range is found among the rows that name the youngest entry of each sequence
abbrev pub LatestInRows : Type 0
LatestInRows = (rows sent : List SentSequence) (r : ℕ × ℕ) → TellYoungest rows sent → latest_settled sent r ≡ latest_in rows r

-- a batch's entries are the youngest that have its sequences, and all others stay
abbrev pub YoungestAfter : Type 0
YoungestAfter = (sent : List SentSequence) (b : Batch) (s : ℕ)
    → youngest (after_batch sent b) s ≡ (if is_in (range_after (last_sequence sent) b.entries) s then Some (record { sequence = s; settled = b.settled }) else youngest sent s)

-- a day's files have different modifiers, each a capital letter or a digit
pub record DayModifiers : Type 0 where
  pub some : (n : ℕ) → n < most_files → modifier_of n ≡ Some (modifier_at n)
  pub apart : (m n c : ℕ) → modifier_of m ≡ Some c → modifier_of n ≡ Some c → m ≡ n
  pub character : (n c : ℕ) → modifier_of n ≡ Some c → is_id_character c ≡ true

-- If a cut of the whole desk is not refused, neither is the cut of some of its batches on a desk that has sent only
-- those, and no more entries than there are sequences. `cuts` are the day's earlier cuts.
abbrev pub AcceptedAlone : Type 0
AcceptedAlone = (test : Batch → Bool) (day : ℕ) (cuts : List (List Batch)) (batches : List Batch) (sent alone : List SentSequence)
    → All (All IsBatch) cuts → All IsBatch batches → IsNumbered alone
    → length alone + sum_by (λ b. b.entries) (filter test batches) ≤ most_sequence
    → may_cut day (files_of cuts) sent batches ≡ true
    → may_cut day (files_of (map (filter test) cuts)) alone (filter test batches) ≡ true
