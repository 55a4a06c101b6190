-- The state of the reader, and how a record changes it.
use Rattle.std.specs.Prelude.{◌≡◌, ◌≤◌, ℕ, ◌+◌, ◌*◌, ◌^◌, Bool, List, [], ◌++◌, length, take, Option, Some, None, if◌then◌else◌}
use Rattle.ach_records.specs.Record.{batch_sec, header_key}
use Rattle.ach_records.specs.declared.Kind.{Kind}
use Rattle.ach_records.specs.declared.Kind.TheVariants as kinds
use Rattle.sha2.specs.Hashers.{Holds256}
use Rattle.sha2.specs.declared.Sha256.{Sha256}
use Rattle.ach_files.specs.declared.facts.ItemFacts.{ItemFacts}
use Rattle.ach_files.specs.declared.sums.Sums.{Sums}
use Rattle.ach_files.specs.declared.stage.OpenBatch.{OpenBatch}
use Rattle.ach_files.specs.declared.stage.PendingEntry.{PendingEntry}
use Rattle.ach_files.specs.declared.stage.Stage.{Stage}
use Rattle.ach_files.specs.declared.stage.Stage.TheVariants as stages
use Rattle.ach_files.specs.declared.place.Position.{Position}
use Rattle.ach_files.specs.declared.place.Position.TheVariants as positions
use Rattle.ach_files.specs.declared.place.Step.{Step}
use Rattle.ach_files.specs.declared.place.Step.TheVariants as steps
use Rattle.ach_files.specs.Totals.{low_digits}
use Rattle.ach_files.specs.Facts.{facts_from}
use Rattle.ach_files.specs.RecordFault.{pending_entry_of}
use Rattle.ach_files.specs.FirstFault.{record_of}
use Rattle.ach_files.specs.Layout.{Place, InRecord, AfterRecord, AfterReturn, AfterLine, InTail, Move, Put, Go, Stray}

abbrev pub no_sums : Sums
no_sums = record { count = 0; hash = 0; debits = 0; credits = 0 }

abbrev pub item_sums : PendingEntry → Sums
item_sums w = record { count = 2; hash = w.dfi; debits = if w.is_debit then w.cents else 0; credits = if w.is_debit then 0 else w.cents }

abbrev pub joint_sums : Sums → Sums → Sums
joint_sums a b = record { count = a.count + b.count; hash = a.hash + b.hash; debits = a.debits + b.debits; credits = a.credits + b.credits }

abbrev pub with_low_hash : Sums → Sums
with_low_hash a = record { count = a.count; hash = low_digits a.hash; debits = a.debits; credits = a.credits }

-- the stage after one record more
abbrev pub stage_after : Stage → Kind → List ℕ → Stage
stage_after stages.BeforeHeader kinds.FileHeader text = stages.BetweenBatches (record { key = header_key text; batches = 0; sums = no_sums })
stage_after (stages.BetweenBatches d) kinds.BatchHeader text = stages.InBatch d (record { sec = batch_sec text; sums = no_sums })
stage_after (stages.BetweenBatches d) kinds.FileControl text = stages.Closed d.key
stage_after (stages.InBatch d o) kinds.Entry text = stages.AwaitingAddenda d o (pending_entry_of text)
stage_after (stages.InBatch d o) kinds.BatchControl text = stages.BetweenBatches (record { key = d.key; batches = d.batches + 1; sums = joint_sums d.sums (with_low_hash o.sums) })
stage_after (stages.AwaitingAddenda d o w) kinds.Return99 text = stages.InBatch d (record { sec = o.sec; sums = joint_sums o.sums (item_sums w) })
stage_after (stages.AwaitingAddenda d o w) kinds.Change98 text = stages.InBatch d (record { sec = o.sec; sums = joint_sums o.sums (item_sums w) })
stage_after s _ _ = s

-- what an entry of a batch says, with its addenda
abbrev pub pending_facts : OpenBatch → PendingEntry → Kind → List ℕ → ItemFacts
pending_facts o w kind text = facts_from o.sec w.transaction_code w.cents kind text

-- what the record completes
abbrev pub completed_item : Stage → Kind → List ℕ → Option ItemFacts
completed_item (stages.AwaitingAddenda d o w) kinds.Return99 text = Some (pending_facts o w kinds.Return99 text)
completed_item (stages.AwaitingAddenda d o w) kinds.Change98 text = Some (pending_facts o w kinds.Change98 text)
completed_item _ _ _ = None

-- all that a stage has summed up: less than twelve digits for each record
abbrev pub total : Sums → ℕ
total s = s.count + s.hash + s.debits + s.credits

abbrev pub weight : Stage → ℕ
weight stages.BeforeHeader = 0
weight (stages.BetweenBatches d) = d.batches + total d.sums
weight (stages.InBatch d o) = d.batches + total d.sums + total o.sums
weight (stages.AwaitingAddenda d o w) = d.batches + total d.sums + total o.sums + 2 + w.dfi + w.cents
weight (stages.Closed _) = 0

abbrev pub most_weight : ℕ → ℕ
most_weight n = n * 10 ^ 11

-- ---- places

abbrev pub place_of : List ℕ → Position → Place
place_of part (positions.InRecord n) = InRecord (take n part)
place_of part positions.AfterRecord = AfterRecord
place_of part positions.AfterReturn = AfterReturn
place_of part positions.AfterLine = AfterLine
place_of part positions.InTail = InTail

abbrev pub move_of : List ℕ → Step → Move
move_of part (steps.Put n) = Put (take n part)
move_of part (steps.Go position) = Go (place_of part position)
move_of part steps.Stray = Stray

-- the number of the record that has the byte of this step, after this many records
abbrev pub IsRecordNumber : Step → (records number : ℕ) → Type 0
IsRecordNumber step records number =
    (before : List (List ℕ)) (part : List ℕ) → records ≡ length before →
    number ≡ record_of before (move_of part step)

-- the bytes of a record in part
abbrev pub part_length : Position → ℕ
part_length (positions.InRecord n) = n
part_length _ = 0

-- the answer is that at the place, whatever bytes are in part
abbrev pub AnswersAt : Position → (Place → Bool) → Bool → Type 0
AnswersAt position asks answer =
    (part : List ℕ) → part_length position ≤ length part → answer ≡ asks (place_of part position)

abbrev pub step_part_length : Step → ℕ
step_part_length (steps.Put n) = n
step_part_length (steps.Go position) = part_length position
step_part_length steps.Stray = 0

-- what the record adds to the message of the digest
abbrev pub digest_text : Kind → List ℕ → List ℕ
digest_text kinds.Filler text = []
digest_text _ text = text

-- these bytes are added to the message that a hasher holds
abbrev pub HoldsMore : (old new : Sha256) → (bytes : List ℕ) → Type 0
HoldsMore old new bytes = (m : List ℕ) → Holds256 old m → Holds256 new (m ++ bytes)
