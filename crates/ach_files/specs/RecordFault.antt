-- The fault of a record, judged against sums over the records before it.
use Rattle.std.specs.Prelude.{ℕ, ◌+◌, Bool, true, false, not, ◌&&◌, ◌||◌, List, length, Option, Some, None, if◌then◌else◌, ◌==◌}
use Rattle.ach_records.specs.Record.{kind_of, has_digits, entry_transaction_code, entry_direction, entry_dfi, entry_cents, batch_sec, header_key}
use Rattle.ach_records.specs.declared.Kind.{Kind}
use Rattle.ach_records.specs.declared.Kind.TheVariants as kinds
use Rattle.ach_files.specs.declared.fault.FileFault.{FileFault}
use Rattle.ach_files.specs.declared.fault.FileFault.TheVariants as faults
use Rattle.ach_files.specs.declared.sums.Sums.{Sums}
use Rattle.ach_files.specs.declared.stage.BatchesSoFar.{BatchesSoFar}
use Rattle.ach_files.specs.declared.stage.OpenBatch.{OpenBatch}
use Rattle.ach_files.specs.declared.stage.PendingEntry.{PendingEntry}
use Rattle.ach_files.specs.declared.stage.Stage.{Stage}
use Rattle.ach_files.specs.declared.stage.Stage.TheVariants as stages
use Rattle.ach_files.specs.Structure.{Item, Batch}
use Rattle.ach_files.specs.Totals.{is_debit, sums_of_items, sums_of_batches, batch_control_sums, file_control_sums, control_batches, control_blocks, blocks, low_digits}
use Rattle.ach_files.specs.SoFar.{FileSoFar, BeforeHeader, BetweenBatches, InBatch, AwaitingAddenda, Closed, file_so_far}

-- ---- the stage of the records so far: sums over the lists

abbrev pub batches_so_far : List ℕ → List Batch → BatchesSoFar
batches_so_far h bs = record { key = header_key h; batches = length bs; sums = sums_of_batches bs }

abbrev pub open_batch : List ℕ → List Item → OpenBatch
open_batch b is = record { sec = batch_sec b; sums = sums_of_items is }

abbrev pub pending_entry_of : List ℕ → PendingEntry
pending_entry_of e = record { transaction_code = entry_transaction_code e; dfi = entry_dfi e; cents = entry_cents e; is_debit = is_debit e }

abbrev pub stage_of : FileSoFar → Stage
stage_of BeforeHeader = stages.BeforeHeader
stage_of (BetweenBatches h bs) = stages.BetweenBatches (batches_so_far h bs)
stage_of (InBatch h bs b is) = stages.InBatch (batches_so_far h bs) (open_batch b is)
stage_of (AwaitingAddenda h bs b is e) = stages.AwaitingAddenda (batches_so_far h bs) (open_batch b is) (pending_entry_of e)
stage_of (Closed f) = stages.Closed (header_key f.header)

-- ---- the faults at the last byte of a record

-- The order: one 1; then batches, each a 5, its records 6 each with one 7, and an 8; then one 9; then fillers.
abbrev pub may_follow : Stage → Kind → Bool
may_follow stages.BeforeHeader kinds.FileHeader = true
may_follow (stages.BetweenBatches _) kinds.BatchHeader = true
may_follow (stages.BetweenBatches _) kinds.FileControl = true
may_follow (stages.InBatch _ _) kinds.Entry = true
may_follow (stages.InBatch _ _) kinds.BatchControl = true
may_follow (stages.AwaitingAddenda _ _ _) kinds.Change98 = true
may_follow (stages.AwaitingAddenda _ _ _) kinds.Return99 = true
may_follow (stages.Closed _) kinds.Filler = true
may_follow _ _ = false

-- a 6 or 8 where the 6 before it still wants its 7; a 7 right after a 7; a 7 whose type is neither 98 nor 99
abbrev pub is_misplaced : Stage → Kind → Bool
is_misplaced _ kinds.Addenda05 = true
is_misplaced _ kinds.OtherAddenda = true
is_misplaced (stages.AwaitingAddenda _ _ _) kinds.Entry = true
is_misplaced (stages.AwaitingAddenda _ _ _) kinds.BatchControl = true
is_misplaced (stages.InBatch _ o) kinds.Change98 = not (o.sums.count == 0)
is_misplaced (stages.InBatch _ o) kinds.Return99 = not (o.sums.count == 0)
is_misplaced _ _ = false

-- a 98 whose entry's amount isn't zero
abbrev pub has_amount : Stage → Kind → Bool
has_amount (stages.AwaitingAddenda _ _ w) kinds.Change98 = not (w.cents == 0)
has_amount _ _ = false

-- a 6 whose code's second digit is neither 1 nor 6
abbrev pub is_forward : Kind → List ℕ → Bool
is_forward kinds.Entry text = not (entry_direction text == 49) && not (entry_direction text == 54)
is_forward _ _ = false

abbrev pub sums_differ : Sums → Sums → Option FileFault
sums_differ told sums =
    if not (told.count == sums.count) then Some faults.BadCount
    else if not (told.hash == low_digits sums.hash) then Some faults.BadHash
    else if not (told.debits == sums.debits) then Some faults.BadTotal
    else if not (told.credits == sums.credits) then Some faults.BadTotal
    else None

-- the block count is looked at last
abbrev pub block_fault : ℕ → List ℕ → Option FileFault → Option FileFault
block_fault n text None = if control_blocks text == blocks n then None else Some faults.BadBlock
block_fault n text (Some f) = Some f

-- an 8 or 9 against the records before it
unfoldable pub control_fault : Stage → ℕ → Kind → List ℕ → Option FileFault
control_fault (stages.InBatch _ o) n kinds.BatchControl text = sums_differ (batch_control_sums text) o.sums
control_fault (stages.BetweenBatches d) n kinds.FileControl text =
    if not (control_batches text == d.batches) then Some faults.BadCount
    else block_fault n text (sums_differ (file_control_sums text) d.sums)
control_fault _ n _ text = None

-- a 9 after these batches
abbrev pub file_control_fault : BatchesSoFar → ℕ → List ℕ → Option FileFault
file_control_fault d n text = control_fault (stages.BetweenBatches d) n kinds.FileControl text

-- the fault of the n-th record, if the records before it led to the stage
unfoldable pub fault_after_stage : Stage → ℕ → Kind → List ℕ → Option FileFault
fault_after_stage stage n kind text =
    if not (may_follow stage kind || is_misplaced stage kind) then Some faults.BadOrder
    else if not (has_digits kind text) then Some faults.BadNumber
    else if is_forward kind text then Some faults.ForwardEntry
    else if is_misplaced stage kind || has_amount stage kind then Some faults.BadAddenda
    else control_fault stage n kind text

-- what is wrong with a record after these
abbrev pub record_fault : List (List ℕ) → List ℕ → Option FileFault
record_fault before text = fault_after_stage (stage_of (file_so_far before)) (length before + 1) (kind_of text) text
