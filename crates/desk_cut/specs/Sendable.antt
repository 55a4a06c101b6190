-- The facts about the batches and files of a cut by which each field and each total of a file prints.
use Rattle.std.specs.Prelude.{◌≡◌, ◌≤◌, ◌+◌, true, List, length, map, All}
use Rattle.ach_fields.specs.Trace.{most_sequence}
use Rattle.ach_fields.specs.Characters.{is_printable}
use Rattle.desk_plan.specs.Batch.{IsBatch}
use Rattle.desk_plan.specs.Files.{fits}
use Rattle.desk_history.specs.Files.{File}
use Rattle.desk_history.specs.Sendings.{NumberedBatch, entries_in, plan_of}

-- it takes what the batch of an accepted submission may take, and its sequences have seven digits
pub record IsSendable (b : NumberedBatch) : Type 0 where
  pub taken : IsBatch (plan_of b.sending)
  pub numbered : b.first + length (entries_in b.sending) ≤ most_sequence + 1

-- its batches are such, and one file may hold them
pub record AreSendable (bs : List NumberedBatch) : Type 0 where
  pub each : All IsSendable bs
  pub fit : fits (map (λ b. plan_of b.sending) bs) ≡ true

pub record IsPrintable (f : File) : Type 0 where
  pub modifier : is_printable f.modifier ≡ true
  pub batches : AreSendable f.batches
