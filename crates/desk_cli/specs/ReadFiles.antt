-- The commands that read a file which is not a desk's: it was opened at this path, or could not be opened.
use Rattle.std.specs.Prelude.{◌⊎◌, ℕ, List, []}
use Rattle.sql_files.specs.declared.desk_files.DeskFiles as files
use Rattle.io_retries.specs.declared.sink.Sink as sink
use Rattle.io_retries.specs.declared.source.Source as source
use Rattle.cli_submit.specs.declared.options.SubmitOptions.{SubmitOptions}
use Rattle.cli_commands.specs.Feeding.{TakesToFault}
use Rattle.cli_commands.specs.FileChecks.{HasChecked, IsFailedCheck}
use Rattle.cli_commands.specs.Inputs.{most_read, TakesAtMost}
use Rattle.cli_commands.specs.ListRuns.{HasSubmitted, IsFailedSubmit}
use Rattle.cli_commands.specs.Printing.{SaysUnavailable}
use Rattle.cli_commands.specs.declared.status.Status.{Status}

module _ {F D Q W : Type 0} (f : files.Ghosts F D Q) (q : source.Ghosts Q) (files : F) (path : List ℕ) (w : sink.Ghosts W) (old new : W) where
  -- the file at this path could not be opened, and `unavailable` was printed
  abbrev pub FailsUnread : Type 0
  FailsUnread = (after : F) × f.fails_to_read files path after × SaysUnavailable w old new

  abbrev pub ChecksAt : Status → Type 0
  ChecksAt status = (input : Q) × (after : F) × f.reads files path input after × HasChecked (q.remaining input) w old new status

  abbrev pub FailsToCheckAt : Type 0
  FailsToCheckAt = ((input : Q) × (after : F) × f.reads files path input after × IsFailedCheck (q.remaining input) w old new) ⊎ FailsUnread

  abbrev pub SubmitsAt : SubmitOptions → Status → Type 0
  SubmitsAt options status = (input : Q) × (after : F) × f.reads files path input after × HasSubmitted options (q.remaining input) w old new status

  abbrev pub FailsToSubmitAt : SubmitOptions → Type 0
  FailsToSubmitAt options = ((input : Q) × (after : F) × f.reads files path input after × IsFailedSubmit options (q.remaining input) w old new) ⊎ FailsUnread

-- The file at this path was opened to be read, and given back when it had been read so far; or it could not be opened. Nothing
-- else was asked of the files.
abbrev pub IsReadAt : {F D Q : Type 0} → files.Ghosts F D Q → (Takes : (input left : Q) → Type 0) → (old : F) → (path : List ℕ)
    → (new : F) → Type 0
IsReadAt {F = F} {Q = Q} f Takes old path new =
    ((input : Q) × (left : Q) × (mid : F) × f.reads old path input mid × Takes input left × f.ends_reading mid left new)
    ⊎ f.fails_to_read old path new

module _ {Q : Type 0} (q : source.Ghosts Q) (input left : Q) where
  -- a file is read to the piece that has its first fault, a list for one byte more than it may have
  abbrev pub TakesOfFile : Type 0
  TakesOfFile = TakesToFault [] (q.remaining input) (q.remaining left)

  abbrev pub TakesOfList : Type 0
  TakesOfList = TakesAtMost most_read (q.remaining input) (q.remaining left)
