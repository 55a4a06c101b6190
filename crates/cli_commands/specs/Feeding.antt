-- The state of the reader of files after the last piece of an input, or the reason why reading stopped.
use Rattle.std.specs.Prelude.{◌≡◌, ◌≤◌, ℕ, List, ◌++◌, length, Option, None, Result, Ok, Err}
use Rattle.std.specs.Io.KnownBytes.{Consumes}
use Rattle.ach_files.specs.Has.{HasRead}
use Rattle.ach_files.specs.FirstFault.{early_fault, fault, Tells}
use Rattle.ach_files.specs.declared.fault.FileFault.TheVariants.{NoMemory}
use Rattle.ach_files.specs.declared.reader.Reader.{Reader}
use Rattle.cli_commands.specs.Inputs.{most_piece, most_read, MayHave}
use Rattle.cli_commands.specs.declared.file_feed.Stop.{Stop}
use Rattle.cli_commands.specs.declared.file_feed.Stop.TheVariants.{Failed, Faulty}

-- the fault is that of the bytes, or memory ran out
abbrev pub StopsBy : (bytes : List ℕ) → Stop → Type 0
StopsBy bytes Failed = Unit {0}
StopsBy bytes (Faulty f) = Tells f (fault bytes)

-- the reader stops for a read that failed or for memory, and not for a fault of the file
abbrev pub GivesUp : Stop → Type 0
GivesUp Failed = Unit {0}
GivesUp (Faulty f) = f.kind ≡ NoMemory

-- the reader has taken all that the input had after what it took before, or has stopped at the fault of it all
abbrev pub HasFed : {A : Type 0} → (input : Option (List ℕ)) → (before after : Reader) → Result A Stop → Type 0
HasFed input before after (Ok _) =
    (bytes : List ℕ) → HasRead before bytes → (rest : List ℕ) × MayHave input rest × HasRead after (bytes ++ rest)
HasFed input before after (Err stop) =
    (bytes : List ℕ) → HasRead before bytes → (rest : List ℕ) × MayHave input rest × StopsBy (bytes ++ rest) stop

-- An input lost bytes among which the first fault is not, after those that were seen, and one piece more at most: the one that
-- may have it.
pub record TakesToFault (seen : List ℕ) (old new : Option (List ℕ)) : Type 0 where
  pub fine : List ℕ
  pub last : List ℕ
  pub takes : Consumes old new (fine ++ last)
  pub few : length (fine ++ last) ≤ most_read
  pub little : length last ≤ most_piece
  pub none : early_fault (seen ++ fine) ≡ None

-- the same after the bytes that a reader has taken
abbrev pub FeedsToFault : (before : Reader) → (old new : Option (List ℕ)) → Type 0
FeedsToFault before old new = (seen : List ℕ) → HasRead before seen → TakesToFault seen old new
