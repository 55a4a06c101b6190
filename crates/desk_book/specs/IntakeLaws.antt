-- An incoming file after a history is taken as by its book.
use Rattle.std.specs.Prelude.{◌≡◌, ℕ, List, ◌∷◌, Result}
use Rattle.ach_files.specs.declared.fault.Fault.{Fault}
use Rattle.ach_files.specs.Facts.{FileFacts}
use Rattle.desk_history.specs.declared.identity.Identity.{Identity}
use Rattle.desk_book.specs.Book.{Book, book_of}
use Rattle.desk_history.specs.Message.{TakeFile, Pair}
use Rattle.desk_history.specs.Operator.{answer_to, next_pair, IsHistory}
use Rattle.desk_book.specs.OnIntake.{file_answer_on, file_after, intake_facts, intake_write}
use Rattle.desk_book.specs.Steps.{commit_intake}

pub record TellsIntake : Type 0 where
  pub answer : (identity : Identity) (key : List ℕ) (H : List Pair) (file : Result FileFacts Fault) → IsHistory identity H
      → answer_to identity H (TakeFile file) ≡ file_answer_on file (book_of identity key H)
  pub step : (identity : Identity) (key : List ℕ) (H : List Pair) (file : Result FileFacts Fault) → IsHistory identity H
      → book_of identity key (next_pair identity H (TakeFile file) ∷ H) ≡ file_after file (book_of identity key H)

-- Whatever the book is, a file of it gives back and changes entries that were sent, and no others.
abbrev pub EntriesOfIntakes : Type 0
EntriesOfIntakes = (b : Book) (d : ℕ) (f : FileFacts) → (commit_intake (intake_write (intake_facts b d f))).Admits b
