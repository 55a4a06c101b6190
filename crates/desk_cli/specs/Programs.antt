-- The command that the program's words name.
use Rattle.std.specs.Prelude.{◌≡◌, ◌≢◌, ℕ, ⊤, List, drop, map, Result, Ok, Err, Vec, String, codes, string_bytes}
use Rattle.std.specs.Borrow.{Bor}
use Rattle.std.specs.IoError.{error_kind}
use Rattle.std.specs.Vec.Iter.{into_iter_items}
use Rattle.std.specs.declared.alloc.Global.{Global}
use Rattle.std.specs.declared.io.Error.{Error}
use Rattle.std.specs.declared.io.ErrorKind.{ErrorKind}
use Rattle.std.specs.declared.io.ErrorKind.TheVariants.{InvalidData}
use Rattle.std.specs.declared.vec.IntoIter.{IntoIter}
use Rattle.clap.specs.Words.{Text}
use Rattle.io_retries.specs.declared.sink.Sink as sink
use Rattle.cli_words.specs.CommandLine.{GivesAt}
use Rattle.cli_words.specs.declared.command.Command.{Command}
use Rattle.cli_words.specs.declared.command.LineFault.{LineFault}
use Rattle.cli_words.specs.declared.command.LineFault.TheVariants.{NoMemory, Usage}
use Rattle.cli_commands.specs.ExitCodes.{code_of}
use Rattle.cli_commands.specs.declared.status.Status.{Status}
use Rattle.desk_cli.specs.Commands.{PrintsLineFault}

-- the words behind references
abbrev pub words_in : List (Bor (List ℕ)) → List Text
words_in words = map (λ w. w.now) words

-- `Runs` has what a command does that ends with this status, and `Unread` that nothing was read
module _ {W : Type 0} (w : sink.Ghosts W) (Unread : Type 0) (Runs : Command → (old new : W) → Status → Type 0) (old new : W) where
  -- The command that the words give is run, and the exit status is that of its end; or the reason why they give none is
  -- printed.
  abbrev pub DoesRead : Result Command LineFault → (code : ℕ) → Type 0
  DoesRead (Ok command) code = (status : Status) × (code ≡ code_of status) × Runs command old new status
  DoesRead (Err fault) code = PrintsLineFault fault w old new code × Unread

  -- the program does what the words ask for
  abbrev pub RunsWords : (words : List Text) → (code : ℕ) → Type 0
  RunsWords words code = (read : Result Command LineFault) × GivesAt words read × DoesRead read code

  -- The words that the program was started with are its name and those that are run. If they could not be read, the fault is
  -- printed, or the write of it failed.
  abbrev pub RunsStarted : Result (Vec (String Global) Global) LineFault → (code : ℕ) → Type 0
  RunsStarted (Ok words) code = RunsWords (map string_bytes (drop 1 words.items)) code
  RunsStarted (Err fault) code = PrintsLineFault fault w old new code × Unread

-- ---- the words that the program was started with

-- the fault if a word is not UTF-8
abbrev pub not_text : List ℕ
not_text = codes "error: a word of the command line is not UTF-8\n"

-- that fault of usage, or memory ran out
abbrev pub IsNotTextFault : LineFault → Type 0
IsNotTextFault (Usage text) = string_bytes text ≡ not_text
IsNotTextFault NoMemory = ⊤
IsNotTextFault _ = ⊥

-- if the system gives no words, a word is not UTF-8 exactly if the system reports invalid data
abbrev pub IsFaultOfWords : ErrorKind → LineFault → Type 0
IsFaultOfWords kind fault = (kind ≡ InvalidData → IsNotTextFault fault) × (kind ≢ InvalidData → fault ≡ NoMemory)

-- the words are those that the system gives, in their order; or the reason why it gives none
abbrev pub GivesStarted : Result (IntoIter (String Global) Global) Error → Result (Vec (String Global) Global) LineFault → Type 0
GivesStarted (Ok words) (Ok found) = found.items ≡ into_iter_items words
GivesStarted (Ok words) (Err fault) = fault ≡ NoMemory
GivesStarted (Err error) (Ok found) = ⊥
GivesStarted (Err error) (Err fault) = IsFaultOfWords (error_kind error) fault
