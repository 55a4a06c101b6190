-- The command that words name, by `clap`'s rules for the command's arguments, or why they name none.
use Rattle.std.specs.Prelude.{◌≡◌, ◌≢◌, ◌⊎◌, ◌&&◌, ℕ, nat_le, not, Bool, true, false, if◌then◌else◌, List, [], ◌∷◌, find, Option, Some, None, option_map, codes, unwrap_or, Result, Ok, Err, OnErr}
use Rattle.std.specs.Option.{option_map_or}
use Rattle.std.specs.Str.{bytes_eq}
use Rattle.std.specs.Str.Parse.{digits_value, without_leading_plus}
use Rattle.clap.specs.Words.{App, IsUnsignedIn, Row, Text, fault_of, first_of, found_of, matches_of, one_of, rows_of}
use Rattle.clap.specs.Kinds.{HasKind, IsAmong, Kinds}
use Rattle.clap.specs.declared.error.kind.ErrorKind.{ErrorKind}
use Rattle.clap.specs.declared.error.kind.ErrorKind.TheVariants as kind
use Rattle.clap.specs.declared.error.Error.{Error}
use Rattle.clap.specs.declared.parser.matches.ArgMatches.{ArgMatches}
use Rattle.cli_submit.specs.Options.{OptionTexts, texts_of}
use Rattle.cli_words.specs.Arguments.{check_app, init_app, migrate_app, program_app, serve_app, stdio_app, submit_app}
use Rattle.cli_words.specs.InitOptions.{InitTexts, init_texts_of}
use Rattle.cli_words.specs.SyncWords.{syncs_by}
use Rattle.cli_words.specs.declared.command.Command.{Command}
use Rattle.cli_words.specs.declared.command.Command.TheVariants as command
use Rattle.cli_words.specs.declared.command.LineFault.{LineFault}
use Rattle.cli_words.specs.declared.command.LineFault.TheVariants.{Help, Version, Usage, NoMemory}
use Rattle.cli_words.specs.declared.syncs.Syncs.{Syncs}

-- the word that asks for help
abbrev pub is_help : (word : Text) → Bool
is_help word = bytes_eq word (codes "help")

-- `clap` takes the words where no kind of error is left
abbrev pub has_no_kind : Kinds → Bool
has_no_kind [] = true
has_no_kind (k ∷ ks) = false

-- the text that an argument was given
abbrev pub text_in : (id : Text) → List Row → Text
text_in id rows = unwrap_or (first_of id rows) []

-- the number that a text names, by its decimal digits
abbrev pub number_of : (text : Text) → ℕ
number_of text = digits_value 10 (without_leading_plus text)

-- the number that an argument was given, or has where it was left out
abbrev pub number_in : (id : Text) → List Row → ℕ
number_in id rows = number_of (unwrap_or (one_of id rows) [])

-- an argument has a number from low to high
abbrev pub HasNumber : (low high : ℕ) → (id : Text) → List Row → Type 0
HasNumber low high id rows = (text : Text) × (one_of id rows ≡ Some text) × IsUnsignedIn low high text

-- the arguments of `serve` have a port, a number of connections, and a number of seconds
abbrev pub HasPort : List Row → Type 0
HasPort rows = HasNumber 1 65535 (codes "PORT") rows

abbrev pub HasConnections : List Row → Type 0
HasConnections rows = HasNumber 1 1000000 (codes "N") rows

abbrev pub HasPatience : List Row → Type 0
HasPatience rows = HasNumber 1 3600 (codes "SECONDS") rows

-- the word of `--sync`
abbrev pub sync_word : List Row → Option Text
sync_word = first_of (codes "WHEN")

-- the options of a message
abbrev pub options_in : List Row → OptionTexts
options_in rows = record {
  company = text_in (codes "COMPANY") rows;
  key = text_in (codes "KEY") rows;
  reference = text_in (codes "REF") rows;
  sec = text_in (codes "SEC") rows;
  direction = text_in (codes "DIRECTION") rows;
  description = text_in (codes "TEXT") rows;
  day = text_in (codes "DAY") rows;
}

-- the options of a new desk
abbrev pub init_texts_in : List Row → InitTexts
init_texts_in rows = record {
  odfi = text_in (codes "ODFI") rows;
  odfi_name = text_in (codes "ODFI_NAME") rows;
  destination = text_in (codes "DESTINATION") rows;
  destination_name = text_in (codes "DESTINATION_NAME") rows;
  key = text_in (codes "KEY") rows;
}

-- a command as words name it
pub data NamedCommand : Type 0 where
  AnswerSubmission : NamedCommand
  Check : (file : Text) → NamedCommand
  Submit : (list : Text) → OptionTexts → NamedCommand
  AnswerMessages : NamedCommand
  AnswerByFile : (path : Text) → Syncs → NamedCommand
  Init : (path : Text) → InitTexts → NamedCommand
  Serve : (path : Text) → (port connections patience : ℕ) → Syncs → NamedCommand
  Migrate : (path : Text) → NamedCommand

-- a session with the desk in the file that is named, or with a new one, which has no file to sync
abbrev pub session_with : (path word : Option Text) → Option NamedCommand
session_with (Some path) word = option_map (AnswerByFile path) (syncs_by word)
session_with None None = Some AnswerMessages
session_with None (Some word) = None

-- a number from low to high
abbrev pub is_between : (low high n : ℕ) → Bool
is_between low high n = nat_le low n && nat_le n high

-- a server, if its port is 1 to 65,535, its connections are 1 to 1,000,000, its patience is 1 to 3,600, and the words say how
-- often it syncs
abbrev pub server : (path : Text) (port connections patience : ℕ) → Option Syncs → Option NamedCommand
server path port connections patience syncs =
    if is_between 1 65535 port && is_between 1 1000000 connections && is_between 1 3600 patience
    then option_map (Serve path port connections patience) syncs else None

-- ---- the forms of the commands

-- The form of a command: its first word, its arguments by `clap`'s rules, and the command that matches name.
pub record Form : Type 0 where
  pub word : Text
  pub app : App
  pub names : List Row → Option NamedCommand

abbrev pub check : Form
check = record { word = codes "check"; app = check_app; names = λ rows. Some (Check (text_in (codes "FILE") rows)) }

abbrev pub submit : Form
submit = record { word = codes "submit"; app = submit_app; names = λ rows. Some (Submit (text_in (codes "FILE") rows) (options_in rows)) }

abbrev pub stdio : Form
stdio = record { word = codes "stdio"; app = stdio_app; names = λ rows. session_with (first_of (codes "DB") rows) (sync_word rows) }

abbrev pub init : Form
init = record { word = codes "init"; app = init_app; names = λ rows. Some (Init (text_in (codes "DB") rows) (init_texts_in rows)) }

abbrev pub serve : Form
serve = record {
  word = codes "serve";
  app = serve_app;
  names = λ rows. server (text_in (codes "DB") rows) (number_in (codes "PORT") rows) (number_in (codes "N") rows) (number_in (codes "SECONDS") rows) (syncs_by (sync_word rows));
}

abbrev pub migrate : Form
migrate = record { word = codes "migrate"; app = migrate_app; names = λ rows. Some (Migrate (text_in (codes "DB") rows)) }

abbrev pub forms : List Form
forms = check ∷ submit ∷ stdio ∷ init ∷ serve ∷ migrate ∷ []

-- the program's own form, whose words name no command
abbrev pub program : Form
program = record { word = codes "achdesk"; app = program_app; names = λ rows. None }

-- the form of words that begin with this one
abbrev pub form_of : (word : Text) → Form
form_of word = unwrap_or (find (λ form. bytes_eq word form.word) forms) program

-- ---- the command that words name

-- by a form
unfoldable pub named_by : Form → (words : List Text) → Option NamedCommand
named_by form words = if has_no_kind (fault_of form.app words) then form.names (matches_of form.app words) else None

abbrev pub named_command : (words : List Text) → Option NamedCommand
named_command [] = Some AnswerSubmission
named_command (word ∷ rest) = named_by (form_of word) (word ∷ rest)

-- the kinds of error that `clap` may give at the words: none where they name a command
unfoldable pub kinds_at : (words : List Text) → Kinds
kinds_at [] = []
kinds_at (word ∷ rest) = fault_of (form_of word).app (word ∷ rest)

-- the matches are those of the app, or the error has one of its kinds, or memory ran out
abbrev pub Parses : App → (words : List Text) → Result ArgMatches Error → Type 0
Parses app words (Ok m) = (fault_of app words ≡ []) × (rows_of (found_of m) ≡ matches_of app words)
Parses app words (Err e) = HasKind (fault_of app words) e

-- a command with the texts of its path and its options
abbrev pub command_value : Command → NamedCommand
command_value command.AnswerSubmission = AnswerSubmission
command_value (command.Check file) = Check file.now
command_value (command.Submit list options) = Submit list.now (texts_of options)
command_value command.AnswerMessages = AnswerMessages
command_value (command.AnswerByFile path syncs) = AnswerByFile path.now syncs
command_value (command.Init path options) = Init path.now (init_texts_of options)
command_value (command.Serve path options) = Serve path.now options.port options.connections options.patience options.syncs
command_value (command.Migrate path) = Migrate path.now

-- the fault is help or the version where `clap`'s error is that, and usage where it is another
abbrev pub IsFaultOf : ErrorKind → LineFault → Type 0
IsFaultOf k (Help text) = k ≡ kind.DisplayHelp
IsFaultOf k Version = k ≡ kind.DisplayVersion
IsFaultOf k (Usage text) = (k ≢ kind.DisplayHelp) × (k ≢ kind.DisplayVersion) × (k ≢ kind.OutOfMemory)
IsFaultOf k NoMemory = Unit {0}

-- The fault is help, or the version, only if `clap` may report that, and usage only if it may report another error. So
-- if words have one kind of error, the fault is help, or the version, exactly if the kind is.
abbrev pub IsFaultAmong : Kinds → LineFault → Type 0
IsFaultAmong kinds (Help text) = IsAmong kind.DisplayHelp kinds
IsFaultAmong kinds Version = IsAmong kind.DisplayVersion kinds
IsFaultAmong kinds (Usage text) = (kinds ≢ kind.DisplayHelp ∷ []) × (kinds ≢ kind.DisplayVersion ∷ [])
IsFaultAmong kinds NoMemory = Unit {0}

-- The words name the command that is given. Or they name none, or memory ran out, and the fault is among these kinds.
abbrev pub Gives : (wanted : Option NamedCommand) → Kinds → Result Command LineFault → Type 0
Gives wanted kinds (Ok c) = wanted ≡ Some (command_value c)
Gives wanted kinds (Err fault) = ((fault ≡ NoMemory) ⊎ (wanted ≡ None)) × IsFaultAmong kinds fault

-- how often a commit syncs, as is wanted; or nothing is, and the fault is usage, or that memory ran out
abbrev pub GivesSyncs : (wanted : Option Syncs) → Result Syncs LineFault → Type 0
GivesSyncs wanted (Ok syncs) = wanted ≡ Some syncs
GivesSyncs wanted (Err fault) = (wanted ≡ None) × IsFaultAmong [] fault

-- what words in this form give
abbrev pub GivesIn : Form → (words : List Text) → Result Command LineFault → Type 0
GivesIn form words given = Gives (named_by form words) (fault_of form.app words) given

-- the result for the words; without words, a command
abbrev pub GivesBy : (words : List Text) → Result Command LineFault → Type 0
GivesBy words given = Gives (named_command words) (kinds_at words) given × OnErr given (words ≢ [])

-- the words name no command
abbrev pub NamesNone : (words : List Text) → Type 0
NamesNone words = named_command words ≡ None

-- the command whose help the words ask for by `help COMMAND`; `help help` asks for none
abbrev pub help_topic : (words : List Text) → Option Text
help_topic (first ∷ topic ∷ []) = if is_help first && not (is_help topic) then Some topic else None
help_topic _ = None

-- `help COMMAND` is read as `COMMAND --help`
abbrev pub spelled_out : (words : List Text) → List Text
spelled_out words = option_map_or (λ topic. topic ∷ codes "--help" ∷ []) (help_topic words) words

-- what the program's words give
abbrev pub GivesAt : (words : List Text) → Result Command LineFault → Type 0
GivesAt words given = GivesBy (spelled_out words) given
