-- How often a commit syncs the desk's files, as words and commands say it.
use Rattle.std.specs.Prelude.{if◌then◌else◌, Option, Some, None, codes}
use Rattle.std.specs.Option.{option_map_or}
use Rattle.std.specs.Str.{bytes_eq}
use Rattle.clap.specs.Words.{Text}
use Rattle.cli_words.specs.declared.command.Command.{Command}
use Rattle.cli_words.specs.declared.command.Command.TheVariants as command
use Rattle.cli_words.specs.declared.syncs.Syncs.{Syncs}
use Rattle.cli_words.specs.declared.syncs.Syncs.TheVariants.{Once, Twice}

-- the words that `--sync` takes
abbrev pub syncs_named : (word : Text) → Option Syncs
syncs_named word = if bytes_eq word (codes "once") then Some Once else (if bytes_eq word (codes "twice") then Some Twice else None)

-- twice if the option is left out
abbrev pub syncs_by : (word : Option Text) → Option Syncs
syncs_by word = option_map_or syncs_named word (Some Twice)

-- twice for a command that has no such option
abbrev pub syncs_of : Command → Syncs
syncs_of (command.AnswerByFile path syncs) = syncs
syncs_of (command.Serve path options) = options.syncs
syncs_of _ = Twice
