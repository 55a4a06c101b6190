use Rattle.std.proofs.Common.{◌≡◌, map, drop, fold}
use Rattle.clap.specs.Words.{app_of}
use Rattle.cli_words.specs.Arguments.{name_text, with_command}
use Rattle.cli_words.proofs.program_arguments.add_commands.Given as goal

abbrev pub invariant-loop-command : goal.invariant-loop-command
invariant-loop-command l = fold with_command (app_of l.program) (map name_text (drop l.command-index l.commands)) ≡ fold with_command (app_of l.fn.program) (map name_text l.commands)
