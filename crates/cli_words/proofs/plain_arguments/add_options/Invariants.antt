use Rattle.std.proofs.Common.{◌≡◌, map, drop}
use Rattle.clap.specs.Words.{app_of}
use Rattle.cli_words.specs.Arguments.{option_texts, with_options}
use Rattle.cli_words.proofs.plain_arguments.add_options.Given as goal

abbrev pub invariant-loop-option : goal.invariant-loop-option
invariant-loop-option l = with_options (app_of l.command) (map option_texts (drop l.option-index l.options)) ≡ with_options (app_of l.fn.command) (map option_texts l.options)
