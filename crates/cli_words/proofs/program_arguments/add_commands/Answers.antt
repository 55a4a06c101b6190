use Rattle.std.proofs.Common.{◌≡◌, ◌∙◌, ◌+◌, [], ap, sym, map, drop, arith, fold}
use Rattle.std.proofs.lemmas.List.{at_drop_more, drop_all}
use Rattle.clap.specs.Words.{app_of}
use Rattle.cli_words.specs.Arguments.{name_text, with_command}
use Rattle.cli_words.proofs.program_arguments.add_commands.Goals as goal

pub loop-command-preserved : goal.loop-command-preserved
loop-command-preserved c =
    let commands = c.args.commands.now in
    let at = c.loop-command.command-index in
    ap (λ app. fold with_command app (map name_text (drop (at + 1) commands))) c.in_ok-program.ensures
    ∙ sym (at_drop_more (λ rest. fold with_command (app_of c.loop-command.program) (map name_text rest)) commands at _ c.loop-command-test.true)
    ∙ c.loop-command.invariant

pub returns : goal.returns
returns c =
    let commands = c.args.commands.now in
    let none : drop c.loop-command.command-index commands ≡ [] = drop_all c.loop-command.command-index commands (omega arith) in
    ap (λ rest. fold with_command (app_of c.loop-command.program) (map name_text rest)) (sym none) ∙ c.loop-command.invariant
