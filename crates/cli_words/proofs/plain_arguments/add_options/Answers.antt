use Rattle.std.proofs.Common.{◌≡◌, ◌∙◌, ◌+◌, [], ap, sym, map, drop, arith}
use Rattle.std.proofs.lemmas.List.{at_drop_more, drop_all}
use Rattle.clap.specs.Words.{app_of}
use Rattle.cli_words.specs.Arguments.{option_texts, with_options}
use Rattle.cli_words.proofs.plain_arguments.add_options.Goals as goal

pub loop-option-preserved : goal.loop-option-preserved
loop-option-preserved c =
    let options = c.args.options.now in
    let at = c.loop-option.option-index in
    ap (λ app. with_options app (map option_texts (drop (at + 1) options))) c.in_ok-command.ensures
    ∙ sym (at_drop_more (λ rest. with_options (app_of c.loop-option.command) (map option_texts rest)) options at _ c.loop-option-test.true)
    ∙ c.loop-option.invariant

pub returns : goal.returns
returns c =
    let options = c.args.options.now in
    let none : drop c.loop-option.option-index options ≡ [] = drop_all c.loop-option.option-index options (omega arith) in
    ap (λ rest. with_options (app_of c.loop-option.command) (map option_texts rest)) (sym none) ∙ c.loop-option.invariant
