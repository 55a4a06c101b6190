use Rattle.std.proofs.Common.{rules, ap, ◌≡◌, ◌∙◌}
use Rattle.clap.specs.Words.{Rule, app_of, rule_of, with_rule}
use Rattle.cli_words.specs.Arguments.{required_option}
use Rattle.cli_words.proofs.plain_arguments.add_option.Goals as goal

pub returns : goal.returns
returns c =
    let ruled : rule_of c.help-option.result ≡ required_option c.args.id.now c.args.name.now = search rules in
    c.in_ok-command.ensures.shape (search rules) ∙ ap (λ (r : Rule). with_rule (app_of c.args.command) r) ruled
