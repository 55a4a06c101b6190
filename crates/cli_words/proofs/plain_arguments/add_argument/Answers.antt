use Rattle.std.proofs.Common.{rules, ap, ◌≡◌, ◌∙◌}
use Rattle.clap.specs.Words.{Rule, app_of, rule_of, with_rule}
use Rattle.cli_words.specs.Arguments.{required_argument}
use Rattle.cli_words.proofs.plain_arguments.add_argument.Goals as goal

pub returns : goal.returns
returns c =
    let ruled : rule_of c.help-argument.result ≡ required_argument c.args.id.now = search rules in
    c.in_ok-command.ensures.shape (search rules) ∙ ap (λ (r : Rule). with_rule (app_of c.args.command) r) ruled
