use Rattle.std.proofs.Common.{rules, ap, codes, ◌≡◌, ◌∙◌}
use Rattle.clap.specs.Words.{Rule, app_of, new_app, rule_of, with_rule}
use Rattle.cli_words.specs.Arguments.{argument}
use Rattle.cli_words.proofs.CommandLineLemmas.{with_more}
use Rattle.cli_words.proofs.plain_arguments.stdio_command.Goals as goal

pub returns : goal.returns
returns c =
    let start : app_of c.in_ok-command.command ≡ new_app (codes "achdesk stdio") = c.in_ok-command.ensures in
    let ruled : rule_of c.help-path.result ≡ argument (codes "DB") = search rules in
    let path =
    with_more _ _ _ _ start (c.in_ok-command-2.ensures.shape (search rules) ∙ ap (λ (r : Rule). with_rule (app_of c.in_ok-command.command) r) ruled) in
    with_more _ _ _ _ path
    (c.in_ok-command-3.ensures.shape c.sync_option.ensures.local ∙ ap (λ (r : Rule). with_rule (app_of c.in_ok-command-2.command) r) c.sync_option.ensures.rule)
