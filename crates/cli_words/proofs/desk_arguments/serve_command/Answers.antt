use Rattle.std.proofs.Common.{ap, codes, ◌≡◌, ◌∙◌}
use Rattle.clap.specs.Words.{Rule, app_of, new_app, with_rule}
use Rattle.cli_words.specs.Arguments.{serve_rules}
use Rattle.cli_words.proofs.CommandLineLemmas.{with_more}
use Rattle.cli_words.proofs.desk_arguments.serve_command.Goals as goal

pub returns : goal.returns
unfolding serve_rules
returns c =
    let start : app_of c.in_ok-command.command ≡ new_app (codes "achdesk serve") = c.in_ok-command.ensures in
    let path = with_more _ _ _ _ start c.in_ok-command-2.ensures in
    let port =
    with_more _ _ _ _ path
    (c.in_ok-command-3.ensures.shape c.port_argument.ensures.local ∙ ap (λ (r : Rule). with_rule (app_of c.in_ok-command-2.command) r) c.port_argument.ensures.rule) in
    let connections =
    with_more _ _ _ _ port
    (c.in_ok-command-4.ensures.shape c.connections_option.ensures.local ∙ ap (λ (r : Rule). with_rule (app_of c.in_ok-command-3.command) r) c.connections_option.ensures.rule) in
    let patience =
    with_more _ _ _ _ connections
    (c.in_ok-command-5.ensures.shape c.patience_option.ensures.local ∙ ap (λ (r : Rule). with_rule (app_of c.in_ok-command-4.command) r) c.patience_option.ensures.rule) in
    with_more _ _ _ _ patience
    (c.in_ok-command-6.ensures.shape c.sync_option.ensures.local ∙ ap (λ (r : Rule). with_rule (app_of c.in_ok-command-5.command) r) c.sync_option.ensures.rule)
