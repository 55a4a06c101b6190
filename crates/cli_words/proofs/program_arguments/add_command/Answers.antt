use Rattle.std.proofs.Common.{rules, ap, ◌≡◌, ◌∙◌}
use Rattle.clap.specs.Words.{App, app_of, new_app, with_subcommand}
use Rattle.cli_words.proofs.program_arguments.add_command.Goals as goal

pub returns : goal.returns
returns c =
    let named : app_of c.about-command.result ≡ new_app c.args.name.now = search (rules, c.about-command.ensures, c.new.ensures) in
    c.in_ok-program.ensures.shape (search rules) ∙ ap (λ (a : App). with_subcommand (app_of c.args.program) a.top) named
