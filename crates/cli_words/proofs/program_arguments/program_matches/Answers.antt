use Rattle.std.proofs.Common.{ap, map, ◌∙◌, subst}
use Rattle.clap.specs.Words.{App, fault_of, is_simple_and_free, FailsBy}
use Rattle.cli_words.proofs.CommandLineLemmas.{program_free}
use Rattle.cli_words.proofs.program_arguments.program_matches.Goals as goal

pub returns : goal.returns
returns c =
    let is = c.in_ok-program.ensures in
    let parse = c.try_get_matches_from in
    subst (λ (app : App). FailsBy (fault_of app (map (λ w. w.now) c.args.words.now)) parse.result) is
    (parse.ensures.kinds (ap is_simple_and_free is ∙ program_free))
