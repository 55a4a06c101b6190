use Rattle.std.proofs.Common.{rules, ◌≡◌, ◌∙◌, [], unwrap_or}
use Rattle.clap.specs.Words.{first_value, found_of}
use Rattle.cli_words.proofs.CommandLineLemmas.{text_in-rows}
use Rattle.cli_words.proofs.given_values.argument_text.Goals as goal

pub returns : goal.returns
returns c =
    let found : c.unwrap_or.result.now ≡ unwrap_or (first_value (found_of c.args.matches.now) c.args.id.now) [] = search (rules, c.unwrap_or.ensures, c.get_str.ensures) in
    found ∙ text_in-rows c.args.matches.now c.args.id.now
