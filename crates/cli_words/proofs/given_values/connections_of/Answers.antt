use Rattle.std.proofs.Common.{codes, arith, subst, sym, ap, refl, ◌∙◌, ℕ, Option, IsSome, unwrap_or}
use Rattle.std.specs.Str.Parse.{ExplainsUnsignedError, HasUnsignedDigitsIfOk, ParsesUnsigned}
use Rattle.clap.specs.Words.{found_of}
use Rattle.cli_words.proofs.NumberLemmas.{number_read}
use Rattle.cli_words.proofs.given_values.connections_of.Goals as goal

pub unwrap-requires : goal.unwrap-requires
unwrap-requires c =
    let read =
    number_read (λ bs r. ParsesUnsigned 32 10 bs r × ExplainsUnsignedError 10 bs r × HasUnsignedDigitsIfOk bs r) 32 1 1000000 (found_of c.args.matches.now) (codes "N") c.get_one.result
    c.requires (omega arith) (λ u x read. read.0) c.get_one.ensures.value in
    subst IsSome (sym read) refl

pub returns : goal.returns
returns c =
    let read =
    number_read (λ bs r. ParsesUnsigned 32 10 bs r × ExplainsUnsignedError 10 bs r × HasUnsignedDigitsIfOk bs r) 32 1 1000000 (found_of c.args.matches.now) (codes "N") c.get_one.result
    c.requires (omega arith) (λ u x read. read.0) c.get_one.ensures.value in
    ap (λ (o : Option ℕ). unwrap_or o 0) (sym c.unwrap.ensures ∙ read)
