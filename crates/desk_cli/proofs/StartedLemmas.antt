-- The words that the program was started with, and its exit status.
use Rattle.std.proofs.Common.{◌≡◌, ◌≢◌, ◌≤◌, List, [], ◌∷◌, map, Option, Some, None, Ok, Err, codes, arith, inl, refl, subst}
use Rattle.std.specs.Option.{option_map_or}
use Rattle.clap.specs.Words.{Text}
use Rattle.cli_words.specs.CommandLine.{GivesAt, help_topic, spelled_out}
use Rattle.cli_words.specs.declared.command.LineFault.TheVariants.{NoMemory}
use Rattle.cli_commands.specs.ExitCodes.{code_of}
use Rattle.cli_commands.specs.declared.status.Status.{Status}
use Rattle.cli_commands.specs.declared.status.Status.TheVariants.{Done, Refused, Failed}

-- ---- where there is a word, memory may run out

some_spelled_out : (topic : Option Text) (words : List Text) → help_topic words ≡ topic → words ≢ [] → spelled_out words ≢ []
some_spelled_out (Some t) words is some = λ none. cc
some_spelled_out None words is some = λ none. some (subst (λ (o : Option Text). option_map_or (λ topic. topic ∷ codes "--help" ∷ []) o words ≡ []) is none)

pub gives_no_memory : (words : List Text) → words ≢ [] → GivesAt words (Err NoMemory)
gives_no_memory words some = ((inl refl, tt), some_spelled_out (help_topic words) words refl some)

pub some_mapped : {A B : Type 0} (f : A → B) (xs : List A) → xs ≢ [] → map f xs ≢ []
some_mapped f [] some = λ none. some refl
some_mapped f (x ∷ xs) some = λ none. cc

-- ---- the exit status is at most 3

pub code_within : (status : Status) → code_of status ≤ 3
code_within Done = omega arith
code_within Refused = omega arith
code_within Failed = omega arith
