-- Words that ask for a command's help.
use Rattle.std.proofs.Common.{◌≡◌, ◌∷◌, [], Bool, true, false, List, find, Some, None, cond, codes, refl, unwrap_or}
use Rattle.std.specs.List.{AllByRecursion}
use Rattle.std.specs.Str.{bytes_eq}
use Rattle.clap.specs.Words.{Text}
use Rattle.clap.proofs.OnLiterals.{clap_on_literals}
use Rattle.cli_words.specs.Arguments.{init_rules, serve_rules, submit_rules}
use Rattle.cli_words.specs.CommandLine.{Form, NamesNone, forms, named_by, program}
use Rattle.cli_words.proofs.CommandLineLemmas.{program_names_none}

each_names_none : (name : Text) → AllByRecursion (λ form. named_by form (name ∷ codes "--help" ∷ []) ≡ None) forms
unfolding clap_on_literals named_by submit_rules init_rules serve_rules
each_names_none name = (refl, (refl, (refl, (refl, (refl, (refl, tt))))))

-- what is so of each form and of the program's is so of the form that is found
of_found : (P : Form → Type 0) (p : Form → Bool) (all : List Form) → AllByRecursion P all → P program → P (unwrap_or (find p all) program)
of_found P p [] each last = last
of_found P p (form ∷ all) each last =
    elim (p form) as (λ b. P (unwrap_or (cond b (Some form) (find p all)) program)) [ true ↦ each.0 | false ↦ of_found P p all each.1 last ]

-- no command is named where its help is asked for
pub help_names_none : (name : Text) → NamesNone (name ∷ codes "--help" ∷ [])
help_names_none name = of_found (λ form. named_by form (name ∷ codes "--help" ∷ []) ≡ None) (λ form. bytes_eq name form.word) forms (each_names_none name) (program_names_none (name ∷ codes "--help" ∷ []))
