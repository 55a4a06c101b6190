-- The result of parsing `serve`: a port, a number of connections and a number of seconds, each in its range.
use Rattle.std.proofs.Common.{◌≡◌, ◌<◌, ◌≤◌, ◌^◌, ◌∙◌, ℕ, true, false, refl, sym, arith, length, map, codes, [], Some, None, Result, Ok, Err, IfOk}
use Rattle.std.specs.List.{range_with_len, slice_index_or}
use Rattle.std.specs.Prelude.{◌==◌}
use Rattle.std.specs.Str.{bytes_eq}
use Rattle.std.proofs.lemmas.Bool.Decides.{Decides-eqb}
use Rattle.std.proofs.lemmas.List.{get_or-map}
use Rattle.std.proofs.lemmas.List.FromFn.{get_or-map-range_with_len}
use Rattle.clap.specs.Built.{IsParsedFrom}
use Rattle.clap.specs.Words.{Rule, app_of, found_of, rows_of}
use Rattle.clap.specs.declared.builder.action.ArgAction.TheVariants.{Set}
use Rattle.clap.specs.declared.builder.command.Command.{Command}
use Rattle.clap.specs.declared.error.Error.{Error}
use Rattle.clap.specs.declared.parser.matches.ArgMatches.{ArgMatches}
use Rattle.clap.proofs.OnLiterals.{clap_on_literals}
use Rattle.cli_words.specs.Arguments.{connections_rule, number_between, patience_rule, port_rule, serve_app, serve_rules}
use Rattle.cli_words.specs.CommandLine.{HasConnections, HasPatience, HasPort}
use Rattle.cli_words.proofs.NumberLemmas.{IsRanged, default_number, required_number}

-- no other rule has the name of the rule at a place, if the rules' names were compared with it
only_there : (k : ℕ) (r : Rule) → map (λ (x : Rule). bytes_eq x.id r.id) serve_rules ≡ map (λ j. j == k) (range_with_len 0 (length serve_rules))
    → (j : ℕ) → j < length serve_rules → bytes_eq (slice_index_or serve_rules j r).id r.id ≡ true → j ≡ k
only_there k r compared j lt same =
    let at_place = get_or-map-range_with_len (λ i. i == k) 0 (length serve_rules) j j false lt (omega arith) in
    let is_place = sym (get_or-map (λ (x : Rule). bytes_eq x.id r.id) serve_rules j r false lt) ∙ (λ i. slice_index_or (compared i) j false) ∙ at_place in
    (Decides-eqb j k).0 (sym is_place ∙ same)

-- the rule at a place is that of an argument which takes a number in a range
module _ (k : ℕ) (r : Rule) (low high : ℕ) where
  ranged : k < length serve_rules → slice_index_or serve_rules k r ≡ r → map (λ (x : Rule). bytes_eq x.id r.id) serve_rules ≡ map (λ j. j == k) (range_with_len 0 (length serve_rules))
      → (1 ≤ low) × (high < 2 ^ 63) → r.parser ≡ Some (number_between low high) → (r.ignore_case ≡ false) × (r.action ≡ Some Set) × (r.range ≡ None)
      → (r.id ≡ [] → ⊥) × (bytes_eq r.id (codes "help") ≡ false) × (bytes_eq r.id (codes "version") ≡ false) → IsRanged serve_app k r low high
  unfolding clap_on_literals serve_rules
  ranged place here compared bounds parser takes named = record {
    ready = refl;
    leaves = refl;
    simple = refl;
    free = refl;
    place = place;
    here = here;
    parser = parser;
    case = takes.0;
    set = takes.1;
    range = takes.2;
    least = bounds.0;
    most = bounds.1;
    named = named.0;
    not_help = named.1;
    not_version = named.2;
    unique = only_there k r compared;
  }

port_ranged : IsRanged serve_app 1 port_rule 1 65535
unfolding clap_on_literals serve_rules
port_ranged = ranged 1 port_rule 1 65535 (omega arith) refl refl (omega arith, omega arith) refl (refl, refl, refl) ((λ empty. cc), refl, refl)

count_ranged : IsRanged serve_app 2 connections_rule 1 1000000
unfolding clap_on_literals serve_rules
count_ranged = ranged 2 connections_rule 1 1000000 (omega arith) refl refl (omega arith, omega arith) refl (refl, refl, refl) ((λ empty. cc), refl, refl)

patience_ranged : IsRanged serve_app 3 patience_rule 1 3600
unfolding clap_on_literals serve_rules
patience_ranged = ranged 3 patience_rule 1 3600 (omega arith) refl refl (omega arith, omega arith) refl (refl, refl, refl) ((λ empty. cc), refl, refl)

pub has_port : (c : Command) (r : Result ArgMatches Error) → app_of c ≡ serve_app → IfOk r (λ m. IsParsedFrom c m) → IfOk r (λ m. HasPort (rows_of (found_of m)))
has_port c (Ok m) is p = required_number c serve_app m p is 1 port_rule 1 65535 port_ranged refl refl
has_port c (Err e) is p = tt

pub has_connections : (c : Command) (r : Result ArgMatches Error) → app_of c ≡ serve_app → IfOk r (λ m. IsParsedFrom c m)
    → IfOk r (λ m. HasConnections (rows_of (found_of m)))
has_connections c (Ok m) is p = default_number c serve_app m p is 2 connections_rule 1 1000000 count_ranged (omega arith)
has_connections c (Err e) is p = tt

pub has_patience : (c : Command) (r : Result ArgMatches Error) → app_of c ≡ serve_app → IfOk r (λ m. IsParsedFrom c m)
    → IfOk r (λ m. HasPatience (rows_of (found_of m)))
has_patience c (Ok m) is p = default_number c serve_app m p is 3 patience_rule 1 3600 patience_ranged (omega arith)
has_patience c (Err e) is p = tt
