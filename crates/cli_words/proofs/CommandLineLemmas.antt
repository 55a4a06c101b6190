-- The command that words name, by a parse with `clap`'s rules.
use Rattle.std.proofs.Common.{ℕ, ◌≤◌, ◌≡◌, ◌≢◌, Bool, true, false, Bor, map, List, Result, Ok, Err, IfOk, IsErrAnd, OnErr, refl, sym, ap, ◌∙◌, subst, inl, inr, [], ◌∷◌, Some, None, Option, codes, unwrap_or, slice_get}
use Rattle.std.specs.Str.{bytes_eq}
use Rattle.std.specs.Prelude.{◌&&◌, if◌then◌else◌}
use Rattle.std.proofs.lemmas.Bool.{and_parts, cases_Bool, le-leb}
use Rattle.std.proofs.lemmas.Slice.Eq.{bytes_eq-Decides}
use Rattle.clap.specs.Kinds.{Kinds, HasKind, IsAmong, FailsBy}
use Rattle.clap.specs.Words.{App, Row, Rule, Text, HasMatchesOf, app_of, fault_of, is_simple, is_simple_and_free, kind_of, first_value, found_of, matches_of, rows_of, with_rule}
use Rattle.clap.specs.declared.builder.command.Command.{Command as ClapCommand}
use Rattle.clap.specs.declared.error.kind.ErrorKind.{ErrorKind}
use Rattle.clap.specs.declared.error.kind.ErrorKind.TheVariants as kind
use Rattle.clap.specs.declared.error.Error.{Error}
use Rattle.clap.specs.declared.parser.matches.ArgMatches.{ArgMatches}
use Rattle.clap.proofs.OnLiterals.{clap_on_literals}
use Rattle.clap.proofs.WalkLemmas.{first_value-rows}
use Rattle.cli_words.specs.Arguments.{check_app, init_app, init_rules, migrate_app, program_app, serve_app, serve_rules, stdio_app, submit_app, submit_rules}
use Rattle.cli_words.specs.CommandLine.{Form, Gives, GivesBy, GivesIn, HasConnections, HasNumber, HasPatience, HasPort, IsFaultAmong, IsFaultOf, NamedCommand, Parses, Serve, form_of, has_no_kind, is_between, kinds_at, named_by, named_command, number_in, number_of, program, serve, server, session_with, stdio, sync_word, text_in}
use Rattle.cli_words.specs.SyncWords.{syncs_by}
use Rattle.cli_words.specs.declared.command.Command.{Command}
use Rattle.cli_words.specs.declared.command.LineFault.{LineFault}
use Rattle.cli_words.specs.declared.command.LineFault.TheVariants.{Help, Version, Usage, NoMemory}
use Rattle.cli_words.specs.declared.syncs.Syncs.{Syncs}

-- the rules of each form are some that `clap` follows
pub check_free : is_simple_and_free check_app ≡ true
unfolding clap_on_literals
check_free = refl

pub submit_free : is_simple_and_free submit_app ≡ true
unfolding clap_on_literals submit_rules
submit_free = refl

pub stdio_free : is_simple_and_free stdio_app ≡ true
unfolding clap_on_literals
stdio_free = refl

pub init_free : is_simple_and_free init_app ≡ true
unfolding clap_on_literals init_rules
init_free = refl

pub serve_free : is_simple_and_free serve_app ≡ true
unfolding clap_on_literals serve_rules
serve_free = refl

pub migrate_free : is_simple_and_free migrate_app ≡ true
unfolding clap_on_literals
migrate_free = refl

pub program_free : is_simple_and_free program_app ≡ true
unfolding clap_on_literals
program_free = refl

-- a command to which another step adds an argument
pub with_more : (app : App) (rule : Rule) (old new : ClapCommand) → app_of old ≡ app → app_of new ≡ with_rule (app_of old) rule → app_of new ≡ with_rule app rule
with_more app rule old new is more = more ∙ ap (λ (a : App). with_rule a rule) is

parses : (app : App) (words : List Text) (r : Result ArgMatches Error) → is_simple app ≡ true → is_simple_and_free app ≡ true
    → IfOk r (HasMatchesOf app words) → (is_simple_and_free app ≡ true → FailsBy (fault_of app words) r) → Parses app words r
parses app words (Ok m) simple free matches kinds = (kinds free, (matches simple).0)
parses app words (Err e) simple free matches kinds = kinds free

-- what a parse gives by a command whose rules are known
pub parses_as : (app given : App) (words : List Text) (r : Result ArgMatches Error) → given ≡ app → is_simple_and_free app ≡ true
    → IfOk r (HasMatchesOf given words) → (is_simple_and_free given ≡ true → FailsBy (fault_of given words) r) → Parses app words r
parses_as app given words r is free matches kinds =
    let here : is_simple_and_free given ≡ true = ap is_simple_and_free is ∙ free in
    subst (λ (a : App). Parses a words r) is (parses given words r (and_parts _ _ here).0 here matches kinds)

pub text_in-rows : (m : ArgMatches) (id : Text) → unwrap_or (first_value (found_of m) id) [] ≡ text_in id (rows_of (found_of m))
text_in-rows m id = ap (λ (o : Option Text). unwrap_or o []) (first_value-rows (found_of m) id)

-- the words name the command of the matches
pub given : (form : Form) (words : List Text) (m : ArgMatches) (c : NamedCommand) → Parses form.app words (Ok m) → form.names (rows_of (found_of m)) ≡ Some c
    → named_by form words ≡ Some c
unfolding named_by
given form words m c h is = rw h.0 (ap form.names (sym h.1) ∙ is)

-- what is given by the matches of a form is what the words give
pub given_by_matches : (form : Form) (words : List Text) (m : ArgMatches) (r : Result Command LineFault) → Parses form.app words (Ok m)
    → Gives (form.names (rows_of (found_of m))) [] r → GivesIn form words r
unfolding named_by
given_by_matches form words m r h gives =
    subst (λ (kinds : Kinds). Gives (if has_no_kind kinds then form.names (matches_of form.app words) else None) kinds r) (sym h.0)
    (subst (λ (rows : List Row). Gives (form.names rows) [] r) h.1 gives)

-- what `stdio` is given by the path and the word of `--sync` that were found
pub session_given : (words : List Text) (m : ArgMatches) (path word : Option Text) (r : Result Command LineFault) → Parses stdio.app words (Ok m)
    → path ≡ first_value (found_of m) (codes "DB") → word ≡ first_value (found_of m) (codes "WHEN") → Gives (session_with path word) [] r → GivesIn stdio words r
session_given words m path word r h is_path is_word gives =
    given_by_matches stdio words m r h
    (subst (λ (o : Option Text). Gives (session_with o (sync_word (rows_of (found_of m)))) [] r) (is_path ∙ first_value-rows (found_of m) (codes "DB"))
    (subst (λ (o : Option Text). Gives (session_with path o) [] r) (is_word ∙ first_value-rows (found_of m) (codes "WHEN")) gives))

-- how often a commit syncs, by the word of `--sync` that was found
pub synced_by : (m : ArgMatches) (word : Option Text) (o : Option Syncs) → word ≡ first_value (found_of m) (codes "WHEN") → syncs_by word ≡ o
    → syncs_by (sync_word (rows_of (found_of m))) ≡ o
synced_by m word o is said = subst (λ (w : Option Text). syncs_by w ≡ o) (is ∙ first_value-rows (found_of m) (codes "WHEN")) said

lies_between : (low high n : ℕ) → low ≤ n → n ≤ high → is_between low high n ≡ true
lies_between low high n least most = rw (le-leb low n least, le-leb n high most) refl

number_between : (low high : ℕ) (id : Text) (rows : List Row) → HasNumber low high id rows → is_between low high (number_in id rows) ≡ true
number_between low high id rows h =
    subst (λ (o : Option Text). is_between low high (number_of (unwrap_or o [])) ≡ true) (sym h.1) (lies_between low high (number_of h.0) h.2.2 h.2.3)

is_server : (path : Text) (port connections patience : ℕ) (syncs : Syncs) → is_between 1 65535 port ≡ true → is_between 1 1000000 connections ≡ true
    → is_between 1 3600 patience ≡ true → server path port connections patience (Some syncs) ≡ Some (Serve path port connections patience syncs)
is_server path port connections patience syncs a b c = rw (a, b, c) refl

pub server_given : (rows : List Row) (path : Text) (port connections patience : ℕ) (syncs : Syncs) → HasPort rows → HasConnections rows → HasPatience rows
    → path ≡ text_in (codes "DB") rows → port ≡ number_in (codes "PORT") rows → connections ≡ number_in (codes "N") rows → patience ≡ number_in (codes "SECONDS") rows
    → syncs_by (sync_word rows) ≡ Some syncs → serve.names rows ≡ Some (Serve path port connections patience syncs)
server_given rows path port connections patience syncs has_port has_connections has_patience e f g i word =
    rw (e, f, g, i, word)
    (is_server (text_in (codes "DB") rows) (number_in (codes "PORT") rows) (number_in (codes "N") rows) (number_in (codes "SECONDS") rows) syncs
    (number_between 1 65535 (codes "PORT") rows has_port) (number_between 1 1000000 (codes "N") rows has_connections)
    (number_between 1 3600 (codes "SECONDS") rows has_patience))

either_way : (b : Bool) (none : Option NamedCommand) → (if b then none else none) ≡ none
either_way true none = refl
either_way false none = refl

no_server : (rows : List Row) → syncs_by (sync_word rows) ≡ None → serve.names rows ≡ None
no_server rows none =
    rw none
    (either_way (is_between 1 65535 (number_in (codes "PORT") rows) && is_between 1 1000000 (number_in (codes "N") rows) && is_between 1 3600 (number_in (codes "SECONDS") rows))
    None)

-- what `serve` is given if `--sync` does not take the word that was found
pub server_refused : (words : List Text) (m : ArgMatches) (fault : LineFault) (r : Result Command LineFault) → Parses serve.app words (Ok m)
    → syncs_by (sync_word (rows_of (found_of m))) ≡ None → IsFaultAmong [] fault → IsErrAnd r (λ e. e ≡ fault) → GivesIn serve words r
server_refused words m fault (Ok c) h none among is = absurd is
server_refused words m fault (Err e) h none among is =
    subst (λ (f : LineFault). GivesIn serve words (Err f)) (sym is)
    (given_by_matches serve words m (Err fault) h (inr (no_server (rows_of (found_of m)) none), among))

help_for_memory : (k : ErrorKind) → k ≡ kind.OutOfMemory → k ≡ kind.DisplayHelp → ⊥
help_for_memory k memory help = cc

version_for_memory : (k : ErrorKind) → k ≡ kind.OutOfMemory → k ≡ kind.DisplayVersion → ⊥
version_for_memory k memory version = cc

other_than_one : (k other : ErrorKind) (kinds : Kinds) → IsAmong k kinds → k ≢ other → kinds ≡ other ∷ [] → ⊥
other_than_one k other kinds one apart only =
    elim (subst (IsAmong k) only one) [
      | inl is ↦ apart is
      | inr none ↦ none
    ]

-- an error of one of the kinds, as a fault
pub among : (kinds : Kinds) (e : Error) (fault : LineFault) → HasKind kinds e → IsFaultOf (kind_of e) fault → IsFaultAmong kinds fault
among kinds e (Help text) (inl memory) is = absurd (help_for_memory (kind_of e) memory is)
among kinds e (Help text) (inr one) is = subst (λ k. IsAmong k kinds) is one
among kinds e Version (inl memory) is = absurd (version_for_memory (kind_of e) memory is)
among kinds e Version (inr one) is = subst (λ k. IsAmong k kinds) is one
among kinds e (Usage text) (inl memory) is = absurd (is.2 memory)
among kinds e (Usage text) (inr one) is = (
  λ only. other_than_one (kind_of e) kind.DisplayHelp kinds one is.0 only,
  λ only. other_than_one (kind_of e) kind.DisplayVersion kinds one is.1 only,
)
among kinds e NoMemory has is = tt

-- and if there is no error
pub among_none : (kinds : Kinds) → kinds ≡ [] → (kinds ≢ kind.DisplayHelp ∷ []) × (kinds ≢ kind.DisplayVersion ∷ [])
among_none kinds none = (λ only. let no : ⊥ = cc in no, λ only. let no : ⊥ = cc in no)

memory_fault : (k : ErrorKind) (fault : LineFault) → k ≡ kind.OutOfMemory → IsFaultOf k fault → fault ≡ NoMemory
memory_fault k (Help text) memory is = absurd (help_for_memory k memory is)
memory_fault k Version memory is = absurd (version_for_memory k memory is)
memory_fault k (Usage text) memory is = absurd (is.2 memory)
memory_fault k NoMemory memory is = refl

some_kind : (kinds : Kinds) (k : ErrorKind) → IsAmong k kinds → has_no_kind kinds ≡ false
some_kind [] k h = absurd h
some_kind (x ∷ xs) k h = refl

named_by-none : (form : Form) (words : List Text) → has_no_kind (fault_of form.app words) ≡ false → named_by form words ≡ None
unfolding named_by
named_by-none form words h = rw h refl

-- an error of `clap` for a form's arguments, as a fault
pub refused : (form : Form) (words : List Text) (e : Error) (fault : LineFault) → Parses form.app words (Err e) → IsFaultOf (kind_of e) fault → GivesIn form words (Err fault)
refused form words e fault (inl memory) is =
    (inl (memory_fault (kind_of e) fault memory is), among (fault_of form.app words) e fault (inl memory) is)
refused form words e fault (inr one) is =
    (inr (named_by-none form words (some_kind (fault_of form.app words) (kind_of e) one)), among (fault_of form.app words) e fault (inr one) is)

-- the words that the first one sends to a command's rules
abbrev pub texts_of : List (Bor Text) → List Text
texts_of words = map (λ w. w.now) words

kinds_at-first : (word : Text) (rest : List Text) → kinds_at (word ∷ rest) ≡ fault_of (form_of word).app (word ∷ rest)
unfolding kinds_at
kinds_at-first word rest = refl

first_now : (x name : Bor Text) (xs : List (Bor Text)) → Some name ≡ slice_get (x ∷ xs) 0 → name.now ≡ x.now
first_now x name xs a = let one : name ≡ x = cc in ap (λ (w : Bor Text). w.now) one

on_err : {A E : Type 0} (P : Type 0) (r : Result A E) → P → OnErr r P
on_err P (Ok x) p = tt
on_err P (Err e) p = p

-- words whose first one is that of a form
gives_at : (x : Text) (xs : List Text) (form : Form) (r : Result Command LineFault) → form_of x ≡ form → GivesIn form (x ∷ xs) r → GivesBy (x ∷ xs) r
gives_at x xs form r is g = (
  subst (λ (k : Kinds). Gives (named_command (x ∷ xs)) k r) (sym (kinds_at-first x xs)) (subst (λ (f : Form). GivesIn f (x ∷ xs) r) (sym is) g),
  on_err (x ∷ xs ≢ []) r (λ e. let no : ⊥ = cc in no),
)

pub gives : (form : Form) (words : List (Bor Text)) (name : Bor Text) (r : Result Command LineFault) → form_of form.word ≡ form → Some name ≡ slice_get words 0
    → name.now ≡ form.word → GivesIn form (texts_of words) r → GivesBy (texts_of words) r
gives form [] name r own a is g = absurd (let no : ⊥ = cc in no)
gives form (x ∷ xs) name r own a is g = gives_at x.now (texts_of xs) form r (ap form_of (sym (first_now x name xs a) ∙ is) ∙ own) g

-- a first word is not that of a form
is_not : (word x name : Text) → name ≡ x → ¬ (name ≡ word) → bytes_eq x word ≡ false
is_not word x name same apart =
    elim (cases_Bool (bytes_eq x word)) [
      | inl equal ↦ absurd (apart (same ∙ (bytes_eq-Decides x word).0 equal))
      | inr other ↦ other
    ]

pub program_names_none : (words : List Text) → named_by program words ≡ None
unfolding named_by
program_names_none words = either_way (has_no_kind (fault_of program_app words)) None

-- words after one that names no command
pub gives_none : (words : List (Bor Text)) (name : Bor Text) (fault : LineFault) → Some name ≡ slice_get words 0
    → ¬ (name.now ≡ codes "check") → ¬ (name.now ≡ codes "submit") → ¬ (name.now ≡ codes "stdio") → ¬ (name.now ≡ codes "init") → ¬ (name.now ≡ codes "serve") → ¬ (name.now ≡ codes "migrate")
    → IsFaultAmong (fault_of program_app (texts_of words)) fault → GivesBy (texts_of words) (Err fault)
gives_none [] name fault a not_check not_submit not_stdio not_init not_serve not_migrate is = absurd (let no : ⊥ = cc in no)
gives_none (x ∷ xs) name fault a not_check not_submit not_stdio not_init not_serve not_migrate is =
    let same : name.now ≡ x.now = first_now x name xs a in
    let apart = λ (word : Text) (h : ¬ (name.now ≡ word)). is_not word x.now name.now same h in
    let own : form_of x.now ≡ program =
    rw (apart (codes "check") not_check, apart (codes "submit") not_submit, apart (codes "stdio") not_stdio, apart (codes "init") not_init, apart (codes "serve") not_serve, apart (codes "migrate") not_migrate)
    refl in
    gives_at x.now (texts_of xs) program (Err fault) own (inr (program_names_none (texts_of (x ∷ xs))), is)
