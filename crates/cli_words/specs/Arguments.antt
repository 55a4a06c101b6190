-- The arguments that each command takes, by `clap`'s rules.
use Rattle.std.specs.Prelude.{◌≡◌, ℕ, pos, true, List, [], ◌∷◌, Some, codes, fold}
use Rattle.std.specs.Borrow.{Bor}
use Rattle.clap.specs.Words.{App, Rule, Text, app_of, new_app, new_rule, with_rule, with_subcommand}
use Rattle.clap.specs.Simple.{new_shape}
use Rattle.clap.specs.declared.builder.action.ArgAction.TheVariants.{Set}
use Rattle.clap.specs.declared.builder.command.Command.{Command}
use Rattle.clap.specs.declared.builder.value_parser.ValueParser.{ValueParser}
use Rattle.clap.specs.declared.builder.value_parser.ValueParser.TheVariants as parser

-- an argument that has to be there
abbrev pub required_argument : (id : Text) → Rule
required_argument id = record (new_rule id) { required = true; action = Some Set }

-- an argument that may be left out
abbrev pub argument : (id : Text) → Rule
argument id = record (new_rule id) { action = Some Set }

-- an option that has to be there, with its value, under a long name
abbrev pub required_option : (id name : Text) → Rule
required_option id name = record (required_argument id) { long = Some name }

-- a number in a range
abbrev pub number_between : (low high : ℕ) → ValueParser
number_between low high = parser.Signed (pos low) (pos high)

-- a port: 1 to 65,535
abbrev pub port_rule : Rule
port_rule = record (required_argument (codes "PORT")) { parser = Some (number_between 1 65535) }

-- a number of connections: 1 to 1,000,000, and 1,000 where it is left out
abbrev pub connections_rule : Rule
connections_rule = record (argument (codes "N")) {
  long = Some (codes "connections");
  parser = Some (number_between 1 1000000);
  defaults = codes "1000" ∷ [];
}

-- a number of seconds: 1 to 3,600, and 30 where it is left out
abbrev pub patience_rule : Rule
patience_rule = record (argument (codes "SECONDS")) {
  long = Some (codes "patience");
  parser = Some (number_between 1 3600);
  defaults = codes "30" ∷ [];
}

-- how often a commit syncs: a word, which `clap` does not test
abbrev pub sync_rule : Rule
sync_rule = record (argument (codes "WHEN")) { long = Some (codes "sync") }

-- a command with these arguments
abbrev pub app_with : (name : Text) → List Rule → App
app_with name rules = record { top = record (new_shape name) { rules = rules }; subs = [] }

-- a command with options more that have to be there, each with its identification and its long name
abbrev pub with_options : App → List (Text × Text) → App
with_options = fold (λ app option. with_rule app (required_option option.0 option.1))

-- an option of the code, by its identification and its long name
abbrev pub option_texts : Bor (List ℕ) × Bor (List ℕ) × Bor (List ℕ) → Text × Text
option_texts option = (option.0.now, option.1.now)

-- the arguments of `check`
abbrev pub check_rules : List Rule
check_rules = required_argument (codes "FILE") ∷ []

-- the arguments of `submit`
unfoldable pub submit_rules : List Rule
submit_rules =
    required_argument (codes "FILE")
    ∷ required_option (codes "COMPANY") (codes "company")
    ∷ required_option (codes "KEY") (codes "key")
    ∷ required_option (codes "REF") (codes "ref")
    ∷ required_option (codes "SEC") (codes "sec")
    ∷ required_option (codes "DIRECTION") (codes "direction")
    ∷ required_option (codes "TEXT") (codes "description")
    ∷ required_option (codes "DAY") (codes "day") ∷ []

-- the arguments of `stdio`
abbrev pub stdio_rules : List Rule
stdio_rules = argument (codes "DB") ∷ sync_rule ∷ []

-- the arguments of `init`
unfoldable pub init_rules : List Rule
init_rules =
    required_argument (codes "DB")
    ∷ required_option (codes "ODFI") (codes "odfi")
    ∷ required_option (codes "ODFI_NAME") (codes "odfi-name")
    ∷ required_option (codes "DESTINATION") (codes "destination")
    ∷ required_option (codes "DESTINATION_NAME") (codes "destination-name")
    ∷ required_option (codes "KEY") (codes "key") ∷ []

-- the arguments of `serve`
unfoldable pub serve_rules : List Rule
serve_rules = required_argument (codes "DB") ∷ port_rule ∷ connections_rule ∷ patience_rule ∷ sync_rule ∷ []

-- the commands
abbrev pub check_app : App
check_app = app_with (codes "achdesk check") check_rules

abbrev pub submit_app : App
submit_app = app_with (codes "achdesk submit") submit_rules

abbrev pub stdio_app : App
stdio_app = app_with (codes "achdesk stdio") stdio_rules

abbrev pub init_app : App
init_app = app_with (codes "achdesk init") init_rules

abbrev pub serve_app : App
serve_app = app_with (codes "achdesk serve") serve_rules

abbrev pub migrate_app : App
migrate_app = app_with (codes "achdesk migrate") (required_argument (codes "DB") ∷ [])

-- the program, which has a version, and whose words have to name a command
abbrev pub program_top : App
program_top =
    let program = new_app (codes "achdesk") in
    record program { top = record program.top { has_version = true; no_binary_name = true; subcommand_required = true } }

-- the program with the name of a command more
abbrev pub with_command : App → (name : Text) → App
with_command program name = with_subcommand program (new_app name).top

-- and with the names of commands more, one after another
abbrev pub with_commands : App → (names : List Text) → App
with_commands = fold with_command

-- a command of the code, by its name
abbrev pub name_text : Bor (List ℕ) × Bor (List ℕ) → Text
name_text command = command.0.now

-- the names of the commands, in the help's order
abbrev pub command_names : List Text
command_names = codes "check" ∷ codes "submit" ∷ codes "stdio" ∷ codes "init" ∷ codes "serve" ∷ codes "migrate" ∷ []

-- and with the names of its commands
abbrev pub program_app : App
program_app = with_commands program_top command_names

-- a command of `clap` that was built is this one
abbrev pub IsApp : App → Command → Type 0
IsApp app command = app_of command ≡ app
