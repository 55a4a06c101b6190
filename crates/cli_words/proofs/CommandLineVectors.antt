-- Words of the command line, and what they come to: the checker computes each.
use Rattle.std.proofs.Common.{◌≡◌, [], ◌∷◌, List, Some, None, codes, refl}
use Rattle.clap.specs.Words.{Text}
use Rattle.clap.specs.declared.error.kind.ErrorKind.TheVariants as kind
use Rattle.clap.proofs.OnLiterals.{clap_on_literals}
use Rattle.cli_words.specs.Arguments.{init_rules, serve_rules, submit_rules}
use Rattle.cli_words.specs.CommandLine.{AnswerByFile, AnswerMessages, AnswerSubmission, Check, Init, Migrate, NamedCommand, Serve, Submit, kinds_at, named_by, named_command, spelled_out}
use Rattle.cli_words.specs.declared.syncs.Syncs.TheVariants.{Once, Twice}

no_words : named_command [] ≡ Some AnswerSubmission
no_words = refl

check_of_a_path : named_command (codes "check" ∷ codes "returns.ach" ∷ []) ≡ Some (Check (codes "returns.ach"))
unfolding clap_on_literals named_by
check_of_a_path = refl

check_of_a_dash : named_command (codes "check" ∷ codes "--" ∷ codes "-h" ∷ []) ≡ Some (Check (codes "-h"))
unfolding clap_on_literals named_by
check_of_a_dash = refl

check_of_two_paths : named_command (codes "check" ∷ codes "a" ∷ codes "b" ∷ []) ≡ None
unfolding clap_on_literals named_by
check_of_two_paths = refl

help_of_the_program : kinds_at (codes "--help" ∷ []) ≡ kind.DisplayHelp ∷ []
unfolding clap_on_literals kinds_at
help_of_the_program = refl

short_help : kinds_at (codes "-h" ∷ []) ≡ kind.DisplayHelp ∷ []
unfolding clap_on_literals kinds_at
short_help = refl

version : kinds_at (codes "--version" ∷ []) ≡ kind.DisplayVersion ∷ []
unfolding clap_on_literals kinds_at
version = refl

short_version : kinds_at (codes "-V" ∷ []) ≡ kind.DisplayVersion ∷ []
unfolding clap_on_literals kinds_at
short_version = refl

-- the version is the program's: a command has none
version_of_a_command : kinds_at (codes "check" ∷ codes "--version" ∷ []) ≡ kind.UnknownArgument ∷ []
unfolding clap_on_literals kinds_at
version_of_a_command = refl

help_of_a_command : kinds_at (codes "check" ∷ codes "a" ∷ codes "--help" ∷ []) ≡ kind.DisplayHelp ∷ []
unfolding clap_on_literals kinds_at
help_of_a_command = refl

no_path : kinds_at (codes "check" ∷ []) ≡ kind.MissingRequiredArgument ∷ []
unfolding clap_on_literals kinds_at
no_path = refl

one_path_more : kinds_at (codes "check" ∷ codes "a" ∷ codes "b" ∷ []) ≡ kind.UnknownArgument ∷ []
unfolding clap_on_literals kinds_at
one_path_more = refl

no_such_flag : kinds_at (codes "--fast" ∷ []) ≡ kind.UnknownArgument ∷ []
unfolding clap_on_literals kinds_at
no_such_flag = refl

-- the words of a pay run, as its company may write them
pay_options : List Text
pay_options =
    codes "--company" ∷ codes "MILL01" ∷ codes "--key" ∷ codes "mill-street-key" ∷ codes "--ref" ∷ codes "PAY-1" ∷ codes "--sec" ∷ codes "PPD"
    ∷ codes "--direction" ∷ codes "credit" ∷ codes "--description" ∷ codes "PAYROLL" ∷ codes "--day" ∷ codes "2025-01-10" ∷ []

pay : NamedCommand
pay = Submit (codes "pay.csv") (record {
  company = codes "MILL01";
  key = codes "mill-street-key";
  reference = codes "PAY-1";
  sec = codes "PPD";
  direction = codes "credit";
  description = codes "PAYROLL";
  day = codes "2025-01-10";
})

submit_of_a_list : named_command (codes "submit" ∷ codes "pay.csv" ∷ pay_options) ≡ Some pay
unfolding clap_on_literals named_by submit_rules pay_options pay
submit_of_a_list = refl

stdio_alone : named_command (codes "stdio" ∷ []) ≡ Some AnswerMessages
unfolding clap_on_literals named_by
stdio_alone = refl

stdio_with_a_path : named_command (codes "stdio" ∷ codes "desk.db" ∷ []) ≡ Some (AnswerByFile (codes "desk.db") Twice)
unfolding clap_on_literals named_by
stdio_with_a_path = refl

stdio_that_syncs_once : named_command (codes "stdio" ∷ codes "--sync" ∷ codes "once" ∷ codes "desk.db" ∷ []) ≡ Some (AnswerByFile (codes "desk.db") Once)
unfolding clap_on_literals named_by
stdio_that_syncs_once = refl

stdio_that_syncs_twice : named_command (codes "stdio" ∷ codes "desk.db" ∷ codes "--sync=twice" ∷ []) ≡ Some (AnswerByFile (codes "desk.db") Twice)
unfolding clap_on_literals named_by
stdio_that_syncs_twice = refl

-- a desk in memory has no file to sync
stdio_that_syncs_no_file : named_command (codes "stdio" ∷ codes "--sync" ∷ codes "once" ∷ []) ≡ None
unfolding clap_on_literals named_by
stdio_that_syncs_no_file = refl

stdio_that_syncs_thrice : named_command (codes "stdio" ∷ codes "desk.db" ∷ codes "--sync" ∷ codes "thrice" ∷ []) ≡ None
unfolding clap_on_literals named_by
stdio_that_syncs_thrice = refl

no_word_of_sync : kinds_at (codes "stdio" ∷ codes "desk.db" ∷ codes "--sync" ∷ []) ≡ kind.InvalidValue ∷ []
unfolding clap_on_literals kinds_at
no_word_of_sync = refl

stdio_with_two_paths : kinds_at (codes "stdio" ∷ codes "desk.db" ∷ codes "more.db" ∷ []) ≡ kind.UnknownArgument ∷ []
unfolding clap_on_literals kinds_at
stdio_with_two_paths = refl

-- a word that may be taken for a command or an argument
no_such_command : kinds_at (codes "bogus" ∷ []) ≡ kind.UnknownArgument ∷ kind.InvalidSubcommand ∷ []
unfolding clap_on_literals kinds_at
no_such_command = refl

-- `help` gives help, or refuses a command that it does not know
help_as_a_word : kinds_at (codes "help" ∷ []) ≡ kind.DisplayHelp ∷ kind.InvalidSubcommand ∷ []
unfolding clap_on_literals kinds_at
help_as_a_word = refl

help_before_a_command : spelled_out (codes "help" ∷ codes "serve" ∷ []) ≡ codes "serve" ∷ codes "--help" ∷ []
help_before_a_command = refl

help_after_a_command : kinds_at (codes "serve" ∷ codes "--help" ∷ []) ≡ kind.DisplayHelp ∷ []
unfolding clap_on_literals kinds_at serve_rules
help_after_a_command = refl

help_of_no_command : kinds_at (spelled_out (codes "help" ∷ codes "bogus" ∷ [])) ≡ kind.UnknownArgument ∷ kind.InvalidSubcommand ∷ []
unfolding clap_on_literals kinds_at
help_of_no_command = refl

-- other words are read without change
help_of_help : spelled_out (codes "help" ∷ codes "help" ∷ []) ≡ codes "help" ∷ codes "help" ∷ []
help_of_help = refl

help_of_two_words : spelled_out (codes "help" ∷ codes "check" ∷ codes "a" ∷ []) ≡ codes "help" ∷ codes "check" ∷ codes "a" ∷ []
help_of_two_words = refl

check_of_help : spelled_out (codes "check" ∷ codes "help" ∷ []) ≡ codes "check" ∷ codes "help" ∷ []
check_of_help = refl

-- the words of a new desk
bank_options : List Text
bank_options =
    codes "--odfi" ∷ codes "121042882" ∷ codes "--odfi-name" ∷ codes "OUR BANK" ∷ codes "--destination" ∷ codes "061000146"
    ∷ codes "--destination-name" ∷ codes "ACH OPERATOR" ∷ codes "--key" ∷ codes "operator-key" ∷ []

bank : NamedCommand
bank = Init (codes "desk.db") (record {
  odfi = codes "121042882";
  odfi_name = codes "OUR BANK";
  destination = codes "061000146";
  destination_name = codes "ACH OPERATOR";
  key = codes "operator-key";
})

init_of_a_path : named_command (codes "init" ∷ codes "desk.db" ∷ bank_options) ≡ Some bank
unfolding clap_on_literals named_by init_rules bank_options bank
init_of_a_path = refl

-- a server takes a thousand connections and waits for 30 seconds where the words say no other number
serve_by_default : named_command (codes "serve" ∷ codes "desk.db" ∷ codes "8080" ∷ []) ≡ Some (Serve (codes "desk.db") 8080 1000 30 Twice)
unfolding clap_on_literals named_by serve_rules
serve_by_default = refl

serve_so_many : named_command (codes "serve" ∷ codes "desk.db" ∷ codes "65535" ∷ codes "--connections" ∷ codes "1000000" ∷ []) ≡ Some (Serve (codes "desk.db") 65535 1000000 30 Twice)
unfolding clap_on_literals named_by serve_rules
serve_so_many = refl

serve_one : named_command (codes "serve" ∷ codes "--connections=1" ∷ codes "desk.db" ∷ codes "1" ∷ []) ≡ Some (Serve (codes "desk.db") 1 1 30 Twice)
unfolding clap_on_literals named_by serve_rules
serve_one = refl

serve_at_no_port : named_command (codes "serve" ∷ codes "desk.db" ∷ codes "0" ∷ []) ≡ None
unfolding clap_on_literals named_by serve_rules
serve_at_no_port = refl

port_zero : kinds_at (codes "serve" ∷ codes "desk.db" ∷ codes "0" ∷ []) ≡ kind.ValueValidation ∷ []
unfolding clap_on_literals kinds_at serve_rules
port_zero = refl

port_too_large : kinds_at (codes "serve" ∷ codes "desk.db" ∷ codes "65536" ∷ []) ≡ kind.ValueValidation ∷ []
unfolding clap_on_literals kinds_at serve_rules
port_too_large = refl

port_of_letters : kinds_at (codes "serve" ∷ codes "desk.db" ∷ codes "http" ∷ []) ≡ kind.ValueValidation ∷ []
unfolding clap_on_literals kinds_at serve_rules
port_of_letters = refl

no_port : kinds_at (codes "serve" ∷ codes "desk.db" ∷ []) ≡ kind.MissingRequiredArgument ∷ []
unfolding clap_on_literals kinds_at serve_rules
no_port = refl

no_connections : kinds_at (codes "serve" ∷ codes "desk.db" ∷ codes "8080" ∷ codes "--connections" ∷ codes "0" ∷ []) ≡ kind.ValueValidation ∷ []
unfolding clap_on_literals kinds_at serve_rules
no_connections = refl

too_many_connections : kinds_at (codes "serve" ∷ codes "desk.db" ∷ codes "8080" ∷ codes "--connections" ∷ codes "1000001" ∷ []) ≡ kind.ValueValidation ∷ []
unfolding clap_on_literals kinds_at serve_rules
too_many_connections = refl

serve_patiently : named_command (codes "serve" ∷ codes "desk.db" ∷ codes "8080" ∷ codes "--patience" ∷ codes "3600" ∷ []) ≡ Some (Serve (codes "desk.db") 8080 1000 3600 Twice)
unfolding clap_on_literals named_by serve_rules
serve_patiently = refl

no_patience : kinds_at (codes "serve" ∷ codes "desk.db" ∷ codes "8080" ∷ codes "--patience" ∷ codes "0" ∷ []) ≡ kind.ValueValidation ∷ []
unfolding clap_on_literals kinds_at serve_rules
no_patience = refl

too_much_patience : kinds_at (codes "serve" ∷ codes "desk.db" ∷ codes "8080" ∷ codes "--patience" ∷ codes "3601" ∷ []) ≡ kind.ValueValidation ∷ []
unfolding clap_on_literals kinds_at serve_rules
too_much_patience = refl

serve_that_syncs_once : named_command (codes "serve" ∷ codes "desk.db" ∷ codes "8080" ∷ codes "--sync=once" ∷ []) ≡ Some (Serve (codes "desk.db") 8080 1000 30 Once)
unfolding clap_on_literals named_by serve_rules
serve_that_syncs_once = refl

serve_that_syncs_twice : named_command (codes "serve" ∷ codes "desk.db" ∷ codes "8080" ∷ codes "--sync" ∷ codes "twice" ∷ []) ≡ Some (Serve (codes "desk.db") 8080 1000 30 Twice)
unfolding clap_on_literals named_by serve_rules
serve_that_syncs_twice = refl

serve_that_never_syncs : named_command (codes "serve" ∷ codes "desk.db" ∷ codes "8080" ∷ codes "--sync" ∷ codes "never" ∷ []) ≡ None
unfolding clap_on_literals named_by serve_rules
serve_that_never_syncs = refl

-- `migrate` has no such option: it syncs twice
migrate_that_syncs_once : kinds_at (codes "migrate" ∷ codes "desk.db" ∷ codes "--sync=once" ∷ []) ≡ kind.UnknownArgument ∷ []
unfolding clap_on_literals kinds_at
migrate_that_syncs_once = refl

migrate_of_a_path : named_command (codes "migrate" ∷ codes "desk.db" ∷ []) ≡ Some (Migrate (codes "desk.db"))
unfolding clap_on_literals named_by serve_rules
migrate_of_a_path = refl

migrate_of_no_path : kinds_at (codes "migrate" ∷ []) ≡ kind.MissingRequiredArgument ∷ []
unfolding clap_on_literals kinds_at serve_rules
migrate_of_no_path = refl

migrate_of_two_paths : kinds_at (codes "migrate" ∷ codes "desk.db" ∷ codes "more.db" ∷ []) ≡ kind.UnknownArgument ∷ []
unfolding clap_on_literals kinds_at serve_rules
migrate_of_two_paths = refl
