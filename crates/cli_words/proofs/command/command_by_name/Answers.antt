use Rattle.std.proofs.Common.{refl}
use Rattle.cli_words.specs.CommandLine.{check, init, migrate, serve, stdio, submit}
use Rattle.cli_words.proofs.CommandLineLemmas.{gives, gives_none}
use Rattle.cli_words.proofs.command.command_by_name.Goals as goal

pub returns-in-check : goal.returns-in-check
returns-in-check c = gives check c.args.words.now c.in-Some.name.now _ refl c.in-Some.ensures.value c.in-check.is c.check_command.ensures

pub returns-in-submit : goal.returns-in-submit
returns-in-submit c = gives submit c.args.words.now c.in-Some.name.now _ refl c.in-Some.ensures.value c.in-submit.is c.submit_command.ensures

pub returns-in-stdio : goal.returns-in-stdio
returns-in-stdio c = gives stdio c.args.words.now c.in-Some.name.now _ refl c.in-Some.ensures.value c.in-stdio.is c.stdio_command.ensures

pub returns-in-init : goal.returns-in-init
returns-in-init c = gives init c.args.words.now c.in-Some.name.now _ refl c.in-Some.ensures.value c.in-init.is c.init_command.ensures

pub returns-in-serve : goal.returns-in-serve
returns-in-serve c = gives serve c.args.words.now c.in-Some.name.now _ refl c.in-Some.ensures.value c.in-serve.is c.serve_command.ensures

pub returns-in-migrate : goal.returns-in-migrate
returns-in-migrate c = gives migrate c.args.words.now c.in-Some.name.now _ refl c.in-Some.ensures.value c.in-migrate.is c.migrate_command.ensures

pub returns-in_default-name : goal.returns-in_default-name
returns-in_default-name c =
    gives_none c.args.words.now c.in-Some.name.now _ c.in-Some.ensures.value c.in_default-name.not-check c.in_default-name.not-submit
    c.in_default-name.not-stdio c.in_default-name.not-init c.in_default-name.not-serve c.in_default-name.not-migrate c.unknown_command_fault.ensures
