use Rattle.std.proofs.Common.{rules, IsTrue, arith, inr, pos}
use Rattle.sqlite.specs.Held.{state}
use Rattle.sqlite.specs.State.{HasCleanDisk}
use Rattle.sql_setup.proofs.Refused.{refused, says_shown}
use Rattle.sql_setup.specs.declared.fault.DeskFault.TheVariants.{Failed}
use Rattle.sql_migration.specs.FirstVersion.{first_version}
use Rattle.sql_migration.proofs.FirstChecks.{was_first}
use Rattle.sql_migration.proofs.MigrationMade.{has_migrated, left_migrated}
use Rattle.sql_migration.proofs.body.migrate.Goals as goal

pub returns-in-Ok-clause-migrated : goal.returns-in-Ok-clause-migrated
returns-in-Ok-clause-migrated g c clean =
    let old = state g.S.Store c.args.conn.now in
    let mid = state g.S.Store c.check_first.new.conn in
    let new = state g.S.Store c.commit.new.conn in
    let free : IsTrue c.is_autocommit.result = search rules in
    let before : HasCleanDisk mid = omega (arith, c.commit.ensures.survives.clean, clean) in
    has_migrated old mid new (c.is_autocommit.ensures.settled free) c.in_ok-check_first.ensures.stays c.in_ok-check_first.ensures.checked c.unauthorized_books.ensures before (c.in-Ok.ensures.done clean)

pub returns-in-Ok-clause-first : goal.returns-in-Ok-clause-first
returns-in-Ok-clause-first g c clean =
    let before : HasCleanDisk (state g.S.Store c.check_first.new.conn) = omega (arith, c.commit.ensures.survives.clean, clean) in
    was_first (state g.S.Store c.args.conn.now) (state g.S.Store c.check_first.new.conn) (c.in_ok-check_first.ensures.version before)

pub returns-in-Err-clause-refused : goal.returns-in-Err-clause-refused
returns-in-Err-clause-refused g c =
    refused g.S.Store first_version c.args.conn.now c.commit.new.conn (Failed c.in-Err.error) (λ clean.
    let before : HasCleanDisk (state g.S.Store c.check_first.new.conn) = omega (arith, c.commit.ensures.survives.clean, clean) in
    inr (says_shown g.S.Store c.args.conn.now c.check_first.new.conn (pos first_version) (c.in_ok-check_first.ensures.version before)))

pub returns-in-Ok-clause-survives : goal.returns-in-Ok-clause-survives
returns-in-Ok-clause-survives g c =
    let old = state g.S.Store c.args.conn.now in
    let mid = state g.S.Store c.check_first.new.conn in
    let new = state g.S.Store c.commit.new.conn in
    let free : IsTrue c.is_autocommit.result = search rules in
    left_migrated old mid new (c.is_autocommit.ensures.settled free) c.in_ok-check_first.ensures.stays c.in_ok-check_first.ensures.checked c.in_ok-check_first.ensures.survives c.in-Ok.ensures.survives

pub returns-in-Err-clause-survives : goal.returns-in-Err-clause-survives
returns-in-Err-clause-survives g c =
    let old = state g.S.Store c.args.conn.now in
    let mid = state g.S.Store c.check_first.new.conn in
    let new = state g.S.Store c.commit.new.conn in
    let free : IsTrue c.is_autocommit.result = search rules in
    left_migrated old mid new (c.is_autocommit.ensures.settled free) c.in_ok-check_first.ensures.stays c.in_ok-check_first.ensures.checked c.in_ok-check_first.ensures.survives c.in-Err.ensures.survives
