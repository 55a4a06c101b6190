use Rattle.std.proofs.Common.{rules, ◌≡◌, ◌≢◌, Some, refl, sym, ap, ◌∙◌, arith, to_z, of_z}
use Rattle.std.specs.Int.{w64}
use Rattle.sqlite.specs.Held.{state}
use Rattle.sqlite.specs.State.{HasCleanDisk}
use Rattle.sql_setup.proofs.Refused.{found_as, says_found, says_none, unread, unread_error}
use Rattle.sql_setup.proofs.version.check_version.Goals as goal

pub returns-in-Ok-Some-2-clause-told : goal.returns-in-Ok-Some-2-clause-told
returns-in-Ok-Some-2-clause-told g c = λ clean.
    let was = c.args.conn.now in
    let left = c.found_version.new.conn in
    let whole : to_z w64 (of_z w64 c.in-Ok-Some.found) ≡ c.in-Ok-Some.found = search rules in
    let other : to_z w64 (of_z w64 c.in-Ok-Some.found) ≢ c.args.wanted = search rules in
    let found = found_as (state g.S.Store was) (state g.S.Store left) c.in-Ok-Some.field-0 (Some (to_z w64 (of_z w64 c.in-Ok-Some.found))) (c.in-Ok-Some.field-0-is ∙ ap Some (sym whole)) (c.in-Ok-Some.ensures.found clean) in
    (says_found g.S.Store was was left _ found.was_open refl found, other)

pub returns-in-Ok-None-clause-told : goal.returns-in-Ok-None-clause-told
returns-in-Ok-None-clause-told g c = λ clean.
    let was = c.args.conn.now in
    let mid = c.found_version.new.conn in
    let before : HasCleanDisk (state g.S.Store mid) = omega (arith, c.unread_fault.ensures.survives.clean, clean) in
    let found = found_as (state g.S.Store was) (state g.S.Store mid) c.in-Ok-None.field-0 _ c.in-Ok-None.field-0-is (c.in-Ok-None.ensures.found before) in
    unread g.S.Store was mid c.unread_fault.new.conn c.args.wanted (says_none g.S.Store was was mid found.was_open refl found)
    (c.found_version.ensures.stays before) c.found_version.ensures.survives c.unread_fault.result (c.unread_fault.ensures.told clean)

pub returns-in-Err-clause-told : goal.returns-in-Err-clause-told
returns-in-Err-clause-told g c = λ clean.
    let was = c.args.conn.now in
    let mid = c.found_version.new.conn in
    let left = c.unread_fault-in-Err.new.conn in
    let before : HasCleanDisk (state g.S.Store mid) = omega (arith, c.unread_fault-in-Err.ensures.survives.clean, clean) in
    unread_error g.S.Store was mid left c.args.wanted c.in-Err.error (c.in-Err.ensures.failed c.requires before)
    (c.found_version.ensures.stays before) c.found_version.ensures.survives c.unread_fault-in-Err.ensures.survives c.unread_fault-in-Err.result (c.unread_fault-in-Err.ensures.told clean)
