use Rattle.std.proofs.Common.{rules, ◌≡◌, ◌≢◌, IsTrue, inl, inr, refl, subst, []}
use Rattle.sqlite.specs.Held.{state}
use Rattle.sql_setup.specs.Refusals.{Showed}
use Rattle.sql_setup.specs.Versions.{row_text}
use Rattle.sql_setup.proofs.Refused.{showed, fails_to_ask, survives_itself}
use Rattle.sql_setup.proofs.version.unread_fault.Goals as goal

pub returns-in-Ok-true-clause-told : goal.returns-in-Ok-true-clause-told
returns-in-Ok-true-clause-told g c = λ clean.
    let was = c.args.conn.now in
    let found = c.in-Ok-true.ensures.shown clean in
    let none : IsTrue c.in-Ok-true.field-0 = search rules in
    inl (refl, subst (Showed g.S.Store was row_text) (found.3.0 none) (showed g.S.Store was was c.is_empty.new.conn row_text found.1 found.0 refl found.2))

pub returns-in-Ok-false-clause-told : goal.returns-in-Ok-false-clause-told
returns-in-Ok-false-clause-told g c = λ clean.
    let was = c.args.conn.now in
    let found = c.in-Ok-false.ensures.shown clean in
    inr (inl (refl, (found.1, showed g.S.Store was was c.is_empty.new.conn row_text found.1 found.0 refl found.2, λ empty. let none = found.3.1 empty in cc)))

pub returns-in-Err-clause-told : goal.returns-in-Err-clause-told
returns-in-Err-clause-told g c = λ clean.
    inr (inr (c.in-Err.error, refl, fails_to_ask g.S.Store c.args.conn.now c.is_empty.new.conn c.is_empty.new.conn row_text c.in-Err.error (inr refl) (c.in-Err.ensures.failed c.requires clean) (survives_itself (state g.S.Store c.is_empty.new.conn))))
