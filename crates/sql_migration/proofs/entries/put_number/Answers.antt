use Rattle.sqlite.specs.Held.{state}
use Rattle.sql_statements.proofs.Edits.{makes_of}
use Rattle.sql_statements.proofs.Inside.{inside_as}
use Rattle.sql_migration.specs.Migration.{put_number_edit, seen_layout, if_seen}
use Rattle.sql_migration.proofs.NumberInserts.{number_seen}
use Rattle.sql_migration.proofs.entries.put_number.Goals as goal

pub returns : goal.returns
returns g c =
    inside_as g.S.Store
    (λ told clean.
    let old = state g.S.Store c.args.tx.now.conn.now in
    let new = state g.S.Store c.execute.new.tx.conn.now in
    let ran = rw (c.in_ok-sequence.ensures, c.in_ok-at.ensures) at (told clean).ran in
    makes_of seen_layout (if_seen (put_number_edit c.args.place)) old new (told clean).shown (λ t h. (number_seen c.args.place old new c.in_ok-execute.field-0 ran t h, tt))) c.in_ok-execute.ensures
