use Rattle.sqlite.specs.Held.{state}
use Rattle.sql_statements.proofs.Edits.{makes_of}
use Rattle.sql_statements.proofs.Inside.{inside_as}
use Rattle.sql_tables.specs.Layout.{desk_layout}
use Rattle.sql_tables.specs.TableEdits.{put_company_edit}
use Rattle.sql_writes.proofs.Companies.{company_put}
use Rattle.sql_writes.proofs.registry.put_company.Goals as goal

pub returns : goal.returns
returns g c =
    inside_as g.S.Store
    (λ told clean.
    let old = state g.S.Store c.args.tx.now.conn.now in
    let new = state g.S.Store c.execute.new.tx.conn.now in
    let ran = rw (c.characters.ensures, c.bytes.ensures.value, c.characters-2.ensures, c.bytes-2.ensures.value, c.blob.ensures, c.in_ok-entry.ensures, c.in_ok-credit.ensures, c.in_ok-debit.ensures) at (told clean).ran in
    makes_of desk_layout (put_company_edit c.args.company.now) old new (told clean).shown (company_put c.args.company.now old new c.in_ok-execute.field-0 ran)) c.in_ok-execute.ensures
