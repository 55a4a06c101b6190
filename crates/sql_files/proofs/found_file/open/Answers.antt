use Rattle.sql_tables.specs.DeskTables.{version}
use Rattle.sql_files.specs.Opened.{leaves_nothing}
use Rattle.std.proofs.Common.{sym, ◌∙◌}
use Rattle.sql_files.proofs.Openings.{found_on, is_file, refused_on}
use Rattle.sql_files.proofs.found_file.open.Goals as goal

pub returns-in-Ok-with_desk-clause-told : goal.returns-in-Ok-with_desk-clause-told
returns-in-Ok-with_desk-clause-told g c = record {
  was = c.in-Ok.conn;
  connects = c.in-Ok.ensures.told;
  before = c.in-Ok-with_desk.ensures.before;
  stands = c.in-Ok-with_desk.ensures.desk;
}

pub returns-in-Ok-with_desk-clause-found : goal.returns-in-Ok-with_desk-clause-found
returns-in-Ok-with_desk-clause-found g c =
    let was = c.in-Ok.ensures in
    let desk = c.in-Ok-with_desk.ensures in
    found_on (g.F.DeskFiles.holds c.args.files.now c.args.path.now) c.in-Ok.conn was.opened was.found c.in-Ok-with_desk.conn desk.before desk.desk

pub returns-in-Ok-with_desk-clause-present : goal.returns-in-Ok-with_desk-clause-present
returns-in-Ok-with_desk-clause-present g c = is_file c.args.presence (sym c.fault.ensures ∙ c.in_default.is)

pub returns-in-Err-with_desk-clause-told : goal.returns-in-Err-with_desk-clause-told
returns-in-Err-with_desk-clause-told g c = (c.in-Ok.conn, c.in-Ok.ensures.told)

pub returns-in-Err-with_desk-clause-refused : goal.returns-in-Err-with_desk-clause-refused
returns-in-Err-with_desk-clause-refused g c =
    let was = c.in-Ok.ensures in
    let why = c.in-Err-with_desk in (
      is_file c.args.presence (sym c.fault.ensures ∙ c.in_default.is),
      why.ensures.otherwise,
      refused_on (g.F.DeskFiles.holds c.args.files.now c.args.path.now) c.in-Ok.conn was.opened was.found g.F.DeskFiles.is_fresh version leaves_nothing why.conn why.why why.ensures.refused,
    )
