use Rattle.std.proofs.Common.{sym, ◌∙◌}
use Rattle.sql_migration.specs.FirstVersion.{first_version}
use Rattle.sql_files.specs.Opened.{leaves_migrated}
use Rattle.sql_files.proofs.Openings.{is_file, migrated_on, refused_on}
use Rattle.sql_files.proofs.migrated_file.migrate_file.Goals as goal

pub returns-in-Ok-with_second_version-clause-told : goal.returns-in-Ok-with_second_version-clause-told
returns-in-Ok-with_second_version-clause-told g c = record {
  was = c.in-Ok.conn;
  connects = c.in-Ok.ensures.told;
  before = c.in-Ok-with_second_version.ensures.before;
  stands = c.in-Ok-with_second_version.ensures.migrated;
}

pub returns-in-Ok-with_second_version-clause-migrated : goal.returns-in-Ok-with_second_version-clause-migrated
returns-in-Ok-with_second_version-clause-migrated g c =
    let was = c.in-Ok.ensures in
    let desk = c.in-Ok-with_second_version.ensures in
    migrated_on (g.F.DeskFiles.holds c.args.files.now c.args.path.now) c.in-Ok.conn was.opened was.found c.in-Ok-with_second_version.conn desk.before desk.migrated desk.first

pub returns-in-Ok-with_second_version-clause-present : goal.returns-in-Ok-with_second_version-clause-present
returns-in-Ok-with_second_version-clause-present g c = is_file c.args.presence (sym c.fault.ensures ∙ c.in_default.is)

pub returns-in-Err-with_second_version-clause-told : goal.returns-in-Err-with_second_version-clause-told
returns-in-Err-with_second_version-clause-told g c = (c.in-Ok.conn, c.in-Ok.ensures.told)

pub returns-in-Err-with_second_version-clause-refused : goal.returns-in-Err-with_second_version-clause-refused
returns-in-Err-with_second_version-clause-refused g c =
    let was = c.in-Ok.ensures in
    let why = c.in-Err-with_second_version in (
      is_file c.args.presence (sym c.fault.ensures ∙ c.in_default.is),
      why.ensures.otherwise,
      refused_on (g.F.DeskFiles.holds c.args.files.now c.args.path.now) c.in-Ok.conn was.opened was.found g.F.DeskFiles.is_fresh first_version leaves_migrated why.conn why.why why.ensures.refused,
    )
