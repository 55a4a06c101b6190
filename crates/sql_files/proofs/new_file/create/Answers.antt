use Rattle.sql_files.specs.Opened.{leaves_new}
use Rattle.sql_files.proofs.Openings.{made_on, unmade_on}
use Rattle.sql_files.proofs.new_file.create.Goals as goal

pub returns-in-Ok-with_new_desk-clause-told : goal.returns-in-Ok-with_new_desk-clause-told
returns-in-Ok-with_new_desk-clause-told g c = (
  c.make_private.new.files,
  c.in_default.ensures.told,
  record {
    was = c.in-Ok.conn;
    connects = c.in-Ok.ensures.told;
    before = c.in-Ok-with_new_desk.ensures.before;
    stands = c.in-Ok-with_new_desk.ensures.desk;
  },
)

pub returns-in-Ok-with_new_desk-clause-created : goal.returns-in-Ok-with_new_desk-clause-created
returns-in-Ok-with_new_desk-clause-created g c =
    let was = c.in-Ok.ensures in
    let found = rw c.make_private.ensures.stays at was.found in
    let made = c.in-Ok-with_new_desk.ensures in
    made_on (g.F.DeskFiles.holds c.args.files.now c.args.path.now) c.in-Ok.conn was.opened found c.in-Ok-with_new_desk.conn made.before c.args.identity c.args.operator_key made.desk

pub returns-in-Err-with_new_desk-clause-told : goal.returns-in-Err-with_new_desk-clause-told
returns-in-Err-with_new_desk-clause-told g c =
    (c.make_private.new.files, c.in_default.ensures.told, (c.in-Ok.conn, c.in-Ok.ensures.told))

pub returns-in-Err-with_new_desk-clause-unmade : goal.returns-in-Err-with_new_desk-clause-unmade
returns-in-Err-with_new_desk-clause-unmade g c =
    let was = c.in-Ok.ensures in
    let found = rw c.make_private.ensures.stays at was.found in
    let why = c.in-Err-with_new_desk in
    unmade_on (g.F.DeskFiles.holds c.args.files.now c.args.path.now) c.in-Ok.conn was.opened found g.F.DeskFiles.is_fresh (leaves_new c.args.identity c.args.operator_key) why.conn why.why why.ensures.unmade
