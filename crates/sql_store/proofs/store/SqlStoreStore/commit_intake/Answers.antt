use Rattle.desk_book.specs.Steps.{commit_intake}
use Rattle.sql_tables.specs.TableEdits.{commit_intake_edit}
use Rattle.desk_store.specs.Written.{intake_rows}
use Rattle.sql_store.proofs.Writing.{takes}
use Rattle.sql_store.proofs.store.SqlStoreStore.commit_intake.Goals as goal

pub returns : goal.returns
returns g c =
    takes g.S.Store (commit_intake_edit (intake_rows c.args.intake.now)) (commit_intake (intake_rows c.args.intake.now)) (c.intake_follows.ensures (intake_rows c.args.intake.now)) _ _ c.write.result c.write.ensures.done c.write.ensures.undone c.write.ensures.survives
