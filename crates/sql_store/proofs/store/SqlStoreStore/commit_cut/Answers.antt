use Rattle.desk_store.specs.Written.{commit_cut_after, cut_rows}
use Rattle.sql_tables.specs.TableEdits.{commit_cut_edit}
use Rattle.sql_store.proofs.Cutting.{makes_after}
use Rattle.sql_store.proofs.Writing.{takes}
use Rattle.sql_store.proofs.store.SqlStoreStore.commit_cut.Goals as goal

pub returns : goal.returns
returns g c =
    let cut = c.args.cut.now in
    let first = c.in_ok-first.first in
    takes g.S.Store (commit_cut_edit first (cut_rows cut)) (commit_cut_after cut.before (cut_rows cut)) (makes_after cut.before first (cut_rows cut) c.in_ok-first.ensures (c.cut_follows.ensures first (cut_rows cut)))
    _ _ c.write.result c.write.ensures.done c.write.ensures.undone c.write.ensures.survives
