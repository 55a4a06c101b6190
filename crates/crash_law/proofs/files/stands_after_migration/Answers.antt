use Rattle.sql_migration.specs.FirstVersion.{HasFirstTables}
use Rattle.crash_law.specs.Openings.{holds, keeps, may_leave, first_holds, first_may_leave}
use Rattle.crash_law.proofs.Runs.{answers_survive, stands_after_migration}
use Rattle.crash_law.proofs.files.stands_after_migration.Goals as goal

pub returns : goal.returns
returns g c =
    stands_after_migration (first_holds g.S.Store) HasFirstTables (first_may_leave g.S.Store) (holds g.S.Store) keeps (may_leave g.S.Store)
    (answers_survive c.book_tells.ensures c.reads_leave.ensures c.one_meaning.ensures c.calls_are_history.ensures (first_holds g.S.Store) HasFirstTables (first_may_leave g.S.Store))
    (answers_survive c.book_tells.ensures c.reads_leave.ensures c.one_meaning.ensures c.calls_are_history.ensures (holds g.S.Store) keeps (may_leave g.S.Store))
