use Rattle.desk_book.specs.OnIntake.{traced_entries}
use Rattle.sql_reads.specs.TracedEntries.{AreTraced}
use Rattle.sql_store.proofs.Reading.{reads_list}
use Rattle.sql_store.proofs.store.SqlStoreStore.traced_entries.Goals as goal

pub returns : goal.returns
returns g c =
    let traces = c.args.traces.now in
    reads_list g.S.Store _ _ (AreTraced traces) (traced_entries traces) (λ found trees t b stored is told. c.numbers_of_tables.ensures.traced_entries traces found trees t b stored is (told.within, told.are)) c.traced_entries.result c.traced_entries.ensures
