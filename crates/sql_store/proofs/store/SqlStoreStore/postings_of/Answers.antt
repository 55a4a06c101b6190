use Rattle.std.specs.Prelude.{◌≡◌}
use Rattle.sql_tables.specs.TableReads.{lines_in}
use Rattle.desk_accounts.specs.Balance.{lines_of}
use Rattle.sql_store.proofs.Reading.{answers, reads_list}
use Rattle.sql_store.proofs.store.SqlStoreStore.postings_of.Goals as goal

pub returns : goal.returns
returns g c =
    reads_list g.S.Store _ _ (λ x t. x ≡ lines_in c.args.account t) (λ b. lines_of c.args.account b.postings) (c.files_of_tables.ensures.postings c.args.account) c.or_unavailable.result (answers _ _ _ _ _ c.or_unavailable.ensures c.postings.ensures)
