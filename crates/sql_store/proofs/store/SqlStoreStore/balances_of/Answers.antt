use Rattle.std.specs.Prelude.{◌≡◌}
use Rattle.sql_tables.specs.Composed.{day_sums_in}
use Rattle.desk_accounts.specs.Balance.{day_sums}
use Rattle.sql_store.proofs.Reading.{reads_list}
use Rattle.sql_store.proofs.store.SqlStoreStore.balances_of.Goals as goal

pub returns : goal.returns
returns g c =
    reads_list g.S.Store _ _ (λ x t. x ≡ day_sums_in c.args.account t) (λ b. day_sums c.args.account b.postings) (c.files_of_tables.ensures.balances c.args.account) c.balances_of.result c.balances_of.ensures
