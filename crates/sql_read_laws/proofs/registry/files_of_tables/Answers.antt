use Rattle.std.specs.Prelude.{length}
use Rattle.desk_accounts.specs.Balance.{lines_of, day_sums}
use Rattle.sql_tables.specs.ByName as named
use Rattle.sql_tables.specs.TableReads.{number_of_last, lines_in, suspense_in, modifiers_in, text_in, taken_in}
use Rattle.sql_tables.specs.Composed.{day_sums_in}
use Rattle.sql_read_laws.proofs.DaySums.{sums_found}
use Rattle.sql_read_laws.proofs.ReadsAs.{reads_as}
use Rattle.sql_read_laws.proofs.RegistryFound.{lines_found, suspense_found, suspense_counted, files_found, text_found, taken_found}
use Rattle.sql_read_laws.proofs.registry.files_of_tables.Goals as goal

pub returns : goal.returns
returns c = record {
  postings = λ account. reads_as (lines_in account) (λ b. lines_of account b.postings) (λ trees t r stored e beside. lines_found t r e account);
  balances = λ account. reads_as (day_sums_in account) (λ b. day_sums account b.postings) (λ trees t r stored e beside. sums_found account c.balances_by_day.ensures t.balances r.postings (stored.stands named.balances).rise beside.sums);
  suspense = reads_as suspense_in (λ b. b.suspense) (λ trees t r stored e beside. suspense_found t r e);
  suspense_count = reads_as (λ t. number_of_last (λ s. s.number) t.suspense) (λ b. length b.suspense) (λ trees t r stored e beside. suspense_counted t r e);
  files_on = λ day. reads_as (λ t. length (modifiers_in day t)) (λ b. b.files_on day) (λ trees t r stored e beside. files_found t r e day);
  file = λ day modifier. reads_as (text_in day modifier) (λ b. b.file day modifier) (λ trees t r stored e beside. text_found t r e (stored.stands named.files).rise day modifier);
  taken = λ key. reads_as (taken_in key) (λ b. b.taken key) (λ trees t r stored e beside. taken_found t r e (stored.stands named.taken).rise key);
}
