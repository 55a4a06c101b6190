use Rattle.std.proofs.Common.{ap}
use Rattle.desk_book.specs.Reads.{key_of, company}
use Rattle.sql_tables.specs.TableReads.{company_in}
use Rattle.sql_tables.specs.Composed.{key_in}
use Rattle.sql_read_laws.proofs.ReadsAs.{reads_as}
use Rattle.sql_read_laws.proofs.RegistryFound.{company_found, key_found}
use Rattle.sql_read_laws.proofs.registry.registry_of_tables.Goals as goal

pub returns : goal.returns
returns c = record {
  identity = reads_as (λ t. t.desk.identity) (λ b. b.identity) (λ trees t r stored e beside. ap (λ d. d.identity) e.desk);
  day = reads_as (λ t. t.desk.day) (λ b. b.day) (λ trees t r stored e beside. ap (λ d. d.day) e.desk);
  holidays = reads_as (λ t. t.holidays) (λ b. b.holidays) (λ trees t r stored e beside. e.holidays);
  key_of = λ caller. reads_as (key_in caller) (key_of caller) (λ trees t r stored e beside. key_found t r e caller);
  company = λ id. reads_as (company_in id) (company id) (λ trees t r stored e beside. company_found t r e id);
  companies = reads_as (λ t. t.companies) (λ b. b.companies) (λ trees t r stored e beside. e.companies);
}
