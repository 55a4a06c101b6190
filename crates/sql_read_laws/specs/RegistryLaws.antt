-- What is found in a row of a key, and in tables of one list.
use Rattle.std.specs.Prelude.{ℕ, List, length}
use Rattle.desk_accounts.specs.declared.account.Account.{Account}
use Rattle.desk_accounts.specs.Balance.{lines_of, day_sums}
use Rattle.desk_book.specs.declared.caller.Caller.{Caller}
use Rattle.desk_book.specs.Reads.{key_of, company}
use Rattle.sql_tables.specs.TableReads.{number_of_last, company_in, lines_in, suspense_in, modifiers_in, text_in, taken_in}
use Rattle.sql_tables.specs.Composed.{key_in, day_sums_in}
use Rattle.sql_read_laws.specs.ReadsAs.{ReadsAs}

pub record RegistryLaws : Type 0 where
  pub identity : ReadsAs (λ t. t.desk.identity) (λ b. b.identity)
  pub day : ReadsAs (λ t. t.desk.day) (λ b. b.day)
  pub holidays : ReadsAs (λ t. t.holidays) (λ b. b.holidays)
  pub key_of : (caller : Caller) → ReadsAs (key_in caller) (key_of caller)
  pub company : (id : List ℕ) → ReadsAs (company_in id) (company id)
  pub companies : ReadsAs (λ t. t.companies) (λ b. b.companies)

pub record FileLaws : Type 0 where
  pub postings : (account : Account) → ReadsAs (lines_in account) (λ b. lines_of account b.postings)
  pub balances : (account : Account) → ReadsAs (day_sums_in account) (λ b. day_sums account b.postings)
  pub suspense : ReadsAs suspense_in (λ b. b.suspense)
  pub suspense_count : ReadsAs (λ t. number_of_last (λ s. s.number) t.suspense) (λ b. length b.suspense)
  pub files_on : (day : ℕ) → ReadsAs (λ t. length (modifiers_in day t)) (λ b. b.files_on day)
  pub file : (day modifier : ℕ) → ReadsAs (text_in day modifier) (λ b. b.file day modifier)
  pub taken : (key : List ℕ) → ReadsAs (taken_in key) (λ b. b.taken key)
