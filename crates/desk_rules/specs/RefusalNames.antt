-- The names of refusals: number, HTTP status and text of each, in a table.
use Rattle.std.specs.Prelude.{ℕ, List, codes}
use Rattle.desk_rules.specs.declared.refusals.refusal.Refusal.{Refusal}
use Rattle.desk_rules.specs.declared.refusals.refusal.Refusal.TheVariants as refusals
use Rattle.desk_rules.specs.declared.refusals.names.RefusalName.{RefusalName}
use Rattle.desk_rules.specs.declared.refusals.names.RefusalName.TheVariants as names

-- a row of the table: a refusal's number in answers to companies, the HTTP status of the answer, and the name as bodies write it
pub record NameRow : Type 0 where
  pub number : ℕ
  pub status : ℕ
  pub text : List ℕ

abbrev pub row : (number status : ℕ) → (text : List ℕ) → NameRow
row number status text = record { number = number; status = status; text = text }

abbrev pub row_of : RefusalName → NameRow
row_of names.NoDay = row 1 409 (codes "NoDay")
row_of names.BadField = row 2 422 (codes "BadField")
row_of names.RefReused = row 3 409 (codes "RefReused")
row_of names.TooManyEntries = row 4 422 (codes "TooManyEntries")
row_of names.TotalTooLarge = row 5 422 (codes "TotalTooLarge")
row_of names.DateRange = row 6 422 (codes "DateRange")
row_of names.EntryLimit = row 7 409 (codes "EntryLimit")
row_of names.CreditLimit = row 8 409 (codes "CreditLimit")
row_of names.DebitLimit = row 9 409 (codes "DebitLimit")
row_of names.NoEntry = row 10 409 (codes "NoEntry")
row_of names.NotReturned = row 11 409 (codes "NotReturned")
row_of names.NotRetryable = row 12 409 (codes "NotRetryable")
row_of names.RetriesSpent = row 13 409 (codes "RetriesSpent")
row_of names.RetryTooLate = row 14 409 (codes "RetryTooLate")
row_of names.DayNotLater = row 20 409 (codes "DayNotLater")
row_of names.NotBankingDay = row 21 409 (codes "NotBankingDay")
row_of names.CompanyExists = row 22 409 (codes "CompanyExists")
row_of names.NoCompany = row 23 409 (codes "NoCompany")
row_of names.TracesSpent = row 24 409 (codes "TracesSpent")
row_of names.ModifiersSpent = row 25 409 (codes "ModifiersSpent")
row_of names.FileKeyReused = row 26 409 (codes "FileKeyReused")
row_of names.BadFile = row 27 422 (codes "BadFile")
row_of names.BadCalendar = row 28 422 (codes "BadCalendar")

abbrev pub number_of : RefusalName → ℕ
number_of name = (row_of name).number

abbrev pub status_of : RefusalName → ℕ
status_of name = (row_of name).status

abbrev pub text_of : RefusalName → List ℕ
text_of name = (row_of name).text

-- the name of a refusal
abbrev pub name_of : Refusal → RefusalName
name_of refusals.NoDay = names.NoDay
name_of (refusals.BadField field index) = names.BadField
name_of refusals.RefReused = names.RefReused
name_of refusals.TooManyEntries = names.TooManyEntries
name_of refusals.TotalTooLarge = names.TotalTooLarge
name_of refusals.DateRange = names.DateRange
name_of refusals.EntryLimit = names.EntryLimit
name_of refusals.CreditLimit = names.CreditLimit
name_of refusals.DebitLimit = names.DebitLimit
name_of refusals.NoEntry = names.NoEntry
name_of refusals.NotReturned = names.NotReturned
name_of (refusals.NotRetryable code) = names.NotRetryable
name_of refusals.RetriesSpent = names.RetriesSpent
name_of refusals.RetryTooLate = names.RetryTooLate
name_of refusals.DayNotLater = names.DayNotLater
name_of refusals.NotBankingDay = names.NotBankingDay
name_of refusals.CompanyExists = names.CompanyExists
name_of refusals.NoCompany = names.NoCompany
name_of refusals.TracesSpent = names.TracesSpent
name_of refusals.ModifiersSpent = names.ModifiersSpent
name_of refusals.FileKeyReused = names.FileKeyReused
