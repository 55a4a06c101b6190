-- The reports to a company about its submission and its account, and to the operator about the operator's account.
use Rattle.std.specs.Prelude.{ℕ, ℤ, List, map, zip}
use Rattle.std.specs.List.{enumerate_from}
use Rattle.desk_accounts.specs.declared.posting.Posting.{Posting}
use Rattle.desk_accounts.specs.Balance.{days_balance}
use Rattle.desk_rules.specs.declared.bodies.submission.Entry.{Entry}
use Rattle.desk_rules.specs.declared.rules.entry_fact.EntryState.{EntryState}
use Rattle.desk_history.specs.declared.operations.Settlement.{Settlement}
use Rattle.desk_history.specs.declared.reports.ReportedEntry.{ReportedEntry}
use Rattle.desk_history.specs.declared.reports.Statement.{Statement}
use Rattle.desk_history.specs.Postings.{day_sum}
use Rattle.desk_history.specs.Reports.{reported_entry}
use Rattle.desk_book.specs.OnBook.{line_of}

-- entries with their numbers, from 1, and their states
abbrev pub reported_entries : List Entry → List EntryState → List ReportedEntry
reported_entries entries states = map reported_entry (enumerate_from 1 (zip entries states))

-- a company's statement on a day, from the sums of its lines by value day, and the lines
abbrev pub statement_of_sums : (day : ℕ) → (sums : List (ℕ × ℤ)) → List Posting → Statement
statement_of_sums day sums own = record { balance = days_balance day sums; day = day; lines = map line_of own }

-- the settlement on a day, from the sums of the operator's lines by value day
abbrev pub settlement_of_sums : (day : ℕ) → (sums : List (ℕ × ℤ)) → Settlement
settlement_of_sums day sums = record { balance = days_balance day sums; day = day; days = map day_sum sums }
