-- What reads make of what several queries find.
use Rattle.std.specs.Prelude.{ℕ, ℤ, ◌==◌, ◌&&◌, max, filter_map, List, map, if◌then◌else◌, Option, Some, None, is_some, option_map, option_and_then}
use Rattle.std.specs.List.{flat_map, reduce}
use Rattle.ach_fields.specs.Trace.{dfi_in, is_trace, sequence_in}
use Rattle.desk_accounts.specs.declared.account.Account.{Account}
use Rattle.desk_history.specs.declared.reports.ChangeRow.{ChangeRow}
use Rattle.desk_history.specs.declared.reports.ReturnRow.{ReturnRow}
use Rattle.desk_history.specs.declared.sent_entry.SentEntry.{SentEntry}
use Rattle.desk_rules.specs.LimitChecks.{is_debit}
use Rattle.desk_rules.specs.declared.bodies.company.Company.{Company}
use Rattle.desk_rules.specs.declared.bodies.submission.Retry.{Retry}
use Rattle.desk_rules.specs.declared.rules.entry_fact.EntryFact.{EntryFact}
use Rattle.desk_rules.specs.declared.rules.rate.Rates.{Rates}
use Rattle.desk_rules.specs.ReturnRates.{rates}
use Rattle.desk_book.specs.Standing as standing
use Rattle.desk_book.specs.Sums.{exposures_on}
use Rattle.desk_book.specs.declared.caller.Caller.{Caller}
use Rattle.desk_book.specs.declared.caller.Caller.TheVariants as callers
use Rattle.desk_book.specs.declared.named_entry.NamedEntry.{NamedEntry}
use Rattle.desk_book.specs.declared.held_submission.HeldSubmission.{HeldSubmission}
use Rattle.desk_book.specs.declared.row.Row.{Row}
use Rattle.sql_tables.specs.RowParts.{state_among}
use Rattle.sql_tables.specs.TableReads.{company_in, sums_in, return_at, order_in, facts_in, rows_in, is_of, is_waiting_of, place_in, entry_at_place, places_between}
use Rattle.sql_tables.specs.Tables.{Tables}
use Rattle.sql_tables.specs.declared.row.entries.EntryAmount.{EntryAmount}
use Rattle.sql_tables.specs.declared.row.entries.PlacedEntry.{PlacedEntry}
use Rattle.sql_tables.specs.declared.row.items.ChangeLine.{ChangeLine}
use Rattle.sql_tables.specs.declared.row.items.EntryReturn.{EntryReturn}
use Rattle.sql_tables.specs.declared.row.items.ReturnLine.{ReturnLine}
use Rattle.sql_tables.specs.declared.row.submissions.SubmissionFacts.{SubmissionFacts}
use Rattle.sql_tables.specs.declared.row.submissions.SubmissionHead.{SubmissionHead}

-- the digest of a caller's key
abbrev pub key_in : Caller → Tables → Option (List ℕ)
key_in callers.Operator t = Some t.desk.operator_key
key_in (callers.Company id) t = option_map (λ k. k.digest) (company_in id t)

-- ---- what a company's entries come to

-- what the rules read of an entry
abbrev pub fact_among : SubmissionHead → List EntryReturn → EntryAmount → EntryFact
fact_among head returns a = record { debit = is_debit head.direction; prenote = a.prenote; cents = a.cents; state = state_among head returns a.index }

-- the exposures of all of a company's entries
abbrev pub exposures_in : (company : List ℕ) → (day : ℕ) → (holidays : List ℕ) → Tables → ℕ × ℕ
exposures_in c day holidays t = exposures_on (rows_in (is_of c) t) day holidays

-- their return rates
abbrev pub rates_in : (company : List ℕ) → (day : ℕ) → Tables → Rates
rates_in c day t = rates (standing.facts_in (rows_in (is_of c) t)) day

-- the day on which the original of a retry settled
abbrev pub original_in : (company : List ℕ) → Option Retry → Tables → Option ℕ
original_in company None t = None
original_in company (Some retry) t = option_and_then (λ original. original.settled) (order_in company retry.of t)

abbrev pub held_in : Company → Tables → Row → HeldSubmission
held_in k t row = record { company = k; row = row; original_settled = original_in k.id row.retry t }

-- the held submissions of a company, by order number
abbrev pub waiting_of_in : Company → Tables → List HeldSubmission
waiting_of_in k t = map (held_in k t) (rows_in (is_waiting_of k.id) t)

-- the held submissions, by company and then by order number
abbrev pub waiting_in : Tables → List HeldSubmission
waiting_in t = flat_map (λ k. waiting_of_in k t) t.companies

abbrev pub return_row_of : ReturnLine → SubmissionFacts → ReturnRow
return_row_of line facts = record {
  code = line.back.code;
  day = line.back.day;
  index = line.back.index;
  info = line.info;
  late = line.back.late;
  reference = facts.reference;
}

abbrev pub change_row_of : ChangeLine → SubmissionFacts → ChangeRow
change_row_of line facts = record { code = line.code; day = line.day; index = line.index; reference = facts.reference; text = line.text }

-- a return or a change with the reference of its submission
abbrev pub return_row_in : (company : List ℕ) → Tables → ReturnLine → Option ReturnRow
return_row_in company t line = option_map (return_row_of line) (facts_in company line.order t)

abbrev pub change_row_in : (company : List ℕ) → Tables → ChangeLine → Option ChangeRow
change_row_in company t line = option_map (change_row_of line) (facts_in company line.order t)

-- the sums of an account's lines by value day
abbrev pub day_sums_in : Account → Tables → List (ℕ × ℤ)
day_sums_in account t = map (λ s. (s.day, s.cents)) (sums_in account t)

-- ---- sent entries

abbrev pub sent_entry_of : (sequence : ℕ) → PlacedEntry → SubmissionFacts → (settled : ℕ) → SentEntry
sent_entry_of sequence placed facts settled = record {
  sequence = sequence;
  company = placed.company;
  reference = facts.reference;
  order = placed.order;
  index = placed.index;
  settled = settled;
  sec = facts.sec;
  debit = is_debit facts.direction;
  entry = placed.entry;
}

-- an entry with the facts of its submission, once that is sent
abbrev pub sent_with : (sequence : ℕ) → PlacedEntry → Option SubmissionFacts → Option SentEntry
sent_with sequence placed facts = option_and_then (λ f. option_map (sent_entry_of sequence placed f) f.settled) facts

-- the entry that was sent at a place
abbrev pub sent_at : (sequence : ℕ) → (place : ℕ) → Tables → Option SentEntry
sent_at sequence place t = option_and_then (λ placed. sent_with sequence placed (facts_in placed.company placed.order t)) (entry_at_place place t)

-- the youngest that has a sequence
abbrev pub sent_in : (sequence : ℕ) → Tables → Option SentEntry
sent_in sequence t = option_and_then (λ place. sent_at sequence place t) (place_in sequence t)

-- an entry, and whether it came back
abbrev pub with_return_in : Tables → SentEntry → NamedEntry
with_return_in t e = record { entry = e; returned = is_some (return_at e.company e.order e.index t) }

-- what a trace names where the bank's number has these eight digits
abbrev pub traced_in : (dfi : ℕ) → Tables → Option (List ℕ) → Option NamedEntry
traced_in dfi t None = None
traced_in dfi t (Some trace) = if is_trace trace && dfi == dfi_in trace then option_map (with_return_in t) (sent_in (sequence_in trace) t) else None

-- the day on which the entry at a place settles
abbrev pub settled_at : (place : ℕ) → Tables → Option ℕ
settled_at place t = option_and_then (λ placed. option_and_then (λ f. f.settled) (facts_in placed.company placed.order t)) (entry_at_place place t)

-- the latest of those of the youngest entries of sequences from the first to the last
abbrev pub latest_in : (from : ℕ) → (to : ℕ) → Tables → Option ℕ
latest_in from to t = reduce max (filter_map (λ place. settled_at place t) (places_between from to t))
