-- The desk's status: what each company has waiting, and what a cut of the desk day would send and make.
use Rattle.std.specs.Prelude.{ℕ, Bool, not, ◌&&◌, ◌==◌, if◌then◌else◌, List, [], ◌∷◌, length, take, map, filter, sum_by, count_by, Option, Some, None, is_some, is_none}
use Rattle.desk_accounts.specs.Balance.{with_day}
use Rattle.desk_plan.specs.Modifiers.{modifiers}
use Rattle.desk_rules.specs.declared.bodies.company.Company.{Company}
use Rattle.desk_rules.specs.declared.bodies.submission.Submission.{Submission}
use Rattle.desk_rules.specs.LimitChecks.{is_debit}
use Rattle.desk_rules.specs.Size.{total_of}
use Rattle.desk_history.specs.declared.status.Tally.{Tally}
use Rattle.desk_history.specs.declared.status.Tallies.{Tallies}
use Rattle.desk_history.specs.declared.status.DueDay.{DueDay}
use Rattle.desk_history.specs.declared.status.CompanyStatus.{CompanyStatus}
use Rattle.desk_history.specs.declared.status.DeskStatus.{DeskStatus}
use Rattle.desk_history.specs.Part.{Event}
use Rattle.desk_history.specs.Accepted.{AcceptedSubmission, settlement_day, has_lapsed, lapses_next}
use Rattle.desk_history.specs.Acceptance.{submissions}
use Rattle.desk_history.specs.Message.{Pair}
use Rattle.desk_history.specs.Sendings.{Sending, record_count}
use Rattle.desk_history.specs.History.{day, holidays, companies, sendings_of, part, sent_entries}
use Rattle.desk_history.specs.Files.{File, cut_sendings, files, file_count, new_files}
use Rattle.desk_history.specs.Intake.{suspense}

-- ---- sums of submissions

-- how many they are, and the cents of their entries
abbrev pub tally : List Submission → Tally
tally ss = record { cents = sum_by (λ s. total_of s.entries) ss; submissions = length ss }

abbrev pub tallies : List Submission → Tallies
tallies ss = record {
  credits = tally (filter (λ s. not (is_debit s.direction)) ss);
  debits = tally (filter (λ s. is_debit s.direction) ss);
}

-- ---- what is due

-- the days on which these settle, ascending
abbrev pub settlement_days : List Sending → List ℕ
settlement_days [] = []
settlement_days (s ∷ ss) = with_day s.settled (settlement_days ss)

-- what of these settles on a day
abbrev pub due_day : List Sending → ℕ → DueDay
due_day ss d = record { day = d; sums = tallies (map (λ s. s.content) (filter (λ s. s.settled == d) ss)) }

abbrev pub due_days : List Sending → List DueDay
due_days ss = map (due_day ss) (settlement_days ss)

-- ---- a company

-- no cut has decided it
abbrev pub is_held : List Event → AcceptedSubmission → Bool
is_held P a = is_none (settlement_day P a) && not (has_lapsed P a)

abbrev pub held_of : List Event → List Submission
held_of P = map (λ a. a.content) (filter (is_held P) (submissions P))

-- What a company has waiting, by its part. Before the first desk day no cut would send anything.
abbrev pub company_status : (day : Option ℕ) → (parts : List ℕ → List Event) → Company → CompanyStatus
company_status day parts k = record {
  due = if is_some day then due_days (sendings_of parts k) else [];
  held = tallies (held_of (parts k.id));
  id = k.id;
  lapsing = if is_some day then count_by (lapses_next (parts k.id)) (submissions (parts k.id)) else 0;
  name = k.name;
}

-- ---- the desk

-- The modifiers of a day's files, by how many it has: a cut gives them in this order.
abbrev pub modifiers_on : (day : Option ℕ) → (made : ℕ → ℕ) → List ℕ
modifiers_on None made = []
modifiers_on (Some d) made = take (made d) modifiers

-- the entry and addenda records of submissions
abbrev pub records_in : List Submission → ℕ
records_in ss = sum_by record_count ss

-- those of all that is held
abbrev pub held_records : (odfi : List ℕ) → List Pair → ℕ
held_records odfi H = sum_by (λ k. records_in (held_of (part odfi H k.id))) (companies H)

-- What a cut of the desk day would send, and the files that it would make, even if the day has no modifiers for them:
-- nothing before the first day.
abbrev pub due_sendings : (day : Option ℕ) → (odfi : List ℕ) → List Pair → List Sending
due_sendings None odfi H = []
due_sendings (Some d) odfi H = cut_sendings odfi H

abbrev pub due_files : (day : Option ℕ) → (odfi : List ℕ) → List Pair → List File
due_files None odfi H = []
due_files (Some d) odfi H = new_files odfi H d

abbrev pub status : (odfi : List ℕ) → List Pair → DeskStatus
status odfi H = record {
  companies = map (company_status (day H) (part odfi H)) (companies H);
  day = day H;
  due_files = length (due_files (day H) odfi H);
  due_records = records_in (map (λ s. s.content) (due_sendings (day H) odfi H));
  files = modifiers_on (day H) (λ d. file_count d (files odfi H));
  held_records = held_records odfi H;
  holidays = length (holidays H);
  sent = length (sent_entries odfi H);
  suspense = length (suspense odfi H);
}
