-- The desk's status, from the book.
use Rattle.std.specs.Prelude.{ℕ, List, [], length, map, sum_by, Option, Some, None}
use Rattle.std.specs.List.{flat_map}
use Rattle.desk_plan.specs.declared.batch.Batch as plan
use Rattle.desk_plan.specs.Files.{division}
use Rattle.desk_rules.specs.declared.bodies.company.Company.{Company}
use Rattle.desk_history.specs.declared.answer.Answer.{Answer}
use Rattle.desk_history.specs.declared.answer.Answer.TheVariants as answers
use Rattle.desk_history.specs.declared.answer.Outcome.TheVariants as done
use Rattle.desk_history.specs.declared.status.CompanyStatus.{CompanyStatus}
use Rattle.desk_history.specs.declared.status.DeskStatus.{DeskStatus}
use Rattle.desk_history.specs.Sendings.{Sending, plan_of, record_count}
use Rattle.desk_history.specs.Status.{tallies, due_days, modifiers_on}
use Rattle.desk_book.specs.declared.flat_rows.LapsedRow.{LapsedRow}
use Rattle.desk_book.specs.declared.held_submission.HeldSubmission.{HeldSubmission}
use Rattle.desk_book.specs.Book.{Book}
use Rattle.desk_book.specs.OnCut.{sendings, lapses_among}
use Rattle.desk_book.specs.Reads.{waiting_of, sent_count}

-- what a cut of the desk day would send of what waits, and what it would let lapse: nothing before the first day
abbrev pub sent_on : (day : Option ℕ) → (holidays : List ℕ) → List HeldSubmission → List Sending
sent_on None holidays ws = []
sent_on (Some d) holidays ws = sendings holidays d ws

abbrev pub lapsed_on : (day : Option ℕ) → (holidays : List ℕ) → List HeldSubmission → List LapsedRow
lapsed_on None holidays ws = []
lapsed_on (Some d) holidays ws = lapses_among holidays d ws

-- a company with these held submissions
abbrev pub company_status : (day : Option ℕ) → (holidays : List ℕ) → Company → List HeldSubmission → CompanyStatus
company_status day holidays k ws = record {
  due = due_days (sent_on day holidays ws);
  held = tallies (map (λ w. w.row.content) ws);
  id = k.id;
  lapsing = length (lapsed_on day holidays ws);
  name = k.name;
}

-- the entry and addenda records of held submissions
abbrev pub held_records : List HeldSubmission → ℕ
held_records ws = sum_by (λ w. record_count w.row.content) ws

-- what a cut of the desk day would take of its files for what waits
abbrev pub due_loads : (day : Option ℕ) → (holidays : List ℕ) → List HeldSubmission → List plan.Batch
due_loads day holidays ws = map plan_of (sent_on day holidays ws)

-- ---- the desk

abbrev pub companies_of : Book → List CompanyStatus
companies_of b = map (λ k. company_status b.day b.holidays k (waiting_of k b)) b.companies

-- what the cut would take for all companies
abbrev pub loads_of : Book → List plan.Batch
loads_of b = flat_map (λ k. due_loads b.day b.holidays (waiting_of k b)) b.companies

abbrev pub status_of : Book → DeskStatus
status_of b = record {
  companies = companies_of b;
  day = b.day;
  due_files = length (division (loads_of b));
  due_records = sum_by (λ l. l.records) (loads_of b);
  files = modifiers_on b.day b.files_on;
  held_records = sum_by (λ k. held_records (waiting_of k b)) b.companies;
  holidays = length b.holidays;
  sent = sent_count b;
  suspense = length b.suspense;
}

abbrev pub status_answer : Book → Answer
status_answer b = answers.Done (done.Status (status_of b))
