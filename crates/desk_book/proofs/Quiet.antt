-- A message that writes nothing leaves the book unchanged.
use Rattle.std.proofs.Common.{◌≡◌, ℕ, List, true, false, refl}
use Rattle.std.specs.Prelude.{is_some, Option, Some, None, Result, Ok, Err}
use Rattle.bank_days.specs.declared.calendar_fault.CalendarFault.{CalendarFault}
use Rattle.desk_rules.specs.declared.refusals.refusal.Refusal as rules
use Rattle.desk_history.specs.declared.answer.Answer.{Answer}
use Rattle.desk_history.specs.declared.answer.Answer.TheVariants as answers
use Rattle.desk_history.specs.declared.answer.Outcome.{Outcome}
use Rattle.desk_history.specs.declared.answer.Outcome.TheVariants as done
use Rattle.desk_history.specs.Message.{Message, Of, SetDay, SetHolidays, PutCompany, PutLimits, Cut, TakeFile, FileText, Settlement, Suspense, Status, Companies, is_accepted}
use Rattle.desk_history.specs.Operator.{set_holidays, cut_answer}
use Rattle.desk_history.specs.Reply.{answer_of}
use Rattle.desk_history.specs.Request as request
use Rattle.desk_book.specs.declared.row.Row.{Row}
use Rattle.desk_book.specs.Book.{Book}
use Rattle.desk_book.specs.OnBook.{standing_in, receipt_of}
use Rattle.desk_book.specs.OnCut.{CutFacts, cut_on, summary_of, with_cut}
use Rattle.desk_book.specs.OnIntake.{Taking, New, Again, Refused, taking, taking_answer, with_taking}
use Rattle.desk_book.specs.OnMessages.{answer_on, after_on}
use Rattle.desk_book.specs.OnOperator.{new_day, new_company, new_limits, done_as, with_step}
use Rattle.desk_book.specs.Requests.{row_if_new, added_row, with_added_row}
use Rattle.desk_book.specs.Standing.{submission_row, retry_row}
use Rattle.desk_book.specs.Steps.{Step, set_day, put_company, put_limits}
use Rattle.desk_book.specs.Steps as steps
use Rattle.desk_book.specs.Writes.{is_read, is_new_taking, writes_on, is_quiet, ReadsLeave}

-- ---- what writes nothing

none_added : (b : Book) (c : List ℕ) (row : Option Row) → is_some row ≡ false → with_added_row c row b ≡ b
none_added b c None none = refl
none_added b c (Some row) none = cc

none_set : {A : Type 0} (step : A → Step) (value : A → Outcome) (r : Result A rules.Refusal) (b : Book) → is_accepted (done_as value r) ≡ false → with_step step r b ≡ b
none_set step value (Ok x) b refused = cc
none_set step value (Err why) b refused = refl

no_days : (r : Result (List ℕ) CalendarFault) (b : Book) → is_accepted (set_holidays r) ≡ false → with_step steps.set_holidays r b ≡ b
no_days (Ok days) b refused = cc
no_days (Err fault) b refused = refl

none_cut : (r : Result CutFacts rules.Refusal) (b : Book) → is_accepted (cut_answer (summary_of r)) ≡ false → with_cut r b ≡ b
none_cut (Ok x) b refused = cc
none_cut (Err why) b refused = refl

none_taken : (t : Taking) (b : Book) → is_new_taking t ≡ false → with_taking t b ≡ b
none_taken (New x) b known = cc
none_taken (Again counts) b known = refl
none_taken (Refused why) b known = refl

unwritten : (b : Book) (m : Message) → writes_on b m ≡ false → after_on b m ≡ b
unwritten b (Of c r) none = none_added b c (added_row b c r) none
unwritten b (SetDay text) none = none_set set_day done.Day (new_day b.day b.holidays text) b none
unwritten b (SetHolidays days) none = no_days days b none
unwritten b (PutCompany d) none = none_set put_company (λ k. done.Company k.id) (new_company b.companies d) b none
unwritten b (PutLimits d) none = none_set (λ x. put_limits x.0 x.1) (λ x. done.Company x.0) (new_limits b.companies d) b none
unwritten b Cut none = none_cut (cut_on b) b none
unwritten b (TakeFile file) none = none_taken (taking b file) b none
unwritten b (FileText d modifier) none = refl
unwritten b Settlement none = refl
unwritten b Suspense none = refl
unwritten b Status none = refl
unwritten b Companies none = refl

-- ---- who writes nothing

reads : (b : Book) (m : Message) → is_read m ≡ true → writes_on b m ≡ false
reads b (Of c (request.Submit d)) is = cc
reads b (Of c (request.Retry d)) is = cc
reads b (Of c r) is = refl
reads b (FileText d modifier) is = refl
reads b Settlement is = refl
reads b Suspense is = refl
reads b Status is = refl
reads b Companies is = refl
reads b m is = cc

-- no row is added if the answer has no receipt
no_receipt : (rs : List Row) (r : Result Row rules.Refusal) → is_quiet (answer_of (receipt_of r)) ≡ true → is_some (row_if_new rs r) ≡ false
no_receipt rs (Ok row) silent = cc
no_receipt rs (Err why) silent = refl

nothing_set : {A : Type 0} (value : A → Outcome) → ((x : A) → is_quiet (answers.Done (value x)) ≡ false) → (r : Result A rules.Refusal) → is_quiet (done_as value r) ≡ true → is_accepted (done_as value r) ≡ false
nothing_set value loud (Ok x) silent = let told = loud x in cc
nothing_set value loud (Err why) silent = refl

quiet : (b : Book) (m : Message) → is_quiet (answer_on b m) ≡ true → writes_on b m ≡ false
quiet b (Of c (request.Submit d)) silent = no_receipt (b.rows c) (submission_row (standing_in b c) d) silent
quiet b (Of c (request.Retry d)) silent = no_receipt (b.rows c) (retry_row (standing_in b c) d) silent
quiet b (Of c r) silent = refl
quiet b (SetDay text) silent = nothing_set done.Day (λ x. refl) (new_day b.day b.holidays text) silent
quiet b (SetHolidays days) silent = by days silent where
  by : (r : Result (List ℕ) CalendarFault) → is_quiet (set_holidays r) ≡ true → is_accepted (set_holidays r) ≡ false
  by (Ok days) silent = cc
  by (Err fault) silent = refl
quiet b (PutCompany d) silent = nothing_set (λ k. done.Company k.id) (λ x. refl) (new_company b.companies d) silent
quiet b (PutLimits d) silent = nothing_set (λ x. done.Company x.0) (λ x. refl) (new_limits b.companies d) silent
quiet b Cut silent = by (cut_on b) silent where
  by : (r : Result CutFacts rules.Refusal) → is_quiet (cut_answer (summary_of r)) ≡ true → is_accepted (cut_answer (summary_of r)) ≡ false
  by (Ok x) silent = cc
  by (Err why) silent = refl
quiet b (TakeFile file) silent = by (taking b file) silent where
  by : (t : Taking) → is_quiet (taking_answer t) ≡ true → is_new_taking t ≡ false
  by (New x) silent = cc
  by (Again counts) silent = refl
  by (Refused why) silent = refl
quiet b (FileText d modifier) silent = refl
quiet b Settlement silent = refl
quiet b Suspense silent = refl
quiet b Status silent = refl
quiet b Companies silent = refl

-- a refusal is such an answer
refused_quiet : (a : Answer) → is_accepted a ≡ false → is_quiet a ≡ true
refused_quiet (answers.Done value) refused = cc
refused_quiet (answers.Refused why) refused = refl

pub reads_leave : ReadsLeave
reads_leave = record { book = unwritten; reads = reads; refusals = λ b m refused. quiet b m (refused_quiet (answer_on b m) refused); quiet = quiet }
