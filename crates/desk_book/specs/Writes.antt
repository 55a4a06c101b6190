-- The messages that write, and the answers after which nothing was written.
use Rattle.std.specs.Prelude.{◌≡◌, Bool, true, false, is_some}
use Rattle.desk_history.specs.declared.answer.Answer.{Answer}
use Rattle.desk_history.specs.declared.answer.Answer.TheVariants as answers
use Rattle.desk_history.specs.declared.answer.Outcome.TheVariants as done
use Rattle.desk_history.specs.Message.{Message, Of, SetDay, SetHolidays, PutCompany, PutLimits, Cut, TakeFile, FileText, Settlement, Suspense, Status, Companies, is_accepted}
use Rattle.desk_history.specs.Request as request
use Rattle.desk_book.specs.Book.{Book}
use Rattle.desk_book.specs.OnCut.{cut_answer_on}
use Rattle.desk_book.specs.OnIntake.{Taking, New, taking}
use Rattle.desk_book.specs.OnMessages.{answer_on, after_on}
use Rattle.desk_book.specs.OnOperator.{day_answer, holidays_answer, company_answer, limits_answer}
use Rattle.desk_book.specs.Requests.{added_row}

-- a message that asks for what is known, and no more
abbrev pub is_read : Message → Bool
is_read (Of c (request.Submit d)) = false
is_read (Of c (request.Retry d)) = false
is_read (Of c r) = true
is_read (FileText d modifier) = true
is_read Settlement = true
is_read Suspense = true
is_read Status = true
is_read Companies = true
is_read m = false

abbrev pub is_new_taking : Taking → Bool
is_new_taking (New x) = true
is_new_taking _ = false

-- Does the message make a write? A command of the operator does where it is accepted, and a submission, a
-- retry or a file where it is accepted for the first time.
abbrev pub writes_on : Book → Message → Bool
writes_on b (Of c r) = is_some (added_row b c r)
writes_on b (SetDay text) = is_accepted (day_answer text b)
writes_on b (SetHolidays days) = is_accepted (holidays_answer days b)
writes_on b (PutCompany d) = is_accepted (company_answer d b)
writes_on b (PutLimits d) = is_accepted (limits_answer d b)
writes_on b Cut = is_accepted (cut_answer_on b)
writes_on b (TakeFile file) = is_new_taking (taking b file)
writes_on b m = false

-- an answer that no message has that writes
abbrev pub is_quiet : Answer → Bool
is_quiet (answers.Refused why) = true
is_quiet (answers.Done (done.Submitted receipt)) = false
is_quiet (answers.Done (done.Day d)) = false
is_quiet (answers.Done (done.Holidays n)) = false
is_quiet (answers.Done (done.Company c)) = false
is_quiet (answers.Done (done.Cut summary)) = false
is_quiet (answers.Done (done.Taken counts)) = false
is_quiet (answers.Done found) = true

-- A message that writes nothing leaves the book unchanged. Reads and refused messages write nothing, and the answer
-- alone shows it.
pub record ReadsLeave : Type 0 where
  pub book : (b : Book) (m : Message) → writes_on b m ≡ false → after_on b m ≡ b
  pub reads : (b : Book) (m : Message) → is_read m ≡ true → writes_on b m ≡ false
  pub refusals : (b : Book) (m : Message) → is_accepted (answer_on b m) ≡ false → writes_on b m ≡ false
  pub quiet : (b : Book) (m : Message) → is_quiet (answer_on b m) ≡ true → writes_on b m ≡ false
