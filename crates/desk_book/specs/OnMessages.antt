-- The answer to every message, and what it makes of the book, from the book.
use Rattle.std.specs.Prelude.{◌≡◌, ℕ, List, ◌∷◌}
use Rattle.desk_history.specs.declared.answer.Answer.{Answer}
use Rattle.desk_history.specs.declared.identity.Identity.{Identity}
use Rattle.desk_book.specs.Book.{Book, book_of}
use Rattle.desk_history.specs.Message.{Message, Of, SetDay, SetHolidays, PutCompany, PutLimits, Cut, TakeFile, FileText, Settlement, Suspense, Status, Companies, Pair}
use Rattle.desk_history.specs.Operator.{answer_to, next_pair, IsHistory}
use Rattle.desk_book.specs.OnBook.{reply_on}
use Rattle.desk_book.specs.Requests.{added_row, with_added_row}
use Rattle.desk_book.specs.OnOperator.{day_answer, day_after, holidays_answer, holidays_after, company_answer, company_after, limits_answer, limits_after, file_answer, settlement_answer, suspense_answer}
use Rattle.desk_book.specs.OnCut.{cut_answer_on, cut_after}
use Rattle.desk_book.specs.OnIntake.{file_answer_on, file_after}
use Rattle.desk_book.specs.OnStatus.{status_answer}
use Rattle.desk_book.specs.OnCompanies.{companies_answer}

abbrev pub answer_on : Book → Message → Answer
answer_on b (Of c r) = reply_on b c r
answer_on b (SetDay text) = day_answer text b
answer_on b (SetHolidays days) = holidays_answer days b
answer_on b (PutCompany d) = company_answer d b
answer_on b (PutLimits d) = limits_answer d b
answer_on b Cut = cut_answer_on b
answer_on b (TakeFile file) = file_answer_on file b
answer_on b (FileText d modifier) = file_answer d modifier b
answer_on b Settlement = settlement_answer b
answer_on b Suspense = suspense_answer b
answer_on b Status = status_answer b
answer_on b Companies = companies_answer b

abbrev pub after_on : Book → Message → Book
after_on b (Of c r) = with_added_row c (added_row b c r) b
after_on b (SetDay text) = day_after text b
after_on b (SetHolidays days) = holidays_after days b
after_on b (PutCompany d) = company_after d b
after_on b (PutLimits d) = limits_after d b
after_on b Cut = cut_after b
after_on b (TakeFile file) = file_after file b
after_on b (FileText d modifier) = b
after_on b Settlement = b
after_on b Suspense = b
after_on b Status = b
after_on b Companies = b

-- the book determines each answer, and the book after each message
pub record BookTells : Type 0 where
  pub answers : (identity : Identity) (key : List ℕ) (H : List Pair) (m : Message) → IsHistory identity H
      → answer_to identity H m ≡ answer_on (book_of identity key H) m
  pub steps : (identity : Identity) (key : List ℕ) (H : List Pair) (m : Message) → IsHistory identity H
      → book_of identity key (next_pair identity H m ∷ H) ≡ after_on (book_of identity key H) m
