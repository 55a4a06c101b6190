-- The book determines the answer to each message, because it does so for each kind.
use Rattle.std.proofs.Common.{◌≡◌, ℕ, List, ◌∷◌}
use Rattle.desk_history.specs.declared.identity.Identity.{Identity}
use Rattle.desk_book.specs.Book.{book_of}
use Rattle.desk_history.specs.Message.{Message, Of, SetDay, SetHolidays, PutCompany, PutLimits, Cut, TakeFile, FileText, Settlement, Suspense, Status, Companies, Pair}
use Rattle.desk_history.specs.Operator.{answer_to, next_pair, IsHistory}
use Rattle.desk_book.specs.BookLaws.{TellsReplies, StepsOfMessages}
use Rattle.desk_book.specs.OperatorLaws.{TellsOperator, StepsOfOperator}
use Rattle.desk_book.specs.CutLaws.{TellsCut}
use Rattle.desk_book.specs.IntakeLaws.{TellsIntake}
use Rattle.desk_book.specs.StatusLaws.{TellsStatus}
use Rattle.desk_book.specs.CompaniesLaws.{TellsCompanies}
use Rattle.desk_book.specs.OnMessages.{answer_on, after_on, BookTells}

pub book_tells : TellsReplies → StepsOfMessages → TellsOperator → StepsOfOperator → TellsCut → TellsIntake → TellsStatus → TellsCompanies → BookTells
book_tells replies steps operator sets cut file status companies = record { answers = answers; steps = behind } where
  answers : (identity : Identity) (key : List ℕ) (H : List Pair) (m : Message) → IsHistory identity H → answer_to identity H m ≡ answer_on (book_of identity key H) m
  answers identity key H (Of c r) is = replies.replies identity key H c r is
  answers identity key H (SetDay text) is = operator.day identity key H text
  answers identity key H (SetHolidays days) is = operator.holidays identity key H days
  answers identity key H (PutCompany d) is = operator.company identity key H d
  answers identity key H (PutLimits d) is = operator.limits identity key H d
  answers identity key H Cut is = cut.answer identity key H is
  answers identity key H (TakeFile f) is = file.answer identity key H f is
  answers identity key H (FileText d modifier) is = operator.file_text identity key H d modifier
  answers identity key H Settlement is = operator.settlement identity key H
  answers identity key H Suspense is = operator.suspense identity key H
  answers identity key H Status is = status identity key H is
  answers identity key H Companies is = companies identity key H is

  behind : (identity : Identity) (key : List ℕ) (H : List Pair) (m : Message) → IsHistory identity H → book_of identity key (next_pair identity H m ∷ H) ≡ after_on (book_of identity key H) m
  behind identity key H (Of c r) is = steps.asked identity key H c r is
  behind identity key H (SetDay text) is = sets.day identity key H text
  behind identity key H (SetHolidays days) is = sets.holidays identity key H days
  behind identity key H (PutCompany d) is = sets.company identity key H d is
  behind identity key H (PutLimits d) is = sets.limits identity key H d
  behind identity key H Cut is = cut.step identity key H is
  behind identity key H (TakeFile f) is = file.step identity key H f is
  behind identity key H (FileText d modifier) is = steps.file_text identity key H d modifier
  behind identity key H Settlement is = steps.settlement identity key H
  behind identity key H Suspense is = steps.suspense identity key H
  behind identity key H Status is = steps.status identity key H
  behind identity key H Companies is = steps.companies identity key H
