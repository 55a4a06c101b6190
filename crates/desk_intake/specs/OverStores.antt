-- The promises of a function over a store about an incoming file. `g` gives the books that a store holds and what a
-- crash leaves of it.
use Rattle.std.specs.Prelude.{ℕ, true, List, Result, Ok}
use Rattle.ach_files.specs.declared.fault.Fault.{Fault}
use Rattle.ach_files.specs.Facts.{FileFacts}
use Rattle.desk_history.specs.declared.answer.Answer.{Answer}
use Rattle.desk_history.specs.Calls.{IsFileOf}
use Rattle.desk_history.specs.Message.{TakeFile}
use Rattle.desk_history.specs.Operator.{intake_answer}
use Rattle.desk_book.specs.Book.{Book}
use Rattle.desk_book.specs.OnIntake.{Taking, file_after, file_answer_on, taking_answer, with_taking}
use Rattle.desk_book.specs.Steps.{commit_intake}
use Rattle.desk_book.specs.Writes.{is_new_taking, writes_on}
use Rattle.desk_store.specs.declared.store.Store.{Ghosts}
use Rattle.desk_store.specs.declared.store.StoreFault.{StoreFault}
use Rattle.desk_admission.specs.Answering.{Answers, HoldsFor, LeavesCall}
use Rattle.desk_admission.specs.OverStores.{AnswersWhere, AnswersWith}
use Rattle.desk_intake.specs.declared.plan.IntakePlan.{IntakePlan}
use Rattle.desk_intake.specs.Plans.{plan_write}

-- this is so of the file that the bytes are, or of its first fault
abbrev pub OfFile : (bytes : List ℕ) → (Result FileFacts Fault → Type 0) → Type 0
OfFile bytes Is = (file : Result FileFacts Fault) → IsFileOf bytes (TakeFile file) → Is file

module _ {S : Type 0} (g : Ghosts S) where
  -- A file is so taken by the book that the store holds: this is answered, and written if the file is new.
  abbrev pub TakesFile : (old new : S) → Result Answer StoreFault → (Book → Taking) → Type 0
  TakesFile old new result taking =
      AnswersWith g old new result (λ b. is_new_taking (taking b))
      (λ b. taking_answer (taking b)) (λ b. with_taking (taking b) b)

  -- A plan is written to a book to which it may be, and its counts are answered.
  abbrev pub WritesPlan : (old new : S) → Result Answer StoreFault → IntakePlan → Type 0
  WritesPlan old new result p =
      AnswersWhere g old new (HoldsFor (g.holds old) (commit_intake (plan_write p))) result
      (λ b. true) (λ b. intake_answer (Ok p.file.answer)) (commit_intake (plan_write p)).after

  -- If the store is clean when the call ends, the answer is the one to the file that the bytes spell.
  abbrev pub AnswersFile : (old new : S) → Result Answer StoreFault → (bytes : List ℕ) → Type 0
  AnswersFile old new result bytes =
      g.is_clean new → OfFile bytes (λ file.
      Answers (g.holds old) result (file_answer_on file) (file_after file) (g.holds new))

  -- If the store is clean when the call ends, a crash leaves the book after that file, or what it could leave before.
  abbrev pub LeavesFile : (old new : S) → Result Answer StoreFault → (bytes : List ℕ) → Type 0
  LeavesFile old new result bytes =
      g.is_clean new → OfFile bytes (λ file.
      LeavesCall g.keeps (g.holds old) (g.may_leave old) result
      (λ b. writes_on b (TakeFile file)) (file_after file) (g.may_leave new))
