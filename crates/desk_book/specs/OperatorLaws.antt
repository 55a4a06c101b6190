-- The book determines the operator's answers, except to a cut and to a file, and the effect of commands on the book.
use Rattle.std.specs.Prelude.{◌≡◌, ℕ, List, ◌∷◌, Option, Result}
use Rattle.bank_days.specs.declared.calendar_fault.CalendarFault.{CalendarFault}
use Rattle.desk_rules.specs.declared.bodies.draft.CompanyDraft.{CompanyDraft}
use Rattle.desk_rules.specs.declared.bodies.draft.LimitsDraft.{LimitsDraft}
use Rattle.desk_history.specs.declared.identity.Identity.{Identity}
use Rattle.desk_book.specs.Book.{book_of}
use Rattle.desk_history.specs.Message.{SetDay, SetHolidays, PutCompany, PutLimits, FileText, Settlement, Suspense, Pair}
use Rattle.desk_history.specs.Operator.{answer_to, next_pair, IsHistory}
use Rattle.desk_book.specs.OnOperator.{day_answer, day_after, holidays_answer, holidays_after, company_answer, company_after, limits_answer, limits_after, file_answer, settlement_answer, suspense_answer}

-- the answers follow from the book
pub record TellsOperator : Type 0 where
  pub day : (identity : Identity) (key : List ℕ) (H : List Pair) (text : Option (List ℕ))
      → answer_to identity H (SetDay text) ≡ day_answer text (book_of identity key H)
  pub holidays : (identity : Identity) (key : List ℕ) (H : List Pair) (days : Result (List ℕ) CalendarFault)
      → answer_to identity H (SetHolidays days) ≡ holidays_answer days (book_of identity key H)
  pub company : (identity : Identity) (key : List ℕ) (H : List Pair) (d : CompanyDraft)
      → answer_to identity H (PutCompany d) ≡ company_answer d (book_of identity key H)
  pub limits : (identity : Identity) (key : List ℕ) (H : List Pair) (d : LimitsDraft)
      → answer_to identity H (PutLimits d) ≡ limits_answer d (book_of identity key H)
  pub file_text : (identity : Identity) (key : List ℕ) (H : List Pair) (d modifier : ℕ)
      → answer_to identity H (FileText d modifier) ≡ file_answer d modifier (book_of identity key H)
  pub settlement : (identity : Identity) (key : List ℕ) (H : List Pair)
      → answer_to identity H Settlement ≡ settlement_answer (book_of identity key H)
  pub suspense : (identity : Identity) (key : List ℕ) (H : List Pair)
      → answer_to identity H Suspense ≡ suspense_answer (book_of identity key H)

-- the book after a command is that of the history with the command
pub record StepsOfOperator : Type 0 where
  pub day : (identity : Identity) (key : List ℕ) (H : List Pair) (text : Option (List ℕ))
      → book_of identity key (next_pair identity H (SetDay text) ∷ H) ≡ day_after text (book_of identity key H)
  pub holidays : (identity : Identity) (key : List ℕ) (H : List Pair) (days : Result (List ℕ) CalendarFault)
      → book_of identity key (next_pair identity H (SetHolidays days) ∷ H) ≡ holidays_after days (book_of identity key H)
  pub company : (identity : Identity) (key : List ℕ) (H : List Pair) (d : CompanyDraft) → IsHistory identity H
      → book_of identity key (next_pair identity H (PutCompany d) ∷ H) ≡ company_after d (book_of identity key H)
  pub limits : (identity : Identity) (key : List ℕ) (H : List Pair) (d : LimitsDraft)
      → book_of identity key (next_pair identity H (PutLimits d) ∷ H) ≡ limits_after d (book_of identity key H)
