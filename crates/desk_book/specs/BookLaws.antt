-- The book determines all answers to a company, and each message changes it by one step.
use Rattle.std.specs.Prelude.{◌≡◌, ℕ, true, false, List, ◌∷◌, Option, Some, Ok}
use Rattle.desk_rules.specs.declared.bodies.company.Company.{Company}
use Rattle.desk_rules.specs.declared.bodies.company.Limits.{Limits}
use Rattle.desk_rules.specs.declared.bodies.draft.CompanyDraft.{CompanyDraft}
use Rattle.desk_rules.specs.declared.bodies.draft.LimitsDraft.{LimitsDraft}
use Rattle.desk_rules.specs.Operator.{company_of, new_limits_of}
use Rattle.desk_history.specs.declared.identity.Identity.{Identity}
use Rattle.desk_book.specs.Book.{book_of}
use Rattle.desk_history.specs.History.{part, message_day}
use Rattle.desk_history.specs.Message.{Message, Of, SetDay, SetHolidays, PutCompany, PutLimits, FileText, Settlement, Suspense, Status, Companies, Pair, is_accepted}
use Rattle.desk_history.specs.Operator.{answer_to, next_pair, IsHistory}
use Rattle.desk_history.specs.Reply.{reply}
use Rattle.desk_history.specs.Request.{Request}
use Rattle.desk_book.specs.Standing.{standing}
use Rattle.desk_book.specs.Steps.{set_day, set_holidays, put_company, put_limits}
use Rattle.desk_book.specs.OnBook.{standing_in, reply_on}
use Rattle.desk_book.specs.Requests.{added_row, with_added_row}

-- a company's standing and its answers follow from the book
pub record TellsReplies : Type 0 where
  pub standings : (identity : Identity) (key : List ℕ) (H : List Pair) (c : List ℕ) → IsHistory identity H
      → standing (part identity.odfi H c) ≡ standing_in (book_of identity key H) c
  pub replies : (identity : Identity) (key : List ℕ) (H : List Pair) (c : List ℕ) (r : Request) → IsHistory identity H
      → reply (part identity.odfi H c) r ≡ reply_on (book_of identity key H) c r

-- the effect on the book of a message that is neither a cut nor a file
pub record StepsOfMessages : Type 0 where
  pub asked : (identity : Identity) (key : List ℕ) (H : List Pair) (c : List ℕ) (r : Request) → IsHistory identity H
      → book_of identity key (next_pair identity H (Of c r) ∷ H) ≡ with_added_row c (added_row (book_of identity key H) c r) (book_of identity key H)
  pub day : (identity : Identity) (key : List ℕ) (H : List Pair) (text : Option (List ℕ)) (d : ℕ)
      → is_accepted (answer_to identity H (SetDay text)) ≡ true → message_day (SetDay text) ≡ Some d
      → book_of identity key (next_pair identity H (SetDay text) ∷ H) ≡ (set_day d).after (book_of identity key H)
  pub holidays : (identity : Identity) (key : List ℕ) (H : List Pair) (days : List ℕ)
      → book_of identity key (next_pair identity H (SetHolidays (Ok days)) ∷ H) ≡ (set_holidays days).after (book_of identity key H)
  pub company : (identity : Identity) (key : List ℕ) (H : List Pair) (d : CompanyDraft) → IsHistory identity H
      → is_accepted (answer_to identity H (PutCompany d)) ≡ true
      → (k : Company) → company_of d ≡ Ok k → book_of identity key (next_pair identity H (PutCompany d) ∷ H) ≡ (put_company k).after (book_of identity key H)
  pub limits : (identity : Identity) (key : List ℕ) (H : List Pair) (d : LimitsDraft)
      → is_accepted (answer_to identity H (PutLimits d)) ≡ true
      → (x : List ℕ × Limits) → new_limits_of d ≡ Ok x → book_of identity key (next_pair identity H (PutLimits d) ∷ H) ≡ (put_limits x.0 x.1).after (book_of identity key H)
  -- a refused message leaves the book as it was, and so do the reads
  pub refused : (identity : Identity) (key : List ℕ) (H : List Pair) (m : Message) → is_accepted (answer_to identity H m) ≡ false
      → ((c : List ℕ) (r : Request) → (m ≡ Of c r) → ⊥)
      → book_of identity key (next_pair identity H m ∷ H) ≡ book_of identity key H
  pub settlement : (identity : Identity) (key : List ℕ) (H : List Pair) → book_of identity key (next_pair identity H Settlement ∷ H) ≡ book_of identity key H
  pub suspense : (identity : Identity) (key : List ℕ) (H : List Pair) → book_of identity key (next_pair identity H Suspense ∷ H) ≡ book_of identity key H
  pub status : (identity : Identity) (key : List ℕ) (H : List Pair) → book_of identity key (next_pair identity H Status ∷ H) ≡ book_of identity key H
  pub companies : (identity : Identity) (key : List ℕ) (H : List Pair) → book_of identity key (next_pair identity H Companies ∷ H) ≡ book_of identity key H
  pub file_text : (identity : Identity) (key : List ℕ) (H : List Pair) (d modifier : ℕ)
      → book_of identity key (next_pair identity H (FileText d modifier) ∷ H) ≡ book_of identity key H
