-- Rows: what a desk holds of a company is a function of its part, and verdicts and steps over rows are
-- those of the definitions over events.
use Rattle.std.specs.Prelude.{◌≡◌, ℕ, List, ◌∷◌, option_map, option_and_then, Result, Ok, Err}
use Rattle.desk_accounts.specs.declared.account.Account.TheVariants as accounts
use Rattle.desk_accounts.specs.Balance.{lines_of}
use Rattle.desk_rules.specs.declared.bodies.company.Limits.{Limits}
use Rattle.desk_rules.specs.declared.bodies.draft.Draft.{Draft}
use Rattle.desk_rules.specs.declared.bodies.draft.RetryDraft.{RetryDraft}
use Rattle.desk_rules.specs.declared.refusals.refusal.Refusal.{Refusal}
use Rattle.desk_book.specs.declared.row.Row.{Row}
use Rattle.desk_history.specs.Request.{Request}
use Rattle.desk_history.specs.Part.{Event, DaySet, HolidaysSet, Registered, Limited, Asked, CutMade, Returned, Changed, digest}
use Rattle.desk_history.specs.Possible.{IsPossible}
use Rattle.desk_history.specs.Accepted.{AcceptedSubmission}
use Rattle.desk_history.specs.Facts.{facts}
use Rattle.desk_history.specs.Acceptance.{submissions, accepted_submission, accepted_retry}
use Rattle.desk_history.specs.Reports.{submission_under, settlement_under}
use Rattle.desk_book.specs.Book.{book_of, rows, row_of}
use Rattle.desk_history.specs.History.{part}
use Rattle.desk_history.specs.Operator.{IsHistory}
use Rattle.desk_history.specs.Message.{Pair}
use Rattle.desk_history.specs.declared.identity.Identity.{Identity}
use Rattle.desk_book.specs.declared.caller.Caller.TheVariants as callers
use Rattle.desk_book.specs.Reads.{company, key_of}
use Rattle.desk_book.specs.Standing.{standing, row_under, facts_in, submission_row, retry_row, rows_after_request, rows_after_cut, rows_after_return}

-- the row of what is accepted, or the refusal
abbrev pub row_of_result : List Event → Result AcceptedSubmission Refusal → Result Row Refusal
row_of_result P (Ok a) = Ok (row_of P a)
row_of_result P (Err why) = Err why

pub record VerdictsOnRows : Type 0 where
  pub facts : (P : List Event) → facts P (submissions P) ≡ facts_in (rows P)
  pub under : (P : List Event) (reference : List ℕ) → option_map (row_of P) (submission_under P reference) ≡ row_under (rows P) reference
  pub settled : (P : List Event) (reference : List ℕ) → settlement_under P reference ≡ option_and_then (λ row. row.settled) (row_under (rows P) reference)
  pub submitted : (P : List Event) (d : Draft) → row_of_result P (accepted_submission P (submissions P) d) ≡ submission_row (standing P) d
  pub retried : (P : List Event) (d : RetryDraft) → row_of_result P (accepted_retry P (submissions P) d) ≡ retry_row (standing P) d

-- what a request, a cut and a return make of a company's rows, and that no other event changes them
pub record RowSteps : Type 0 where
  pub asked : (P : List Event) (r : Request) → rows (Asked r ∷ P) ≡ rows_after_request (standing P) r
  pub cut : (P : List Event) → IsPossible P → rows (CutMade ∷ P) ≡ rows_after_cut (standing P)
  pub returned : (P : List Event) (reference : List ℕ) (index code : ℕ) (information : List ℕ)
      → IsPossible (Returned reference index code information ∷ P)
      → rows (Returned reference index code information ∷ P) ≡ rows_after_return (standing P) reference index code
  pub day : (P : List Event) (d : ℕ) → rows (DaySet d ∷ P) ≡ rows P
  pub holidays : (P : List Event) (days : List ℕ) → rows (HolidaysSet days ∷ P) ≡ rows P
  pub registered : (P : List Event) (name digest : List ℕ) (l : Limits) → rows (Registered name digest l ∷ P) ≡ rows P
  pub limited : (P : List Event) (l : Limits) → rows (Limited l ∷ P) ≡ rows P
  pub changed : (P : List Event) (reference : List ℕ) (index : ℕ) (code text : List ℕ) → rows (Changed reference index code text ∷ P) ≡ rows P

-- two desks hold the same of a company: its submissions, returns and changes
pub record SameRows (here there : Identity) (key other_key : List ℕ) (H G : List Pair) (c : List ℕ) : Type 0 where
  pub rows : (book_of here key H).rows c ≡ (book_of there other_key G).rows c
  pub returns : (book_of here key H).returns c ≡ (book_of there other_key G).returns c
  pub changes : (book_of here key H).changes c ≡ (book_of there other_key G).changes c

-- its own row, which has its name, its digest and its limits, and the lines of its account
pub record SameAccount (here there : Identity) (key other_key : List ℕ) (H G : List Pair) (c : List ℕ) : Type 0 where
  pub company : company c (book_of here key H) ≡ company c (book_of there other_key G)
  pub lines : lines_of (accounts.Company c) (book_of here key H).postings ≡ lines_of (accounts.Company c) (book_of there other_key G).postings

-- All that a desk holds of a company is a function of its part.
pub record RowsOfPart : Type 0 where
  pub rows : (here there : Identity) (key other_key : List ℕ) (H G : List Pair) (c : List ℕ)
      → part here.odfi H c ≡ part there.odfi G c → SameRows here there key other_key H G c
  pub account : (here there : Identity) (key other_key : List ℕ) (H G : List Pair) (c : List ℕ) → IsHistory here H → IsHistory there G
      → part here.odfi H c ≡ part there.odfi G c → SameAccount here there key other_key H G c
  -- whether a key is the company's follows from the part alone
  pub key : (identity : Identity) (key : List ℕ) (H : List Pair) (c : List ℕ) → IsHistory identity H
      → key_of (callers.Company c) (book_of identity key H) ≡ digest (part identity.odfi H c)
