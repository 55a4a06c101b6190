-- Postings: each has its opposite, all accounts sum to zero, and a company's lines are its statement's.
use Rattle.std.specs.Prelude.{◌≡◌, ◌≢◌, ℕ, List, ◌∷◌, map, All, pos, Some}
use Rattle.desk_accounts.specs.declared.account.Account.{Account}
use Rattle.desk_accounts.specs.declared.account.Account.TheVariants.{Company, Operator, Suspense}
use Rattle.desk_accounts.specs.declared.posting.Posting.{Posting}
use Rattle.desk_accounts.specs.Balance.{lines_of, lines_until, total, balance}
use Rattle.desk_accounts.specs.Laws.{pairs}
use Rattle.desk_accounts.specs.Sums.{sum_of}
use Rattle.desk_history.specs.declared.identity.Identity.{Identity}
use Rattle.desk_history.specs.declared.reports.StatementLine.{StatementLine}
use Rattle.desk_history.specs.Message.{Pair}
use Rattle.desk_history.specs.Reports.{lines}
use Rattle.desk_history.specs.History.{companies, part}
use Rattle.desk_history.specs.Operator.{IsHistory}
use Rattle.desk_history.specs.Postings.{own_lines, postings}

-- the account of each company, of the operator and of suspense
abbrev pub all_accounts : List Pair → List Account
all_accounts H = Operator ∷ Suspense ∷ map (λ k. Company k.id) (companies H)

pub record AccountsCancel : Type 0 where
  -- each posting of a company or of suspense has its opposite on the operator's account after it
  pub opposites : (odfi : List ℕ) (H : List Pair) → postings odfi H ≡ pairs (own_lines odfi H)
  pub own : (odfi : List ℕ) (H : List Pair) → All (λ line. line.account ≢ Operator) (own_lines odfi H)
  -- on each day all lines sum to zero, and so do the balances of all accounts
  pub lines : (odfi : List ℕ) (H : List Pair) (d : ℕ) → total (lines_until d (postings odfi H)) ≡ pos 0
  pub accounts : (identity : Identity) (H : List Pair) (d : ℕ) → IsHistory identity H
      → sum_of (λ account. balance account d (postings identity.odfi H)) (all_accounts H) ≡ pos 0

-- a line of a statement as it is posted
abbrev pub posting_of : List ℕ → StatementLine → Posting
posting_of c l = record { account = Company c; value_day = l.day; cents = l.cents; cause = l.cause; reference = Some l.reference; idx = l.index }

-- The postings of a company's account are the lines of its statement.
abbrev pub CompanyLines : Type 0
CompanyLines = (identity : Identity) (H : List Pair) (c : List ℕ) → IsHistory identity H
    → lines_of (Company c) (postings identity.odfi H) ≡ map (posting_of c) (lines (part identity.odfi H c))
