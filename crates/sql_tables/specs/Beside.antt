-- What the flat rows of a desk obey beside their tables.
use Rattle.std.specs.Prelude.{◌≡◌, ◌≤◌, ℕ, ℤ, Bool, true, false, ◌&&◌, ◌==◌, List, [], ◌∷◌, map, filter, filter_map, find, length, All, AllPairs, Contains, IsSome, Option, Some, None, option_map, option_and_then, bytes_eq}
use Rattle.std.specs.Int.{IsInRange}
use Rattle.std.specs.List.{enumerate_from, range_with_len}
use Rattle.ach_fields.specs.Trace.{most_sequence}
use Rattle.desk_accounts.specs.declared.account.Account.{Account}
use Rattle.desk_accounts.specs.declared.posting.Posting.{Posting}
use Rattle.desk_accounts.specs.Balance.{lines_of, lines_on, total}
use Rattle.desk_accounts.specs.Posting.{same_account}
use Rattle.desk_history.specs.declared.sent_entry.SentEntry.{SentEntry}
use Rattle.desk_rules.specs.LimitChecks.{is_debit}
use Rattle.desk_book.specs.declared.flat_rows.ReturnedRow.{ReturnedRow}
use Rattle.desk_book.specs.declared.flat_rows.SentRow.{SentRow}
use Rattle.desk_store.specs.Rows.{CompanyRow, Rows, is_printed_of}
use Rattle.sql_tables.specs.Encodes.{is_entry, is_submission_under}
use Rattle.sql_tables.specs.Tables.{Tables}
use Rattle.sql_tables.specs.declared.records.BalanceRecord.{BalanceRecord}

abbrev pub is_of_company : List ℕ → CompanyRow → Bool
is_of_company c x = bytes_eq x.company c

abbrev pub orders_of : List CompanyRow → (company : List ℕ) → List ℕ
orders_of rows c = map (λ x. x.row.order) (filter (is_of_company c) rows)

-- each company's order numbers are 1, 2, and so on
abbrev pub AreNumbered : List CompanyRow → Type 0
AreNumbered rows = (company : List ℕ) → orders_of rows company ≡ range_with_len 1 (length (orders_of rows company))

-- under a reference a company has one submission at most
abbrev pub AreUnderReferences : List CompanyRow → Type 0
AreUnderReferences rows = (company reference : List ℕ) → length (filter (is_submission_under company reference) rows) ≤ 1

abbrev pub is_submission : (company : List ℕ) → (order : ℕ) → CompanyRow → Bool
is_submission c order x = bytes_eq x.company c && x.row.order == order

-- What settles was printed once, for that day, and nothing else was printed.
abbrev pub ArePrinted : List SentRow → List CompanyRow → Type 0
ArePrinted printed rows = (company : List ℕ) (order : ℕ) →
    map (λ s. s.settled) (filter (is_printed_of company order) printed) ≡ filter_map (λ x. x.row.settled) (filter (is_submission company order) rows)

-- what lapsed does not settle
abbrev pub LapsesUnsettled : CompanyRow → Type 0
LapsesUnsettled x = x.row.lapsed ≡ true → x.row.settled ≡ None

-- what came back is an entry of a submission that settled
abbrev pub ReturnsSettled : List CompanyRow → ReturnedRow → Type 0
ReturnsSettled rows r = IsSome (option_and_then (λ x. x.row.settled) (find (is_submission_under r.company r.row.reference) rows))

-- an entry that was sent is one of a submission that settles on its day, as it stands there
pub record IsSentFrom (rows : List CompanyRow) (e : SentEntry) : Type 0 where
  pub from : CompanyRow
  pub stands : Contains rows from
  pub company : from.company ≡ e.company
  pub content : (from.row.order ≡ e.order) × (from.row.content.reference ≡ e.reference) × (from.row.content.sec ≡ e.sec) × (is_debit from.row.content.direction ≡ e.debit)
  pub settles : from.row.settled ≡ Some e.settled
  pub entry : Contains (enumerate_from 1 from.row.content.entries) (e.index, e.entry)

-- the two are not one entry
abbrev pub AreApart : SentEntry → SentEntry → Type 0
AreApart e f = is_entry e.company e.order e.index f ≡ false

-- the sum of lines, where there are any
abbrev pub sum_if_any : List Posting → Option ℤ
sum_if_any [] = None
sum_if_any (line ∷ lines) = Some (total (line ∷ lines))

abbrev pub is_balance_of : Account → (value_day : ℕ) → BalanceRecord → Bool
is_balance_of account day b = same_account b.account account && b.value_day == day

abbrev pub balance_of : List BalanceRecord → Account → (value_day : ℕ) → Option ℤ
balance_of balances account day = option_map (λ b. b.cents) (find (is_balance_of account day) balances)

-- each account has a balance of each value day of its lines, their sum, and no other balance
abbrev pub AreSums : List BalanceRecord → List Posting → Type 0
AreSums balances postings = (account : Account) (day : ℕ) → balance_of balances account day ≡ sum_if_any (lines_on day (lines_of account postings))

pub record Beside (t : Tables) (r : Rows) : Type 0 where
  pub orders : AreNumbered r.submissions
  pub references : AreUnderReferences r.submissions
  pub printed : ArePrinted r.printed r.submissions
  pub lapsed : All LapsesUnsettled r.submissions
  pub back : All (ReturnsSettled r.submissions) r.returned
  pub sent : All (IsSentFrom r.submissions) r.sent
  pub apart : AllPairs AreApart r.sent
  pub sequences : All (λ e. IsInRange 1 most_sequence e.sequence) r.sent
  pub sums : AreSums t.balances r.postings
