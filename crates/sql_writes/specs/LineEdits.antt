-- What the statements of lines make of the tables, and what is read before them.
use Rattle.std.specs.Prelude.{◌≡◌, ⊤, ℕ, ℤ, pos, ◌+ℤ◌, List, fold, Option, unwrap_or}
use Rattle.std.specs.Ordering.{nat_cmp, on}
use Rattle.sqlite_keyed.specs.Lists.{insert_sorted}
use Rattle.sql_statements.specs.Edits.{Edit, only_tells}
use Rattle.desk_accounts.specs.declared.account.Account.{Account}
use Rattle.desk_accounts.specs.declared.posting.Posting.{Posting}
use Rattle.sql_tables.specs.Beside.{balance_of}
use Rattle.sql_tables.specs.TableEdits.{with_balance}
use Rattle.sql_tables.specs.TableReads.{sum_in}
use Rattle.sql_tables.specs.Tables.{Tables}
use Rattle.sql_tables.specs.declared.records.BalanceRecord.{BalanceRecord}

-- SELECT cents FROM balances ..: this is the sum of the account and value day
abbrev pub sum_is : Account → (value_day : ℕ) → Option ℤ → Edit Tables
sum_is account day sum = only_tells (λ t. sum ≡ sum_in account day t)

-- INSERT INTO postings, under this number
abbrev pub put_posting_edit : (number : ℕ) → Posting → Edit Tables
put_posting_edit n p = record { after = λ t. record t { postings = insert_sorted (on (λ x. x.number) nat_cmp) (record { number = n; posting = p }) t.postings }; Tells = λ _. ⊤ }

-- INSERT INTO balances .. ON CONFLICT (account, value_day) DO UPDATE SET cents = ?
abbrev pub put_balance_edit : Account → (value_day : ℕ) → (cents : ℤ) → Edit Tables
put_balance_edit account day cents = record { after = λ t. record t { balances = with_balance account day cents t.balances }; Tells = λ _. ⊤ }

-- a line is added to the balance of its account and value day
abbrev pub with_line : Posting → List BalanceRecord → List BalanceRecord
with_line p balances = with_balance p.account p.value_day (unwrap_or (balance_of balances p.account p.value_day) (pos 0) +ℤ p.cents) balances

-- lines are added to the balances of their accounts and value days, in order
abbrev pub with_lines : List Posting → List BalanceRecord → List BalanceRecord
with_lines lines balances = fold (λ sums p. with_line p sums) balances lines

-- the same in the table of balances
abbrev pub add_lines_edit : List Posting → Edit Tables
add_lines_edit lines = record { after = λ t. record t { balances = with_lines lines t.balances }; Tells = λ _. ⊤ }
