-- Balances to which lines were added in memory, and whose rows do not have these lines yet.
use Rattle.std.specs.Prelude.{◌≡◌, IsTrue, ℕ, ℤ, Bool, ◌&&◌, ◌==◌, List, find, Option, option_map, Result}
use Rattle.std.specs.List.{position_or_len}
use Rattle.std.specs.Option.{option_or}
use Rattle.sqlite_trees.specs.declared.store.Store.{Ghosts}
use Rattle.sqlite.specs.State.{State}
use Rattle.sqlite.specs.declared.transaction.Transaction.{Transaction}
use Rattle.sql_statements.specs.Layouts.{Holds}
use Rattle.desk_accounts.specs.declared.account.Account.{Account}
use Rattle.desk_accounts.specs.declared.posting.Posting.{Posting}
use Rattle.desk_accounts.specs.Posting.{same_account}
use Rattle.sql_statements.specs.Promises.{GoesOn, Runs}
use Rattle.sql_tables.specs.Beside.{balance_of}
use Rattle.sql_tables.specs.Description.{key_cmp}
use Rattle.sql_tables.specs.DeskTables as the
use Rattle.sql_tables.specs.KeyOrders.{IsInOrder}
use Rattle.sql_tables.specs.Layout.{desk_layout}
use Rattle.sql_tables.specs.Tables.{Tables}
use Rattle.sql_tables.specs.declared.records.BalanceRecord.{BalanceRecord}
use Rattle.sql_writes.specs.LineEdits.{with_line}
use Rattle.sql_writes.specs.declared.account_lines.pending.PendingBalance.{PendingBalance}

abbrev pub is_pending_of : Account → (value_day : ℕ) → PendingBalance → Bool
is_pending_of account day b = same_account b.account account && b.value_day == day

-- the balance of a line's account and value day, with this sum
abbrev pub summed : Posting → (cents : ℤ) → PendingBalance
summed p cents = record { account = p.account; value_day = p.value_day; cents = cents }

-- the place of the balance of a line's account and value day, or after the last where there is none
abbrev pub pending_place : Posting → List PendingBalance → ℕ
pending_place p pending = position_or_len (is_pending_of p.account p.value_day) pending

-- the pending sum of an account and value day: of the first such balance
abbrev pub pending_of : List PendingBalance → Account → (value_day : ℕ) → Option ℤ
pending_of pending account day = option_map (λ b. b.cents) (find (is_pending_of account day) pending)

-- in these balances the pending ones stand in place of the rows
pub record StandsFor (pending : List PendingBalance) (rows balances : List BalanceRecord) : Type 0 where
  pub rise : IsInOrder (key_cmp the.balances) balances
  pub found : (account : Account) (day : ℕ) → balance_of balances account day ≡ option_or (pending_of pending account day) (balance_of rows account day)

-- the line is added to a pending balance
abbrev pub AddsLine : Posting → (before after : List PendingBalance) → Type 0
AddsLine p before after = (rows balances : List BalanceRecord) → StandsFor before rows balances → StandsFor after rows (with_line p balances)

-- Inside a transaction the balances become these, but for what is pending: in the rows before it these balances were
-- missing, and those are missing after it.
pub record IsMadeBut (before after : List PendingBalance) (become : List BalanceRecord → List BalanceRecord) (old new : State) : Type 0 where
  pub shown : GoesOn old new
  pub holds : (t : Tables) (balances : List BalanceRecord) → Holds desk_layout old.now t → StandsFor before t.balances balances
      → (rows : List BalanceRecord) × Holds desk_layout new.now (record t { balances = rows }) × StandsFor after rows (become balances)

-- the same, of whatever runs inside a transaction of an open store
abbrev pub MakesBut : (before after : List PendingBalance) → (become : List BalanceRecord → List BalanceRecord) → State → State → Type 0
MakesBut before after become old new = IsTrue old.in_transaction → IsTrue old.is_open → IsMadeBut before after become old new

module _ {S : Type 0} (g : Ghosts S) where
  -- Where it went well, the line is added to the balances, but for what is pending.
  abbrev pub AddsBut : {A E : Type 0} → (old new : Transaction S) → Result A E
      → (before after : List PendingBalance) → Posting → Type 0
  AddsBut old new result before after p = Runs g old.conn new.conn result (MakesBut before after (with_line p))

  -- Where it went well, the balances are as they were, but for what is pending.
  abbrev pub KeepsBut : {A E : Type 0} → (old new : Transaction S) → Result A E
      → (before after : List PendingBalance) → Type 0
  KeepsBut old new result before after = Runs g old.conn new.conn result (MakesBut before after (λ balances. balances))
