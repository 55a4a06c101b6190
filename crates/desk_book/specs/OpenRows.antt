-- Which of a company's rows still count for its exposures: what settled long enough ago adds nothing.
use Rattle.std.specs.Prelude.{◌≡◌, ◌<◌, ◌≤◌, ℕ, Bool, List, filter}
use Rattle.std.specs.List.{list_any}
use Rattle.bank_days.specs.Calendar.{nth_after}
use Rattle.desk_rules.specs.Exposure.{is_open_credit}
use Rattle.desk_book.specs.declared.row.Row.{Row}
use Rattle.desk_book.specs.Sums.{exposures_on}

-- one of its entries is held, or settled on the day or later; returned entries count too
abbrev pub is_open_row : (since : ℕ) → Row → Bool
is_open_row since row = list_any (λ state. is_open_credit state since) row.states

abbrev pub open_rows : (since : ℕ) → List Row → List Row
open_rows since rows = filter (is_open_row since) rows

-- what settled before the first day has its second banking day before the other
pub record IsPast (since day : ℕ) (holidays : List ℕ) : Type 0 where
  pub within : since ≤ day
  pub past : (settled : ℕ) → settled < since → nth_after holidays settled 2 < day

-- both exposures of the open rows are those of all rows
abbrev pub OpenRowsSuffice : Type 0
OpenRowsSuffice = (rows : List Row) (since day : ℕ) (holidays : List ℕ) → IsPast since day holidays → exposures_on (open_rows since rows) day holidays ≡ exposures_on rows day holidays
