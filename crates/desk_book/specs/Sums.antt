-- A company's sums on a day, over its rows: its two exposures, and its return rates.
use Rattle.std.specs.Prelude.{ℕ, List}
use Rattle.desk_rules.specs.declared.rules.rate.Rates.{Rates}
use Rattle.desk_rules.specs.Exposure.{credit_exposure, debit_exposure}
use Rattle.desk_rules.specs.ReturnRates.{rates}
use Rattle.desk_book.specs.declared.row.Row.{Row}
use Rattle.desk_book.specs.Book.{Book}
use Rattle.desk_book.specs.Standing.{facts_in}

-- the credit exposure and the debit exposure of rows
abbrev pub exposures_on : List Row → (day : ℕ) → (holidays : List ℕ) → ℕ × ℕ
exposures_on rs day holidays = (credit_exposure (facts_in rs) day, debit_exposure (facts_in rs) day holidays)

-- those of a company, by the holidays of the book
abbrev pub exposures_of : (company : List ℕ) → (day : ℕ) → Book → ℕ × ℕ
exposures_of c day b = exposures_on (b.rows c) day b.holidays

-- a company's return rates
abbrev pub rates_of : (company : List ℕ) → (day : ℕ) → Book → Rates
rates_of c day b = rates (facts_in (b.rows c)) day
