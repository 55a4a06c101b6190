-- The items that name no sent entry.
use Rattle.std.specs.Prelude.{ℕ}
use Rattle.sql_tables.specs.TableReads.{number_of_last}
use Rattle.sql_tables.specs.Tables.{Tables}

-- SELECT no .. ORDER BY no DESC LIMIT 1: the number of the last item, 0 before the first
abbrev pub last_suspense_in : Tables → ℕ
last_suspense_in t = number_of_last (λ s. s.number) t.suspense
