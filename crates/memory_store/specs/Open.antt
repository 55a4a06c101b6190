-- Which submissions may have an open entry, by the day on which they settled.
use Rattle.std.specs.Prelude.{◌≡◌, ◌&&◌, ℕ, Bool, true, nat_le, Option, None, Some}
use Rattle.desk_book.specs.OpenRows.{is_open_row}
use Rattle.desk_book.specs.declared.row.Row.{Row}
use Rattle.desk_store.specs.Rows.{CompanyRow}

-- whether a submission may have an open entry, by the day on which it settled
abbrev pub may_be_open : (since : ℕ) → (settled : Option ℕ) → Bool
may_be_open since None = true
may_be_open since (Some settled) = nat_le since settled

-- whether it may have, and has
abbrev pub is_found_open : (since : ℕ) → Row → Bool
is_found_open since row = may_be_open since row.settled && is_open_row since row

-- no entry of a submission is open that settled before the day: so it is found open if it is
abbrev pub IsBounded : CompanyRow → Type 0
IsBounded x = (since : ℕ) → is_found_open since x.row ≡ is_open_row since x.row
