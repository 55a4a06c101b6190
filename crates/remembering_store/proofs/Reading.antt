-- Exposures are read off what is remembered.
use Rattle.std.proofs.Common.{◌≡◌, ℕ, ◌+◌, ◌≤◌, true, false, List, arith}
use Rattle.std.proofs.lemmas.Bool.{lt-leb}
use Rattle.bank_days.specs.Calendar.{nth_after}
use Rattle.desk_book.specs.declared.row.Row.{Row}
use Rattle.desk_book.specs.Standing.{facts_in}
use Rattle.desk_book.specs.OpenRows.{IsPast}
use Rattle.desk_book.specs.Sums.{exposures_on}
use Rattle.remembering_store.specs.OpenSums.{from_day, comes_back_by}
use Rattle.remembering_store.specs.Kept.{held_in, settled_in}
use Rattle.remembering_store.specs.Remembered.{AreSince, AreSums}
use Rattle.remembering_store.specs.declared.sums.company_sums.Sums.{Sums}
use Rattle.remembering_store.proofs.ReadOff.{credit_read, debit_read}

module _ (since first today : ℕ) (holidays : List ℕ) (past : IsPast first today holidays) (up : since ≤ first) where
  credits_since : AreSince since (from_day today)
  credits_since day before = let within = past.within in lt-leb today day (omega (arith, before, up, within))

  debits_since : AreSince since (comes_back_by today holidays)
  debits_since day before = lt-leb today (nth_after holidays day 2) (past.past day (omega (arith, before, up)))

  pub read_right : (sums : Sums) (rs : List Row) → AreSums since sums rs → (x : ℕ × ℕ)
      → (x.0 ≡ held_in false sums + settled_in false (from_day today) sums) × (x.1 ≡ held_in true sums + settled_in true (comes_back_by today holidays) sums)
      → x ≡ exposures_on rs today holidays
  read_right sums rs are x is i = (credit i, debit i) where
    credit : x.0 ≡ (exposures_on rs today holidays).0
    credit =
        let a = is.0 in
        let b = are.held false in
        let c = are.settled false (from_day today) credits_since in
        let d = credit_read (facts_in rs) today in
        omega (arith, a, b, c, d)

    debit : x.1 ≡ (exposures_on rs today holidays).1
    debit =
        let a = is.1 in
        let b = are.held true in
        let c = are.settled true (comes_back_by today holidays) debits_since in
        let d = debit_read (facts_in rs) today holidays in
        omega (arith, a, b, c, d)
