-- What is remembered of a company, and when it agrees with the company's rows.
use Rattle.std.specs.Prelude.{◌≡◌, ◌<◌, ⊤, ℕ, Bool, true, false, List, map, length, Option, Some, None, IfSome, is_some}
use Rattle.std.specs.List.{range_with_len, AllByRecursion}
use Rattle.desk_book.specs.declared.row.Row.{Row}
use Rattle.desk_book.specs.Standing.{facts_in}
use Rattle.desk_book.specs.OpenRows.{is_open_row}
use Rattle.desk_rules.specs.declared.rules.entry_fact.EntryFact.{EntryFact}
use Rattle.desk_rules.specs.declared.rules.entry_fact.EntryState.TheVariants.{Held}
use Rattle.remembering_store.specs.OpenSums.{held_credits, held_debits, credits_on, debits_on}
use Rattle.remembering_store.specs.Kept.{held_in, settled_in}
use Rattle.remembering_store.specs.KnownRow.{KnownRow, Fits}
use Rattle.remembering_store.specs.Laws.{rows_at}
use Rattle.remembering_store.specs.OpenRows.{row_in, order_in, Adds}
use Rattle.remembering_store.specs.declared.sums.company_sums.Sums.{Sums}
use Rattle.remembering_store.specs.declared.sums.open_rows.OpenRows.{OpenRows}
use Rattle.remembering_store.specs.declared.sums.remembered.Remembered.{Remembered}

-- what is held in a direction
abbrev pub held_of : (debit : Bool) → List EntryFact → ℕ
held_of true facts = held_debits facts
held_of false facts = held_credits facts

-- what settles on these days in a direction
abbrev pub settled_of : (debit : Bool) → (days : ℕ → Bool) → List EntryFact → ℕ
settled_of true days facts = debits_on days facts
settled_of false days facts = credits_on days facts

-- the test holds for no day before this one
abbrev pub AreSince : (since : ℕ) → (ℕ → Bool) → Type 0
AreSince since days = (day : ℕ) → day < since → days day ≡ false

-- the sums agree with the rows for all days from `since` on
pub record AreSums (since : ℕ) (sums : Sums) (rs : List Row) : Type 0 where
  pub held : (debit : Bool) → held_in debit sums ≡ held_of debit (facts_in rs)
  pub settled : (debit : Bool) (days : ℕ → Bool) → AreSince since days → settled_in debit days sums ≡ settled_of debit days (facts_in rs)

-- what is kept of a row agrees with it; a row of which nothing is kept is not open since that day
abbrev pub IsKeptAs : (since : ℕ) → Row → Option KnownRow → Type 0
IsKeptAs since row None = is_open_row since row ≡ false
IsKeptAs since row (Some k) = Fits k row

-- what is kept agrees with the rows
pub record AreRows (since : ℕ) (m : OpenRows) (rs : List Row) : Type 0 where
  pub each : AllByRecursion (λ row. IsKeptAs since row (row_in row.order m)) rs
  -- a kept order number is that of exactly one row
  pub once : (order : ℕ) → IfSome (row_in order m) (λ k. length (rows_at order rs) ≡ 1)
  pub named : (order : ℕ) → IfSome (row_in order m) (λ k. order_in k.reference m ≡ Some order)

-- a company's rows are numbered 1, 2, 3 ...
abbrev pub AreNumbered : List Row → Type 0
AreNumbered rs = map (λ row. row.order) rs ≡ range_with_len 1 (length rs)

-- something is kept of each row
abbrev pub AreKept : OpenRows → List Row → Type 0
AreKept m rs = AllByRecursion (λ row. is_some (row_in row.order m) ≡ true) rs

-- something is kept of each row, if rows are kept one by one
abbrev pub AreAllKept : Option OpenRows → List Row → Type 0
AreAllKept m rs = IfSome m (λ kept. AreKept kept rs)

-- a row is added to those that are kept one by one, or none is kept any more
abbrev pub KeepsOn : (order : ℕ) → KnownRow → (old new : Option OpenRows) → Type 0
KeepsOn order row old None = ⊤
KeepsOn order row None (Some new) = ⊥
KeepsOn order row (Some old) (Some new) = Adds order row old new

-- the entries of the rows with this order number are all held
abbrev pub AreHeld : (order : ℕ) → List Row → Type 0
AreHeld order rs = AllByRecursion (λ f. f.state ≡ Held) (facts_in (rows_at order rs))

-- what is remembered agrees with a company's rows
pub record IsOf (m : Remembered) (rs : List Row) : Type 0 where
  pub sums : AreSums m.since m.sums rs
  pub rows : IfSome m.rows (λ kept. AreRows m.since kept rs)
