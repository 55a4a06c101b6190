-- A company's open submissions in memory, as look-ups, and how a call changes them.
use Rattle.std.specs.Prelude.{◌≡◌, ℕ, ◌⊎◌, ◌==◌, Bool, false, if◌then◌else◌, List, Option, Some, None, bytes_eq}
use Rattle.std.specs.Ordering.{nat_cmp}
use Rattle.std.specs.BTreeMap.{get}
use Rattle.remembering_store.specs.KnownRow.{KnownRow, taken, once_taken}
use Rattle.remembering_store.specs.ReferenceKeys.{reference_cmp}
use Rattle.remembering_store.specs.declared.sums.open_rows.OpenRows.{OpenRows}

-- what is kept under an order number
abbrev pub row_in : (order : ℕ) → OpenRows → Option KnownRow
row_in order m = get nat_cmp m.rows order

-- the order number that a reference names
abbrev pub order_in : (reference : List ℕ) → OpenRows → Option ℕ
order_in reference m = get reference_cmp m.orders (record { reference = reference })

-- one order number has this row now, and all others have what they had
abbrev pub Puts : (order : ℕ) → Option KnownRow → (old new : OpenRows) → Type 0
Puts order row old new = (other : ℕ) → row_in other new ≡ (if other == order then row else row_in other old)

abbrev pub SameOrders : (old new : OpenRows) → Type 0
SameOrders old new = (reference : List ℕ) → order_in reference new ≡ order_in reference old

pub record Adds (order : ℕ) (row : KnownRow) (old new : OpenRows) : Type 0 where
  pub absent : row_in order old ≡ None
  pub unnamed : order_in row.reference old ≡ None
  pub puts : Puts order (Some row) old new
  pub named : (reference : List ℕ) → order_in reference new ≡ (if bytes_eq row.reference reference then Some order else order_in reference old)

-- a held submission of this direction and these cents
pub record IsHeldIn (order : ℕ) (debit : Bool) (cents : ℕ) (m : OpenRows) (row : KnownRow) : Type 0 where
  pub stands : row_in order m ≡ Some row
  pub held : row.settled ≡ None
  pub is : (row.debit ≡ debit) × (row.total ≡ cents)

pub record Sends (order day : ℕ) (debit : Bool) (cents : ℕ) (old new : OpenRows) : Type 0 where
  pub row : KnownRow
  pub found : IsHeldIn order debit cents old row
  pub puts : Puts order (Some (record row { settled = Some day })) old new
  pub named : SameOrders old new

pub record Lapses (order : ℕ) (debit : Bool) (cents : ℕ) (old new : OpenRows) : Type 0 where
  pub row : KnownRow
  pub found : IsHeldIn order debit cents old row
  pub puts : Puts order None old new
  pub named : SameOrders old new

-- nothing has changed
pub record Leaves (old new : OpenRows) : Type 0 where
  pub stays : (order : ℕ) → row_in order new ≡ row_in order old
  pub named : SameOrders old new

-- no kept row has this reference
abbrev pub NoneUnder : (reference : List ℕ) → OpenRows → Type 0
NoneUnder reference m = (order : ℕ) (row : KnownRow) → order_in reference m ≡ Some order → row_in order m ≡ Some row → bytes_eq row.reference reference ≡ false

-- a kept row has this reference, and one of its entries is returned
pub record TakesFrom (reference : List ℕ) (index : ℕ) (result : Option (ℕ × ℕ)) (old new : OpenRows) : Type 0 where
  pub order : ℕ
  pub row : KnownRow
  pub named_by : order_in reference old ≡ Some order
  pub stands : row_in order old ≡ Some row
  pub under : row.reference ≡ reference
  pub is : result ≡ taken row index
  pub puts : Puts order (Some (once_taken row index)) old new
  pub named : SameOrders old new

-- a return takes nothing if no kept row has its reference
abbrev pub Returns : (reference : List ℕ) → (index : ℕ) → Option (ℕ × ℕ) → (old new : OpenRows) → Type 0
Returns reference index result old new =
    ((result ≡ None) × NoneUnder reference old × Leaves old new) ⊎ TakesFrom reference index result old new
