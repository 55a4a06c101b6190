-- The rows that no cut has decided, by the indexes that find them.
use Rattle.std.proofs.Common.{◌≡◌, ◌∙◌, ℕ, Bool, true, List, map, Option, None, Some, refl, ap, sym, subst, true≢false}
use Rattle.std.specs.Prelude.{◌&&◌, if◌then◌else◌, not, bytes_eq, filter, is_none}
use Rattle.desk_rules.specs.declared.bodies.company.Company.{Company}
use Rattle.desk_book.specs.Reads.{held_submission}
use Rattle.desk_book.specs.Standing.{is_held}
use Rattle.desk_store.specs.Rows.{CompanyRow}
use Rattle.memory_store.specs.Finds.{FindWaiting, held_index, rows_for, waiting_for}
use Rattle.memory_store.specs.Kept.{row_in}
use Rattle.memory_store.specs.Open.{may_be_open}
use Rattle.memory_store.specs.Placed.{ArePlaced, FindsAll, is_key, key_in, listed_under, picked, whole}
use Rattle.memory_store.specs.declared.list_store.KeptSubmission.{KeptSubmission}
use Rattle.memory_store.specs.declared.place_index.KeyKind.TheVariants as kinds
use Rattle.memory_store.specs.declared.place_index.PlaceIndex.{PlaceIndex}
use Rattle.memory_store.specs.declared.row_key.RowKey.{RowKey}
use Rattle.memory_store.specs.declared.row_places.RowPlaces.{RowPlaces}
use Rattle.memory_store.proofs.Placed.{own_key, passing_all, standing}

-- what no cut has decided did not settle
unsettled : (settled : Option ℕ) (lapsed : Bool) → (is_none settled && not lapsed) ≡ true → settled ≡ None
unsettled None lapsed held = refl
unsettled (Some day) lapsed held = absurd (true≢false (sym held))

-- the rows that may be open since a day have all of those, as have the rows of the companies
pub find_open : (since : ℕ) (rows : List CompanyRow) (index references : PlaceIndex) → FindsAll (kinds.OpenSince since) rows index → FindsAll kinds.Reference rows references → FindWaiting rows index references
find_open since rows index references held originals = record {
  kind = kinds.OpenSince since;
  has = λ x none. ap (λ (settled : Option ℕ). if may_be_open since settled then Some (whole x.company) else None) none;
  held = held;
  originals = originals;
}

pub find_any : (rows : List CompanyRow) (index references : PlaceIndex) → FindsAll kinds.Company rows index → FindsAll kinds.Reference rows references → FindWaiting rows index references
find_any rows index references held originals = record { kind = kinds.Company; has = λ x none. refl; held = held; originals = originals }

-- an index has the places of a company's held submissions
pub waiting_all : (k : Company) (kept : List KeptSubmission) (index references : PlaceIndex) (asked : RowKey) (places : List ℕ) → FindWaiting (map row_in kept) index references → asked ≡ whole k.id → places ≡ listed_under asked index
    → map (held_submission k (rows_for kept k.id)) (filter is_held (rows_for (picked kept places) k.id)) ≡ waiting_for k (rows_for kept k.id)
waiting_all k kept index references asked places find is are =
    ap (map (held_submission k (rows_for kept k.id)))
    (passing_all is_held k.id find.kind (whole k.id) kept places (standing find.kind asked (whole k.id) (map row_in kept) index places is find.held are) has_key) where
      has_key : (x : KeptSubmission) → bytes_eq x.company k.id ≡ true → is_held (row_in x).row ≡ true → is_key (whole k.id) (key_in find.kind (row_in x)) ≡ true
      has_key x own held = ap (is_key (whole k.id)) (find.has (row_in x) (unsettled x.settled x.lapsed held)) ∙ own_key x k.id own

-- what was covered of the rows that a store keeps, as it lends them
pub waiting_covered : (own kept : List KeptSubmission) (old new : RowPlaces) → own ≡ kept → ArePlaced (map row_in kept) old
    → (ArePlaced (map row_in own) old → ArePlaced (map row_in own) new) → (ArePlaced (map row_in own) old → FindWaiting (map row_in own) (held_index new) new.references)
    → ArePlaced (map row_in kept) new × FindWaiting (map row_in own) (held_index new) new.references
waiting_covered own kept old new same held right whole =
    let before : ArePlaced (map row_in own) old = subst (λ (xs : List KeptSubmission). ArePlaced (map row_in xs) old) (sym same) held in
    (subst (λ (xs : List KeptSubmission). ArePlaced (map row_in xs) new) same (right before), whole before)
