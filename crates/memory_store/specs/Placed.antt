-- The places of the rows that a key names, as an index finds them.
use Rattle.std.specs.Prelude.{◌≡◌, ◌≤◌, ◌==◌, ℕ, Bool, false, if◌then◌else◌, List, [], ◌∷◌, ◌++◌, map, filter, filter_map, slice_get, take, length, option_map, unwrap_or, Option, Some, None}
use Rattle.std.specs.List.{enumerate_from}
use Rattle.std.specs.BTreeMap.{get}
use Rattle.desk_store.specs.Rows.{CompanyRow}
use Rattle.memory_store.specs.Open.{may_be_open}
use Rattle.memory_store.specs.RowKeys.{is_same_key, key_cmp}
use Rattle.memory_store.specs.declared.row_key.RowKey.{RowKey}
use Rattle.memory_store.specs.declared.place_index.KeyKind.{KeyKind}
use Rattle.memory_store.specs.declared.place_index.KeyKind.TheVariants as kinds
use Rattle.memory_store.specs.declared.place_index.PlaceIndex.{PlaceIndex}
use Rattle.memory_store.specs.declared.row_places.RowPlaces.{RowPlaces}

-- ---- keys

-- the key of all rows of a company
abbrev pub whole : List ℕ → RowKey
whole c = record { company = c; reference = None; order = None }

-- the key of those that go by a reference
abbrev pub under : List ℕ → List ℕ → RowKey
under c reference = record { company = c; reference = Some reference; order = None }

-- the key of those that have an order number
abbrev pub numbered : List ℕ → ℕ → RowKey
numbered c order = record { company = c; reference = None; order = Some order }

-- the key that an index has for a row, if it has one
abbrev pub key_in : KeyKind → CompanyRow → Option RowKey
key_in kinds.Company x = Some (whole x.company)
key_in kinds.Reference x = Some (under x.company x.row.content.reference)
key_in kinds.Order x = Some (numbered x.company x.row.order)
key_in kinds.Original x = option_map (λ retry. under x.company retry.of) x.row.retry
key_in (kinds.OpenSince since) x = if may_be_open since x.row.settled then Some (whole x.company) else None

abbrev pub is_key : RowKey → Option RowKey → Bool
is_key k None = false
is_key k (Some l) = is_same_key l k

-- ---- places

-- the places of what has a key, ascending, by the key of each
abbrev pub places_of : RowKey → List (Option RowKey) → List ℕ
places_of k keys = map (λ y. y.0) (filter (λ y. is_key k y.1) (enumerate_from 0 keys))

-- the elements at these places
abbrev pub picked : {X : Type 0} → List X → (places : List ℕ) → List X
picked xs places = filter_map (λ p. slice_get xs p) places

-- the elements, with a change of the one at a place
abbrev pub changed_at : {X : Type 0} → (place : ℕ) → (X → X) → List X → List X
changed_at place change xs = map (λ y. if y.0 == place then change y.1 else y.1) (enumerate_from 0 xs)

-- ---- the index

-- the places that it has for a key
abbrev pub listed_under : RowKey → PlaceIndex → List ℕ
listed_under k index = unwrap_or (option_map (λ v. v.items) (get key_cmp index.places k)) []

-- the place, if its row has the key
abbrev pub place_under : RowKey → Option RowKey → ℕ → List ℕ
place_under k key place = if is_key k key then place ∷ [] else []

-- each key has the places that it had
abbrev pub ListsSame : (old new : PlaceIndex) → Type 0
ListsSame old new = (k : RowKey) → listed_under k new ≡ listed_under k old

-- and one more, if its row has the key
abbrev pub ListsMore : Option RowKey → (place : ℕ) → (old new : PlaceIndex) → Type 0
ListsMore key place old new = (k : RowKey) → listed_under k new ≡ listed_under k old ++ place_under k key place

-- it finds the places of each key among the first of the rows, as many as it covers
pub record IsPlaced (kind : KeyKind) (rows : List CompanyRow) (index : PlaceIndex) : Type 0 where
  pub within : index.indexed ≤ length rows
  pub places : (k : RowKey) → listed_under k index ≡ places_of k (take index.indexed (map (key_in kind) rows))

-- it finds those among all rows
abbrev pub FindsAll : KeyKind → List CompanyRow → PlaceIndex → Type 0
FindsAll kind rows index = (k : RowKey) → listed_under k index ≡ places_of k (map (key_in kind) rows)

-- the five indexes of the rows find them by their company, by their reference, by their order number, by what
-- they retry, and those that may be open since the day that it has, if it has one
pub record ArePlaced (rows : List CompanyRow) (x : RowPlaces) : Type 0 where
  pub companies : IsPlaced kinds.Company rows x.companies
  pub references : IsPlaced kinds.Reference rows x.references
  pub orders : IsPlaced kinds.Order rows x.orders
  pub originals : IsPlaced kinds.Original rows x.originals
  pub recent : (since : ℕ) → x.since ≡ Some since → IsPlaced (kinds.OpenSince since) rows x.recent
