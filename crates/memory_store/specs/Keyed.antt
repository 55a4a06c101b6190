-- Which rows a cut and an incoming file change, by the keys under which an index finds them.
use Rattle.std.specs.Prelude.{◌≡◌, ℕ, ◌==◌, Bool, true, false, ◌&&◌, if◌then◌else◌, List, map, Option, Some, bytes_eq, refl}
use Rattle.std.specs.List.{enumerate_from}
use Rattle.std.proofs.Common.{true≢false}
use Rattle.desk_rules.specs.declared.rules.entry_fact.EntryState.{EntryState}
use Rattle.desk_rules.specs.declared.rules.entry_fact.EntryState.TheVariants as states
use Rattle.desk_book.specs.declared.flat_rows.LapsedRow.{LapsedRow}
use Rattle.desk_book.specs.declared.flat_rows.ReturnedRow.{ReturnedRow}
use Rattle.desk_book.specs.declared.flat_rows.SentRow.{SentRow}
use Rattle.desk_book.specs.declared.row.Row.{Row}
use Rattle.desk_book.specs.Steps.{returned_state_by}
use Rattle.desk_store.specs.Changes.{send_in, lapse_in, return_in}
use Rattle.desk_store.specs.Rows.{CompanyRow}
use Rattle.memory_store.specs.Placed.{is_key, key_in, numbered, under}
use Rattle.memory_store.specs.declared.place_index.KeyKind.{KeyKind}
use Rattle.memory_store.specs.declared.place_index.KeyKind.TheVariants as kinds
use Rattle.memory_store.specs.declared.row_key.RowKey.{RowKey}

-- a change leaves alone what has another key, and leaves each row its key
pub record IsKeyed (kind : KeyKind) (key : RowKey) (change : CompanyRow → CompanyRow) : Type 0 where
  pub others : (x : CompanyRow) → is_key key (key_in kind x) ≡ false → change x ≡ x
  pub same : (x : CompanyRow) → key_in kind (change x) ≡ key_in kind x

-- ---- rows keep their keys

-- a key that a row has whatever becomes of its entries
abbrev pub IsOfContent : (CompanyRow → Option RowKey) → Type 0
IsOfContent key = (x : CompanyRow) (states : List EntryState) → key (record x { row = record x.row { states = states } }) ≡ key x

-- a key that a row has whatever becomes of its settlement and of its entries
abbrev pub IsSteady : (CompanyRow → Option RowKey) → Type 0
IsSteady key = (x : CompanyRow) (settled : Option ℕ) (lapsed : Bool) (states : List EntryState) → key (record x { row = record x.row { settled = settled; lapsed = lapsed; states = states } }) ≡ key x

pub sent_same : (key : CompanyRow → Option RowKey) → IsSteady key → (s : SentRow) (x : CompanyRow) → key (send_in s x) ≡ key x
sent_same key steady s x = of_tests (bytes_eq x.company s.company) (x.row.order == s.order) where
  of_tests : (c o : Bool) → key (if c then record x { row = if o then record x.row { settled = Some s.settled; states = map (λ y. states.Sent s.settled) x.row.states } else x.row } else x) ≡ key x
  of_tests true true = steady x (Some s.settled) x.row.lapsed (map (λ y. states.Sent s.settled) x.row.states)
  of_tests true false = refl
  of_tests false o = refl

pub lapsed_same : (key : CompanyRow → Option RowKey) → IsSteady key → (l : LapsedRow) (x : CompanyRow) → key (lapse_in l x) ≡ key x
lapsed_same key steady l x = of_tests (bytes_eq x.company l.company) (x.row.order == l.order) where
  of_tests : (c o : Bool) → key (if c then record x { row = if o then record x.row { lapsed = true; states = map (λ y. states.Lapsed) x.row.states } else x.row } else x) ≡ key x
  of_tests true true = steady x x.row.settled true (map (λ y. states.Lapsed) x.row.states)
  of_tests true false = refl
  of_tests false o = refl

-- the states of a submission's entries after a return of one
abbrev pub returned_states : ReturnedRow → List EntryState → List EntryState
returned_states r states =
    map (λ y. if y.0 == r.row.index then returned_state_by r y.1 else y.1) (enumerate_from 1 states)

-- a return does not change the settlement
pub returned_same : (key : CompanyRow → Option RowKey) → IsOfContent key → (r : ReturnedRow) (x : CompanyRow) → key (return_in r x) ≡ key x
returned_same key steady r x = of_tests (bytes_eq x.company r.company) (bytes_eq x.row.content.reference r.row.reference) where
  changed : List EntryState
  changed = returned_states r x.row.states

  of_tests : (c o : Bool) → key (if c then record x { row = if o then record x.row { states = changed } else x.row } else x) ≡ key x
  of_tests true true = steady x changed
  of_tests true false = refl
  of_tests false o = refl

-- ---- what has another key

-- a row is as it was where it is another company's, or another one of the company's
other_order : (x : CompanyRow) (changed : Row) (c o : Bool) → ((c && true) && o) ≡ false → (if c then record x { row = if o then changed else x.row } else x) ≡ x
other_order x changed true true is = absurd (true≢false is)
other_order x changed true false is = refl
other_order x changed false o is = refl

other_reference : (x : CompanyRow) (changed : Row) (c r : Bool) → ((c && r) && true) ≡ false → (if c then record x { row = if r then changed else x.row } else x) ≡ x
other_reference x changed true true is = absurd (true≢false is)
other_reference x changed true false is = refl
other_reference x changed false r is = refl

-- ---- the changes

-- what is sent is found by its order number
pub sent_keyed : (s : SentRow) → IsKeyed kinds.Order (numbered s.company s.order) (send_in s)
sent_keyed s = record {
  others = λ x. other_order x (record x.row { settled = Some s.settled; states = map (λ y. states.Sent s.settled) x.row.states }) (bytes_eq x.company s.company) (x.row.order == s.order);
  same = sent_same (key_in kinds.Order) (λ x settled lapsed held. refl) s;
}

-- as is what lapses
pub lapsed_keyed : (l : LapsedRow) → IsKeyed kinds.Order (numbered l.company l.order) (lapse_in l)
lapsed_keyed l = record {
  others = λ x. other_order x (record x.row { lapsed = true; states = map (λ y. states.Lapsed) x.row.states }) (bytes_eq x.company l.company) (x.row.order == l.order);
  same = lapsed_same (key_in kinds.Order) (λ x settled lapsed held. refl) l;
}

-- a return is found by its reference
pub returned_keyed : (r : ReturnedRow) → IsKeyed kinds.Reference (under r.company r.row.reference) (return_in r)
returned_keyed r = record {
  others = λ x. other_reference x (record x.row { states = returned_states r x.row.states }) (bytes_eq x.company r.company) (bytes_eq x.row.content.reference r.row.reference);
  same = returned_same (key_in kinds.Reference) (λ x held. refl) r;
}
