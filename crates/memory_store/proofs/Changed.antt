-- A change that is made at the places of a key is made of all rows: it leaves the others alone.
use Rattle.std.proofs.Common.{◌≡◌, ◌∙◌, ℕ, ◌+◌, ◌<◌, ◌≤◌, Bool, true, false, List, [], ◌∷◌, ◌++◌, map, length, get_or, set, refl, ap, sym, append_assoc, arith}
use Rattle.std.specs.Prelude.{if◌then◌else◌, filter}
use Rattle.std.specs.List.{enumerate_from}
use Rattle.std.proofs.lemmas.List.{get_or_at, set_at, length-append}
use Rattle.desk_store.specs.Rows.{CompanyRow}
use Rattle.memory_store.specs.Keyed.{IsKeyed}
use Rattle.memory_store.specs.Placed.{FindsAll, changed_at, is_key, key_in, places_of}
use Rattle.memory_store.specs.declared.place_index.KeyKind.{KeyKind}
use Rattle.memory_store.specs.declared.place_index.PlaceIndex.{PlaceIndex}
use Rattle.memory_store.specs.declared.row_key.RowKey.{RowKey}
use Rattle.memory_store.proofs.Numbered.{numbered_at, numbered_past}
use Rattle.memory_store.proofs.Placed.{each_same}

-- ---- at one place

-- within the list, and past it
pub changed_here : {X : Type 0} (change : X → X) (xs : List X) (place : ℕ) (x : X) → place < length xs → x ≡ get_or xs place x → changed_at place change xs ≡ set xs place (change x)
changed_here {X} change xs place x within is = numbered_at change place 0 xs place x (omega arith) within ∙ ap (λ (y : X). set xs place (change y)) (sym is)

pub changed_past : {X : Type 0} (change : X → X) (xs : List X) (place : ℕ) → length xs ≤ place → changed_at place change xs ≡ xs
changed_past change xs place past = numbered_past change place 0 xs (omega arith)

-- between two parts of it
changed_between : {X : Type 0} (change : X → X) (front : List X) (x : X) (xs : List X) (place : ℕ) → length front ≡ place → changed_at place change (front ++ x ∷ xs) ≡ front ++ change x ∷ xs
changed_between change front x xs place is =
    changed_here change (front ++ x ∷ xs) place x (omega (arith, length-append front (x ∷ xs), is)) (sym (get_or_at front x xs x place is))
    ∙ set_at front x xs (change x) place is

-- ---- at one place after another

abbrev pub changed_all : {X : Type 0} → (places : List ℕ) → (X → X) → List X → List X
changed_all [] change xs = xs
changed_all (place ∷ places) change xs = changed_all places change (changed_at place change xs)

changed_behind : {X Y : Type 0} (change : X → X) (key : X → Y) (test : Y → Bool) → ((x : X) → test (key x) ≡ false → change x ≡ x) → (front xs : List X) (n : ℕ) → length front ≡ n
    → changed_all (map (λ y. y.0) (filter (λ y. test y.1) (enumerate_from n (map key xs)))) change (front ++ xs) ≡ front ++ map change xs
changed_behind change key test others front [] n is = refl
changed_behind {X} {Y} change key test others front (x ∷ xs) n is =
    of_test (test (key x)) refl (λ y. ap (changed_all (map (λ (z : ℕ × Y). z.0) later) change) (sym (append_assoc front (y ∷ []) xs))
    ∙ changed_behind change key test others (front ++ y ∷ []) xs (n + 1) (omega (arith, length-append front (y ∷ []), is))
    ∙ append_assoc front (y ∷ []) (map change xs)) where
      later : List (ℕ × Y)
      later = filter (λ y. test y.1) (enumerate_from (n + 1) (map key xs))

      of_test : (t : Bool) → test (key x) ≡ t → ((y : X) → changed_all (map (λ z. z.0) later) change (front ++ y ∷ xs) ≡ front ++ y ∷ map change xs)
          → changed_all (map (λ z. z.0) (if t then (n, key x) ∷ later else later)) change (front ++ x ∷ xs) ≡ front ++ change x ∷ map change xs
      of_test true named rest = ap (changed_all (map (λ (z : ℕ × Y). z.0) later) change) (changed_between change front x xs n is) ∙ rest (change x)
      of_test false other rest = rest x ∙ ap (λ (y : X). front ++ y ∷ map change xs) (sym (others x other))

-- at those of its key
pub changed_found : (kind : KeyKind) (key : RowKey) (change : CompanyRow → CompanyRow) → IsKeyed kind key change → (rows : List CompanyRow) → changed_all (places_of key (map (key_in kind) rows)) change rows ≡ map change rows
changed_found kind key change keyed rows = changed_behind change (key_in kind) (is_key key) keyed.others [] rows 0 refl

-- and an index finds the rows as before
pub finds_after : (kind : KeyKind) (key : RowKey) (change : CompanyRow → CompanyRow) → IsKeyed kind key change → (rows found : List CompanyRow) (index : PlaceIndex) → found ≡ map change rows → FindsAll kind rows index → FindsAll kind found index
finds_after kind key change keyed rows found index are finds k = finds k ∙ ap (places_of k) (sym (ap (map (key_in kind)) are ∙ each_same (key_in kind) change keyed.same rows))
