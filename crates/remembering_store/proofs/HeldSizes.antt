-- The sizes of what a company holds, after each step.
use Rattle.std.proofs.Common.{◌≡◌, ◌∙◌, refl, ap, sym, subst, ℕ, ◌+◌, Bool, true, false, inl, inr, List, [], ◌∷◌, ◌++◌, map, length, Option, Some, None, cond, arith}
use Rattle.std.specs.Prelude.{◌==◌, ◌&&◌, if◌then◌else◌, not, filter, is_some, is_none, is_ok, bytes_eq, fold, IfSome, OnOk, Result, Ok, Err}
use Rattle.std.specs.BTreeSet.{contains}
use Rattle.std.specs.HashMap.{get}
use Rattle.std.specs.BTreeMap.{is_at}
use Rattle.std.specs.List.{enumerate_from, list_all, list_any}
use Rattle.std.specs.Ordering.{is_eq, nat_cmp}
use Rattle.std.proofs.lemmas.Bool.{cases_order}
use Rattle.std.proofs.lemmas.Bool.Decides.{nat_tests}
use Rattle.std.proofs.lemmas.List.{map-append}
use Rattle.std.proofs.lemmas.List.Elements.{filter-append}
use Rattle.std.proofs.lemmas.Simd.{map-map}
use Rattle.desk_rules.specs.declared.bodies.company.Company.{Company}
use Rattle.desk_rules.specs.declared.bodies.submission.Retry.{Retry}
use Rattle.desk_rules.specs.declared.bodies.submission.Submission.{Submission}
use Rattle.desk_book.specs.Book.{Book}
use Rattle.desk_book.specs.HeldSizes.{held_size, held_sizes_of, size_of}
use Rattle.desk_book.specs.Reads.{held_submission}
use Rattle.desk_book.specs.Standing.{is_held, is_row_under, lapsed_row, next_row, original_of_row, sent_row}
use Rattle.desk_book.specs.Steps.{if_order, put_return, returned_row_by, returned_state_by}
use Rattle.desk_book.specs.declared.flat_rows.ReturnedRow.{ReturnedRow}
use Rattle.desk_book.specs.declared.held_size.HeldSize.{HeldSize}
use Rattle.desk_book.specs.declared.row.Row.{Row}
use Rattle.remembering_store.specs.CompanyKeys.{is_same_company}
use Rattle.remembering_store.specs.HeldSizes.{AreKept, ArePlain, HeldRight, held_sizes_among, kept, plain_size, row_size}
use Rattle.remembering_store.specs.declared.held.KnownHeld.{KnownHeld}
use Rattle.remembering_store.specs.declared.held.held_of.HeldOf.{HeldOf}

abbrev pub plain_sizes : List Row → List HeldSize
plain_sizes rs = map plain_size (filter is_held rs)

-- ---- what is read is what is kept

pub sizes_of_book : (k : Company) (b : Book) → held_sizes_of k b ≡ held_sizes_among (b.rows k.id)
sizes_of_book k b = map-map held_size (held_submission k (b.rows k.id)) (filter is_held (b.rows k.id))

size_plain : (all : List Row) (row : Row) → row.retry ≡ None → row_size all row ≡ plain_size row
size_plain all row none = ap (λ (r : Option Retry). size_of row.order row.content (is_some r) (original_of_row all r)) none

plain_read : (all rs : List Row) → ArePlain rs → map (row_size all) (filter is_held rs) ≡ plain_sizes rs
plain_read all [] plain = refl
plain_read all (row ∷ rs) plain = by (plain_read all rs plain.1) (is_held row) refl where
  by : map (row_size all) (filter is_held rs) ≡ plain_sizes rs → (t : Bool) → is_held row ≡ t → map (row_size all) (if t then row ∷ filter is_held rs else filter is_held rs) ≡ map plain_size (if t then row ∷ filter is_held rs else filter is_held rs)
  by rest true e = λ i. size_plain all row (plain.0 e) i ∷ rest i
  by rest false e = rest

pub read_off : (m : HeldOf) (rs : List Row) → AreKept m rs → kept m ≡ held_sizes_among rs
read_off m rs are = are.sizes ∙ sym (plain_read rs rs are.plain)

no_retry : (r : Option Retry) → not (is_some r) ≡ true → r ≡ None
no_retry None e = refl
no_retry (Some r) e = absurd cc

halves : (a b : Bool) → (a && b) ≡ true → (a ≡ true) × (b ≡ true)
halves true b e = (refl, e)
halves false b e = absurd cc

plain_from : (all rs : List Row) → list_all (λ z. not z.is_retry) (map (row_size all) (filter is_held rs)) ≡ true → ArePlain rs
plain_from all [] none = tt
plain_from all (row ∷ rs) none = by (plain_from all rs) (is_held row) refl none where
  by : (list_all (λ z. not z.is_retry) (map (row_size all) (filter is_held rs)) ≡ true → ArePlain rs) → (t : Bool) → is_held row ≡ t → list_all (λ z. not z.is_retry) (map (row_size all) (if t then row ∷ filter is_held rs else filter is_held rs)) ≡ true
      → (is_held row ≡ true → row.retry ≡ None) × ArePlain rs
  by rest true e none =
      let both = halves (not (is_some row.retry)) (list_all (λ z. not z.is_retry) (map (row_size all) (filter is_held rs))) none in
      (λ held. no_retry row.retry both.0, rest both.1)
  by rest false e none = (λ held. absurd (let no = sym e ∙ held in cc), rest none)

keeps_all : (zs : List HeldSize) → filter (λ z. not false) zs ≡ zs
keeps_all [] = refl
keeps_all (z ∷ zs) = ap (λ (rest : List HeldSize). z ∷ rest) (keeps_all zs)

pub none_decided : (m : HeldOf) → m.decided.keys ≡ [] → kept m ≡ m.sizes.items
none_decided m none = ap (λ (ks : List ℕ). filter (λ z. not (list_any (is_at (nat_cmp z.order)) ks)) m.sizes.items) none ∙ keeps_all m.sizes.items

pub first_kept : (m : HeldOf) (rs : List Row) → m.decided.keys ≡ [] → m.sizes.items ≡ held_sizes_among rs → list_all (λ z. not z.is_retry) m.sizes.items ≡ true → AreKept m rs
first_kept m rs none is plain =
    let are = plain_from rs rs (ap (list_all (λ (z : HeldSize). not z.is_retry)) (sym is) ∙ plain) in
    record { sizes = none_decided m none ∙ is ∙ plain_read rs rs are; plain = are }

-- what holds of a call that did not fail
pub once_ok : {T E P : Type 0} (result : Result T E) → is_ok result ≡ true → OnOk result P → P
once_ok (Ok x) ok holds = holds
once_ok (Err e) ok holds = absurd cc

-- ---- a submission more

pub size_added : (m n : HeldOf) (z : HeldSize) → n.decided ≡ m.decided → n.sizes.items ≡ m.sizes.items ++ z ∷ [] → contains nat_cmp m.decided z.order ≡ false → kept n ≡ kept m ++ z ∷ []
size_added m n z decided sizes new =
    (λ i. filter (λ z. not (contains nat_cmp (decided i) z.order)) (sizes i))
    ∙ filter-append (λ z. not (contains nat_cmp m.decided z.order)) m.sizes.items (z ∷ [])
    ∙ ap (λ (t : Bool). kept m ++ (if not t then z ∷ [] else [])) new

plain_append : (rs : List Row) (row : Row) → ArePlain rs → row.retry ≡ None → ArePlain (rs ++ row ∷ [])
plain_append [] row plain none = (λ held. none, tt)
plain_append (x ∷ rs) row plain none = (plain.0, plain_append rs row plain.1 none)

pub kept_added : (m n : HeldOf) (rs : List Row) (s : Submission) (z : HeldSize) → kept n ≡ kept m ++ z ∷ [] → z ≡ size_of (length rs + 1) s false None → AreKept m rs → AreKept n (rs ++ next_row rs s None ∷ [])
kept_added m n rs s z more is are = record {
  sizes = more ∙ (λ i. are.sizes i ++ is i ∷ []) ∙ sym (map-append plain_size (filter is_held rs) (next_row rs s None ∷ [])) ∙ sym (ap (map plain_size) (filter-append is_held rs (next_row rs s None ∷ [])));
  plain = plain_append rs (next_row rs s None) are.plain refl;
}

-- ---- a cut

same_number : (a b : ℕ) → is_eq (nat_cmp a b) ≡ (b == a)
same_number a b = elim (cases_order a b) [
  | inl is ↦ grind (arith, nat_tests)
  | inr apart ↦ elim apart [ inl lower ↦ grind (arith, nat_tests) | inr higher ↦ grind (arith, nat_tests) ]
]

abbrev pub others : ℕ → List HeldSize → List HeldSize
others order zs = filter (λ z. not (z.order == order)) zs

pub size_decided : (m n : HeldOf) (order : ℕ) → n.sizes ≡ m.sizes → ((q : ℕ) → contains nat_cmp n.decided q ≡ cond (is_eq (nat_cmp order q)) true (contains nat_cmp m.decided q)) → kept n ≡ others order (kept m)
size_decided m n order sizes has = ap (λ (v : List HeldSize). filter (λ z. not (contains nat_cmp n.decided z.order)) v) (λ i. (sizes i).items) ∙ each m.sizes.items where
  each : (zs : List HeldSize) → filter (λ z. not (contains nat_cmp n.decided z.order)) zs ≡ others order (filter (λ z. not (contains nat_cmp m.decided z.order)) zs)
  each [] = refl
  each (z ∷ zs) =
      ap (λ (t : Bool). if not t then z ∷ filter (λ z. not (contains nat_cmp n.decided z.order)) zs else filter (λ z. not (contains nat_cmp n.decided z.order)) zs)
      (has z.order ∙ ap (λ (t : Bool). cond t true (contains nat_cmp m.decided z.order)) (same_number order z.order))
      ∙ by (each zs) (z.order == order) (contains nat_cmp m.decided z.order) refl where
        by : filter (λ z. not (contains nat_cmp n.decided z.order)) zs ≡ others order (filter (λ z. not (contains nat_cmp m.decided z.order)) zs)
            → (t d : Bool) → (z.order == order) ≡ t
            → (if not (cond t true d) then z ∷ filter (λ z. not (contains nat_cmp n.decided z.order)) zs else filter (λ z. not (contains nat_cmp n.decided z.order)) zs)
            ≡ others order (if not d then z ∷ filter (λ z. not (contains nat_cmp m.decided z.order)) zs else filter (λ z. not (contains nat_cmp m.decided z.order)) zs)
        by rest true true e = rest
        by rest false true e = rest
        by rest true false e = rest ∙ sym (ap (λ (t : Bool). if not t then z ∷ others order (filter (λ z. not (contains nat_cmp m.decided z.order)) zs) else others order (filter (λ z. not (contains nat_cmp m.decided z.order)) zs)) e)
        by rest false false e = ap (λ (zs : List HeldSize). z ∷ zs) rest ∙ sym (ap (λ (t : Bool). if not t then z ∷ others order (filter (λ z. not (contains nat_cmp m.decided z.order)) zs) else others order (filter (λ z. not (contains nat_cmp m.decided z.order)) zs)) e)

-- a change of rows with an order number, after which they are not held
module _ (order : ℕ) (turn : Row → Row) (gone : (row : Row) → is_held (turn row) ≡ false) where
  rows_decided : (rs : List Row) → plain_sizes (map (if_order order turn) rs) ≡ others order (plain_sizes rs)
  rows_decided [] = refl
  rows_decided (row ∷ rs) = by (rows_decided rs) (row.order == order) (is_held row) refl refl where
    by : plain_sizes (map (if_order order turn) rs) ≡ others order (plain_sizes rs) → (t h : Bool) → (row.order == order) ≡ t → is_held row ≡ h
        → plain_sizes ((if t then turn row else row) ∷ map (if_order order turn) rs) ≡ others order (map plain_size (if h then row ∷ filter is_held rs else filter is_held rs))
    by more true true e held =
        ap (λ (t : Bool). map plain_size (if t then turn row ∷ filter is_held (map (if_order order turn) rs) else filter is_held (map (if_order order turn) rs))) (gone row)
        ∙ more
        ∙ sym (ap (λ (t : Bool). if not t then plain_size row ∷ others order (plain_sizes rs) else others order (plain_sizes rs)) e)
    by more true false e held =
        ap (λ (t : Bool). map plain_size (if t then turn row ∷ filter is_held (map (if_order order turn) rs) else filter is_held (map (if_order order turn) rs))) (gone row)
        ∙ more
    by more false true e held =
        ap (λ (t : Bool). map plain_size (if t then row ∷ filter is_held (map (if_order order turn) rs) else filter is_held (map (if_order order turn) rs))) held
        ∙ ap (λ (rest : List HeldSize). plain_size row ∷ rest) more
        ∙ sym (ap (λ (t : Bool). if not t then plain_size row ∷ others order (plain_sizes rs) else others order (plain_sizes rs)) e)
    by more false false e held =
        ap (λ (t : Bool). map plain_size (if t then row ∷ filter is_held (map (if_order order turn) rs) else filter is_held (map (if_order order turn) rs))) held
        ∙ more

  plain_decided : (rs : List Row) → ArePlain rs → ArePlain (map (if_order order turn) rs)
  plain_decided [] plain = tt
  plain_decided (row ∷ rs) plain = (by (row.order == order), plain_decided rs plain.1) where
    by : (t : Bool) → is_held (if t then turn row else row) ≡ true → (if t then turn row else row).retry ≡ None
    by true held = absurd (let no = sym (gone row) ∙ held in cc)
    by false held = plain.0 held

  pub kept_decided : (m n : HeldOf) (rs : List Row) → kept n ≡ others order (kept m) → AreKept m rs → AreKept n (map (if_order order turn) rs)
  kept_decided m n rs fewer are = record { sizes = fewer ∙ ap (others order) are.sizes ∙ sym (rows_decided rs); plain = plain_decided rs are.plain }

pub sent_gone : (on : ℕ) (row : Row) → is_held (sent_row on row) ≡ false
sent_gone on row = refl

pub lapsed_gone : (row : Row) → is_held (lapsed_row row) ≡ false
lapsed_gone row = by (is_none row.settled) where
  by : (t : Bool) → (t && false) ≡ false
  by true = refl
  by false = refl

-- ---- the same sizes

pub same_kept : (m n : HeldOf) → kept n ≡ kept m → (rs : List Row) → AreKept m rs → AreKept n rs
same_kept m n same rs are = record { sizes = same ∙ are.sizes; plain = are.plain }

-- ---- a return

module _ (x : ReturnedRow) where
  returned_sizes : (rs : List Row) → plain_sizes (map (returned_row_by x) rs) ≡ plain_sizes rs
  returned_sizes [] = refl
  returned_sizes (row ∷ rs) = by (returned_sizes rs) (is_row_under x.row.reference row) where
    changed : Row
    changed = record row { states = map (λ y. if y.0 == x.row.index then returned_state_by x y.1 else y.1) (enumerate_from 1 row.states) }

    by : plain_sizes (map (returned_row_by x) rs) ≡ plain_sizes rs → (t : Bool) → plain_sizes ((if t then changed else row) ∷ map (returned_row_by x) rs) ≡ plain_sizes (row ∷ rs)
    by more true = held (is_held row) where
      held : (h : Bool) → map plain_size (if h then changed ∷ filter is_held (map (returned_row_by x) rs) else filter is_held (map (returned_row_by x) rs)) ≡ map plain_size (if h then row ∷ filter is_held rs else filter is_held rs)
      held true = ap (λ (rest : List HeldSize). plain_size row ∷ rest) more
      held false = more
    by more false = held (is_held row) where
      held : (h : Bool) → map plain_size (if h then row ∷ filter is_held (map (returned_row_by x) rs) else filter is_held (map (returned_row_by x) rs)) ≡ map plain_size (if h then row ∷ filter is_held rs else filter is_held rs)
      held true = ap (λ (rest : List HeldSize). plain_size row ∷ rest) more
      held false = more

  returned_plain : (rs : List Row) → ArePlain rs → ArePlain (map (returned_row_by x) rs)
  returned_plain [] plain = tt
  returned_plain (row ∷ rs) plain = (by (is_row_under x.row.reference row), returned_plain rs plain.1) where
    changed : Row
    changed = record row { states = map (λ y. if y.0 == x.row.index then returned_state_by x y.1 else y.1) (enumerate_from 1 row.states) }

    by : (t : Bool) → is_held (if t then changed else row) ≡ true → (if t then changed else row).retry ≡ None
    by true held = plain.0 held
    by false held = plain.0 held

  returned_kept : (t : Bool) (m : HeldOf) (rs : List Row) → AreKept m rs → AreKept m (if t then map (returned_row_by x) rs else rs)
  returned_kept true m rs are = record { sizes = are.sizes ∙ sym (returned_sizes rs); plain = returned_plain rs are.plain }
  returned_kept false m rs are = are

  turned : (P Q : HeldOf → Type 0) → ((m : HeldOf) → P m → Q m) → (o : Option HeldOf) → IfSome o P → IfSome o Q
  turned P Q to None was = tt
  turned P Q to (Some m) was = to m was

  pub return_held : (m : KnownHeld) (b : Book) → HeldRight m b → HeldRight m (put_return b x)
  return_held m b right k =
      turned (λ v. AreKept v (b.rows k.company)) (λ v. AreKept v ((put_return b x).rows k.company)) (λ v are. returned_kept (bytes_eq x.company k.company) v (b.rows k.company) are)
      (get is_same_company m.companies k) (right k)

pub returns_held : (xs : List ReturnedRow) (m : KnownHeld) (b : Book) → HeldRight m b → HeldRight m (fold put_return b xs)
returns_held [] m b right = right
returns_held (x ∷ xs) m b right = returns_held xs m (put_return b x) (return_held x m b right)

-- the rows are the same
pub same_held : (m : KnownHeld) (b after : Book) → after.rows ≡ b.rows → HeldRight m b → HeldRight m after
same_held m b after same right k = subst (λ (rows : List ℕ → List Row). IfSome (get is_same_company m.companies k) (λ x. AreKept x (rows k.company))) (sym same) (right k)
