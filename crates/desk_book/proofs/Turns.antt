-- Changes of single rows, one after another, each named by the order number of its row.
use Rattle.std.proofs.Common.{◌≡◌, ◌≢◌, ◌≤◌, ℕ, ◌+◌, List, [], ◌∷◌, map, length, Bool, true, false, refl, sym, ap, subst, ◌∙◌, inl, inr, arith}
use Rattle.std.specs.Prelude.{⊤, if◌then◌else◌, fold, filter, find, Option, Some, None, is_some, bytes_eq}
use Rattle.std.specs.List.{flat_map, range_with_len, AllByRecursion}
use Rattle.std.proofs.lemmas.Bool.{cases_Bool, eq-eqb, ne_eqb}
use Rattle.std.proofs.lemmas.List.Sums.{fold-append}
use Rattle.std.proofs.lemmas.Slice.Eq.{bytes_eq-Decides}
use Rattle.desk_rules.specs.declared.bodies.company.Company.{Company}
use Rattle.desk_book.specs.declared.row.Row.{Row}
use Rattle.desk_history.specs.Operator.{has_id}
use Rattle.desk_history.proofs.Accounts.Companies.{Apart}
use Rattle.desk_history.proofs.Basics.Each.{each-map, each-weaker}
use Rattle.desk_book.specs.Steps.{if_order}

-- ---- orders

-- no two rows have one order
abbrev pub AreApart : List Row → Type 0
AreApart [] = ⊤
AreApart (row ∷ rs) = AllByRecursion (λ x. x.order ≢ row.order) rs × AreApart rs

-- rows that are numbered in order from a number have none below it
from_on : (n : ℕ) (rs : List Row) → map (λ row. row.order) rs ≡ range_with_len n (length rs) → AllByRecursion (λ row. n ≤ row.order) rs
from_on n [] orders = tt
from_on n (row ∷ rs) orders =
    let here : row.order ≡ n = cc in
    let behind : map (λ row. row.order) rs ≡ range_with_len (n + 1) (length rs) = cc in
    (omega arith, each-weaker (λ (x : Row). n + 1 ≤ x.order) (λ (x : Row). n ≤ x.order) (λ x later. omega arith) rs (from_on (n + 1) rs behind))

-- rows that are numbered in order are such
pub numbered_apart : (n : ℕ) (rs : List Row) → map (λ row. row.order) rs ≡ range_with_len n (length rs) → AreApart rs
numbered_apart n [] orders = tt
numbered_apart n (row ∷ rs) orders =
    let here : row.order ≡ n = cc in
    let behind : map (λ row. row.order) rs ≡ range_with_len (n + 1) (length rs) = cc in (
      each-weaker (λ (x : Row). n + 1 ≤ x.order) (λ (x : Row). x.order ≢ row.order) (λ x later same. omega arith) rs (from_on (n + 1) rs behind),
      numbered_apart (n + 1) rs behind,
    )

-- ---- turns

-- what becomes of the row with an order
pub record Turn : Type 0 where
  pub order : ℕ
  pub change : Row → Row

abbrev pub turned : Row → Turn → Row
turned row t = if_order t.order t.change row

abbrev pub turned_all : List Row → Turn → List Row
turned_all rs t = map (if_order t.order t.change) rs

-- those of the rows that pass a test, by a change for each row
abbrev pub turns : (Row → Row → Row) → (Row → Bool) → List Row → List Turn
turns change p rs = map (λ row. record { order = row.order; change = change row }) (filter p rs)

-- in turn, each row is changed by itself
each_turned : (row : Row) (rs : List Row) (ts : List Turn) → fold turned_all (row ∷ rs) ts ≡ fold turned row ts ∷ fold turned_all rs ts
each_turned row rs [] = refl
each_turned row rs (t ∷ ts) = each_turned (turned row t) (turned_all rs t) ts

-- the row that a turn names is changed
turned_same : (row : Row) (t : Turn) → row.order ≡ t.order → turned row t ≡ t.change row
turned_same row t same = ap (λ (b : Bool). if b then t.change row else row) (eq-eqb row.order t.order same)

-- and any other stays
turned_other : (row : Row) (t : Turn) → row.order ≢ t.order → turned row t ≡ row
turned_other row t other = ap (λ (b : Bool). if b then t.change row else row) (ne_eqb row.order t.order other)

-- what no turn names stays
unturned : (row : Row) (ts : List Turn) → AllByRecursion (λ t. row.order ≢ t.order) ts → fold turned row ts ≡ row
unturned row [] others = refl
unturned row (t ∷ ts) others = ap (λ (r : Row). fold turned r ts) (turned_other row t others.0) ∙ unturned row ts others.1

all_unturned : (rs : List Row) (t : Turn) → AllByRecursion (λ row. row.order ≢ t.order) rs → turned_all rs t ≡ rs
all_unturned [] t others = refl
all_unturned (row ∷ rs) t others = (λ i. turned_other row t others.0 i ∷ all_unturned rs t others.1 i)

-- ---- the turns of the rows that pass a test

-- the turns of rows name no other order
none_named : (change : Row → Row → Row) (p : Row → Bool) (order : ℕ) (rs : List Row) → AllByRecursion (λ row. row.order ≢ order) rs
    → AllByRecursion (λ t. order ≢ t.order) (turns change p rs)
none_named change p order [] others = tt
none_named change p order (row ∷ rs) others =
    let rest = none_named change p order rs others.1 in
    elim (p row) as (λ (b : Bool). AllByRecursion (λ (t : Turn). order ≢ t.order) (map (λ row. record { order = row.order; change = change row }) (if b then row ∷ filter p rs else filter p rs))) [
      | true ↦ ((λ same. others.0 (sym same)), rest)
      | false ↦ rest
    ]

-- where changes leave the orders, each row that passes is changed by its own turn, and the others stay
pub turned_by_own : (change : Row → Row → Row) → ((row x : Row) → (change row x).order ≡ x.order) → (p : Row → Bool)
    → (first : Row → Row) → ((row : Row) → (first row).order ≡ row.order) → (rs : List Row) → AreApart rs
    → fold turned_all (map first rs) (turns change p rs) ≡ map (λ row. if p row then change row (first row) else first row) rs
turned_by_own change keeps p first same [] apart = refl
turned_by_own change keeps p first same (row ∷ rs) apart =
    let rest = turned_by_own change keeps p first same rs apart.1 in
    let own : Turn = record { order = row.order; change = change row } in
    let others : List Turn = turns change p rs in
    let unnamed : (x : Row) → x.order ≡ row.order → fold turned x others ≡ x =
    λ x is. unturned x others (subst (λ (order : ℕ). AllByRecursion (λ (t : Turn). order ≢ t.order) others) (sym is) (none_named change p row.order rs apart.0)) in
    let apart_before : AllByRecursion (λ x. x.order ≢ row.order) (map first rs) =
    each-map (λ (x : Row). x.order ≢ row.order) first rs
    (each-weaker (λ (x : Row). x.order ≢ row.order) (λ (x : Row). (first x).order ≢ row.order) (λ x other is. other (sym (same x) ∙ is)) rs apart.0) in
    elim (p row) as (λ (b : Bool).
    fold turned_all (first row ∷ map first rs) (map (λ row. record { order = row.order; change = change row }) (if b then row ∷ filter p rs else filter p rs))
    ≡ (if b then change row (first row) else first row) ∷ map (λ row. if p row then change row (first row) else first row) rs) [
      | true ↦
          each_turned (first row) (map first rs) (own ∷ others)
          ∙ (λ i.
          (ap (λ (x : Row). fold turned x others) (turned_same (first row) own (same row)) ∙ unnamed (change row (first row)) (keeps row (first row) ∙ same row)) i
          ∷ (ap (λ (xs : List Row). fold turned_all xs others) (all_unturned (map first rs) own apart_before) ∙ rest) i)
      | false ↦ each_turned (first row) (map first rs) others ∙ (λ i. unnamed (first row) (same row) i ∷ rest i)
    ]

-- ---- the turns of companies

-- a turn of one company's row does not change another's
abbrev pub turned_at : List ℕ → List Row → List ℕ × Turn → List Row
turned_at c rs x = if bytes_eq x.0 c then turned_all rs x.1 else rs

-- the turns of a company, with its identification
abbrev pub turns_of : List ℕ → List Turn → List (List ℕ × Turn)
turns_of c ts = map (λ t. (c, t)) ts

-- the company's own turns are made, and another's are not
own_turns : (c k : List ℕ) → bytes_eq k c ≡ true → (ts : List Turn) (rs : List Row) → fold (turned_at c) rs (turns_of k ts) ≡ fold turned_all rs ts
own_turns c k own [] rs = refl
own_turns c k own (t ∷ ts) rs =
    ap (λ (b : Bool). fold (turned_at c) (if b then turned_all rs t else rs) (turns_of k ts)) own
    ∙ own_turns c k own ts (turned_all rs t)

other_turns : (c k : List ℕ) → bytes_eq k c ≡ false → (ts : List Turn) (rs : List Row) → fold (turned_at c) rs (turns_of k ts) ≡ rs
other_turns c k other [] rs = refl
other_turns c k other (t ∷ ts) rs =
    ap (λ (b : Bool). fold (turned_at c) (if b then turned_all rs t else rs) (turns_of k ts)) other
    ∙ other_turns c k other ts rs

-- of the turns of all companies, those of one company are its own, if it is among them
pub turned_in : (c : List ℕ) (ts : List ℕ → List Turn) (ks : List Company) → Apart ks → (rs : List Row)
    → fold (turned_at c) rs (flat_map (λ k. turns_of k.id (ts k.id)) ks) ≡ (if is_some (find (has_id c) ks) then fold turned_all rs (ts c) else rs)
turned_in c ts [] apart rs = refl
turned_in c ts (k ∷ ks) apart rs =
    let rest = flat_map (λ (k : Company). turns_of k.id (ts k.id)) ks in
    fold-append (turned_at c) rs (turns_of k.id (ts k.id)) rest
    ∙ elim (cases_Bool (bytes_eq k.id c)) [
      | inl own ↦
          let is : k.id ≡ c = (bytes_eq-Decides k.id c).0 own in
          let none : find (has_id c) ks ≡ None = subst (λ (n : List ℕ). find (has_id n) ks ≡ None) is apart.0 in
          let made = fold turned_all rs (ts k.id) in
          ap (λ (xs : List Row). fold (turned_at c) xs rest) (own_turns c k.id own (ts k.id) rs)
          ∙ turned_in c ts ks apart.1 made
          ∙ ap (λ (o : Option Company). if is_some o then fold turned_all made (ts c) else made) none
          ∙ ap (λ (n : List ℕ). fold turned_all rs (ts n)) is
          ∙ ap (λ (b : Bool). if is_some (if b then Some k else find (has_id c) ks) then fold turned_all rs (ts c) else rs) (sym own)
      | inr other ↦
          ap (λ (xs : List Row). fold (turned_at c) xs rest) (other_turns c k.id other (ts k.id) rs)
          ∙ turned_in c ts ks apart.1 rs
          ∙ ap (λ (b : Bool). if is_some (if b then Some k else find (has_id c) ks) then fold turned_all rs (ts c) else rs) (sym other)
    ]
