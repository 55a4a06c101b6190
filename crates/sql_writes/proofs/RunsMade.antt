-- What one UPDATE of a run leaves is what the edits of its rows make, one after another.
use Rattle.std.proofs.Common.{◌≡◌, ◌+◌, ℕ, ℤ, Bool, true, cond, List, [], ◌∷◌, find, length, slice_get, Some, Ok, refl, sym, ap, ◌∙◌, subst, arith, Less}
use Rattle.std.proofs.lemmas.Bool.{and_from, and_parts}
use Rattle.std.specs.List.{enumerate_from, list_all}
use Rattle.sqlite.specs.State.{State, Executes}
use Rattle.sqlite_keyed.specs.Lists.{update_where}
use Rattle.sqlite_sql.specs.Term.{holds, eval_all}
use Rattle.sqlite_value.specs.Order.{Row}
use Rattle.sql_statements.proofs.KeyOrder.{rises_updated}
use Rattle.sql_statements.proofs.OneRow.{one_of}
use Rattle.sql_statements.specs.Edits.{Edit, each_edit_from}
use Rattle.sql_statements.specs.Layouts.{Holds}
use Rattle.sql_statements.specs.StoredRows.{whole, row_of}
use Rattle.sql_tables.specs.ByName.{Name, Of, described, records}
use Rattle.sql_tables.specs.Change.{Change}
use Rattle.sql_tables.specs.Description.{as_row, form, key_cmp}
use Rattle.sql_tables.specs.KeyOrders.{IsInOrder}
use Rattle.sql_tables.specs.Layout.{desk_layout}
use Rattle.sql_tables.specs.Tables.{Tables}
use Rattle.sql_writes.proofs.Puts.{HasRecords, IsUpdateOf, rows_updated}
use Rattle.sql_writes.proofs.RunUpdates.{is_nth, in_run, marks, AreThere, still_there, run_is_marks}
use Rattle.sql_writes.specs.Runs.{is_run}

-- each row of a run stands so many after the first, the first none
pub run_named : {X : Type 0} (stands_after : X → ℕ → X → Bool) (first : X) (xs : List X) → stands_after first 0 first ≡ true → slice_get xs 0 ≡ Some first → is_run stands_after xs ≡ true
    → list_all (λ p. stands_after first p.0 p.1) (enumerate_from 0 xs) ≡ true
run_named stands_after first [] itself head run = refl
run_named {X} stands_after first (x ∷ xs) itself head run =
    let same : x ≡ first = one_value x first head in
    and_from _ _ (subst (λ (y : X). stands_after first 0 y ≡ true) (sym same) itself)
    (subst (λ (y : X). list_all (λ p. stands_after y p.0 p.1) (enumerate_from 1 xs) ≡ true) same run)
  where
    one_value : (a b : X) → Some a ≡ Some b → a ≡ b
    one_value a b e = cc

-- ---- the edits of a run

module _ {X E : Type 0} (key : X → Bool) (index : X → ℕ) (at : ℕ → X → X) (keeps_key : (n : ℕ) (x : X) → key (at n x) ≡ key x) (keeps_index : (n : ℕ) (x : X) → index (at n x) ≡ index x)
    (get : Tables → List X) (put : List X → Tables → Tables) (got : (xs : List X) (t : Tables) → get (put xs t) ≡ xs)
    (twice : (xs ys : List X) (t : Tables) → put ys (put xs t) ≡ put ys t) (same : (t : Tables) → put (get t) t ≡ t)
    (edit : ℕ → E → Edit Tables) (stands : ℕ → E → Bool) (first from : ℕ) where
  abbrev nth : ℕ → X → Bool
  nth = is_nth key index at keeps_key keeps_index

  abbrev its_marks : ℕ → ℕ → List X → List X
  its_marks = marks key index at keeps_key keeps_index

  -- the edit of a row that stands so many after the first is that of the row of a number
  abbrev pub IsOne : Type 0
  IsOne = (j n i : ℕ) (e : E) → n ≡ first + j → i ≡ from + j → stands j e ≡ true → (t : Tables) → (edit n e).after t ≡ put (update_where (nth i) (at i) (get t)) t

  pub after_run : IsOne → (es : List E) (j n i : ℕ) → n ≡ first + j → i ≡ from + j → list_all (λ p. stands p.0 p.1) (enumerate_from j es) ≡ true
      → (t : Tables) → (each_edit_from edit n es).after t ≡ put (its_marks i (length es) (get t)) t
  after_run one [] j n i at_place at_key names t = sym (same t)
  after_run one (e ∷ es) j n i at_place at_key names t =
      let parts = and_parts (stands j e) (list_all (λ p. stands p.0 p.1) (enumerate_from (j + 1) es)) names in
      let marked = update_where (nth i) (at i) (get t) in
      after_run one es (j + 1) (n + 1) (i + 1) (omega (arith, at_place)) (omega (arith, at_key)) parts.1 ((edit n e).after t)
      ∙ ap (λ u. put (its_marks (i + 1) (length es) (get u)) u) (one j n i e at_place at_key parts.0 t)
      ∙ ap (λ xs. put (its_marks (i + 1) (length es) xs) (put marked t)) (got marked t)
      ∙ twice marked (its_marks (i + 1) (length es) marked) t

  module _ (p : X → Bool) where
    abbrev Awaits : ℕ → ℕ → List X → Type 0
    Awaits = AreThere key index at keeps_key keeps_index p

    -- what is found of a row of a number tells what its edit does
    abbrev pub TellsOne : Type 0
    TellsOne = (j n i : ℕ) (e : E) → i ≡ from + j → stands j e ≡ true → (t : Tables) → (x : X) → find (nth i) (get t) ≡ Some x → p x ≡ true → (edit n e).Tells t

    pub tells_run : IsOne → TellsOne → (es : List E) (j n i : ℕ) → n ≡ first + j → i ≡ from + j → list_all (λ q. stands q.0 q.1) (enumerate_from j es) ≡ true
        → (t : Tables) → Awaits i (length es) (get t) → (each_edit_from edit n es).Tells t
    tells_run one tells [] j n i at_place at_key names t there = tt
    tells_run one tells (e ∷ es) j n i at_place at_key names t there =
        let parts = and_parts (stands j e) (list_all (λ q. stands q.0 q.1) (enumerate_from (j + 1) es)) names in
        let marked = update_where (nth i) (at i) (get t) in
        let left : get ((edit n e).after t) ≡ marked = ap get (one j n i e at_place at_key parts.0 t) ∙ got marked t in (
          tells j n i e at_key parts.0 t there.0.0 there.0.1 there.0.2,
          tells_run one tells es (j + 1) (n + 1) (i + 1) (omega (arith, at_place)) (omega (arith, at_key)) parts.1 ((edit n e).after t)
              (subst (Awaits (i + 1) (length es)) (sym left) (still_there key index at keeps_key keeps_index p (length es) i (i + 1) i (get t) (omega arith) there.1)),
        )

-- ---- the UPDATE of a run

module _ (n : Name) (key : Of n → Bool) (index : Of n → ℕ) (at : ℕ → Of n → Of n) (keeps_key : (i : ℕ) (x : Of n) → key (at i x) ≡ key x) (keeps_index : (i : ℕ) (x : Of n) → index (at i x) ≡ index x) where
  abbrev set_row : Of n → Of n
  set_row x = at (index x) x

  abbrev its_nth : ℕ → Of n → Bool
  its_nth = is_nth key index at keeps_key keeps_index

  -- the table has its rows as they become one after another, each of which was there, and passed
  pub record HasMarked (p : Of n → Bool) (from many : ℕ) (old new : State) (t : Tables) : Type 0 where
    pub has : HasRecords n (marks key index at keeps_key keeps_index from many (records n t)) old new
    pub rise : IsInOrder (key_cmp (described n)) (marks key index at keeps_key keeps_index from many (records n t))
    pub there : AreThere key index at keeps_key keeps_index p from many (records n t)

  module _ (single : (i : ℕ) (a b : Of n) → its_nth i a ≡ true → its_nth i b ≡ true → key_cmp (described n) a b ≡ Less → ⊥)
      (change : Change) (is : IsUpdateOf n change) (is_whole : form (described n) ≡ whole (as_row (described n))) (params : Row) (p : Of n → Bool) where
    pub run_updated : ((i : ℤ) (x : Of n) → list_all (holds (params ∷ row_of (form (described n)) (i, x) ∷ [])) change.tests ≡ p x)
        → ((i : ℤ) (x : Of n) → p x ≡ true → eval_all change.sets (params ∷ row_of (whole (as_row (described n))) (i, x) ∷ []) ≡ as_row (described n) (set_row x))
        → ((a b : Of n) → key_cmp (described n) (cond (p a) (set_row a) a) (cond (p b) (set_row b) b) ≡ key_cmp (described n) a b)
        → (from many : ℕ) → ((x : Of n) → p x ≡ true → in_run key index at keeps_key keeps_index from many x ≡ true)
        → (old new : State) → Executes change.text params old new (Ok many) → (t : Tables) → Holds desk_layout old.now t → HasMarked p from many old new t
    run_updated tested made keeps_order from many within old new ran t h =
        let rise = (h.1.stands n).rise in
        let done = rows_updated n change params p tested old new many ran t h is is_whole set_row made in
        let one = λ (i : ℕ). one_of _ (its_nth i) (single i) (records n t) rise in
        let it = run_is_marks key index at keeps_key keeps_index (records n t) one p many from within (sym done.1) in
        record {
          has = subst (λ xs. HasRecords n xs old new) it.0 done.0;
          rise = subst (λ xs. IsInOrder (key_cmp (described n)) xs) it.0 (rises_updated (key_cmp (described n)) p set_row keeps_order (records n t) rise);
          there = it.1;
        }
