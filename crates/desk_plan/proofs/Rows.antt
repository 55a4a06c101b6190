-- The latest settlement of a range, among rows that name the youngest entry of each sequence.
use Rattle.std.proofs.Common.{◌≡◌, ◌≢◌, ℕ, zero, suc, ◌+◌, ◌-◌, ◌<◌, List, [], ◌∷◌, length, get_or, map, Bool, true, false, ◌&&◌, ◌||◌, ◌==◌, Option, Some, None, refl, sym, ap, ◌∙◌, arith, inl, inr, AllPairs, nat_le, filter, filter_map, fold, max, option_map, if◌then◌else◌}
use Rattle.std.specs.List.{range_with_len, list_any, reduce, cons_option}
use Rattle.std.proofs.lemmas.Bool.{cases_Bool, cases_lt, eqb-true, ne_eqb, or_parts}
use Rattle.std.proofs.lemmas.Bool.Decides.{nat_tests}
use Rattle.desk_plan.specs.Laws.{LatestInRows}
use Rattle.desk_plan.specs.Numbers.{is_in, latest_in}
use Rattle.desk_plan.specs.Reuse.{youngest, youngest_settlement}
use Rattle.desk_plan.specs.Sequences.{SentSequence}

-- the later of two days
abbrev later : Option ℕ → Option ℕ → Option ℕ
later None b = b
later (Some a) None = Some a
later (Some a) (Some b) = Some (max a b)

max_assoc : (a b c : ℕ) → max (max a b) c ≡ max a (max b c)
max_assoc a b c = omega arith

fold_max : (a b : ℕ) (ds : List ℕ) → fold max (max a b) ds ≡ max a (fold max b ds)
fold_max a b [] = refl
fold_max a b (d ∷ ds) = ap (λ m. fold max m ds) (max_assoc a b d) ∙ fold_max a (max b d) ds

reduce-cons : (d : ℕ) (ds : List ℕ) → reduce max (d ∷ ds) ≡ later (Some d) (reduce max ds)
reduce-cons d [] = refl
reduce-cons d (x ∷ ds) = ap Some (fold_max d x ds)

reduce-cons_option : (o : Option ℕ) (ds : List ℕ) → reduce max (cons_option o ds) ≡ later o (reduce max ds)
reduce-cons_option None ds = refl
reduce-cons_option (Some d) ds = reduce-cons d ds

max_turned : (x r v : ℕ) → max x (max v r) ≡ max v (max x r)
max_turned x r v = omega arith

max_comm : (x v : ℕ) → max x v ≡ max v x
max_comm x v = omega arith

later_turned : (x r : Option ℕ) (v : ℕ) → later x (later (Some v) r) ≡ later (Some v) (later x r)
later_turned None r v = refl
later_turned (Some x) None v = ap Some (max_comm x v)
later_turned (Some x) (Some r) v = ap Some (max_turned x r v)

-- the latest settlement of the youngest entries that have some sequences
abbrev latest : List SentSequence → List ℕ → Option ℕ
latest sent ss = reduce max (filter_map (youngest_settlement sent) ss)

latest-cons : (sent : List SentSequence) (s : ℕ) (ss : List ℕ) → latest sent (s ∷ ss) ≡ later (youngest_settlement sent s) (latest sent ss)
latest-cons sent s ss = reduce-cons_option (youngest_settlement sent s) (filter_map (youngest_settlement sent) ss)

same_latest : (rows sent : List SentSequence) → ((s : ℕ) → youngest rows s ≡ youngest sent s) → (ss : List ℕ) → filter_map (youngest_settlement sent) ss ≡ filter_map (youngest_settlement rows) ss
same_latest rows sent same [] = refl
same_latest rows sent same (s ∷ ss) = λ i. cons_option (option_map (λ e. e.settled) (sym (same s) i)) (same_latest rows sent same ss i)

-- which sequences are among those from a first one on
abbrev has : ℕ → List ℕ → Bool
has s ss = list_any (λ x. x == s) ss

beyond : (s f n : ℕ) → s < f → has s (range_with_len f n) ≡ false
beyond s f zero lt = refl
beyond s f (suc n) lt = ap (λ t. t || has s (range_with_len (f + 1) n)) (ne_eqb f s (λ e. omega (arith, e, lt))) ∙ beyond s (f + 1) n (omega arith)

has_one : (f s : ℕ) → ((f == s) || false) ≡ (nat_le f s && nat_le s (f + 0))
has_one f s = grind (arith, nat_tests)

has_more : (f k s : ℕ) → ((f == s) || (nat_le (f + 1) s && nat_le s (f + 1 + k))) ≡ (nat_le f s && nat_le s (f + suc k))
has_more f k s = grind (arith, nat_tests)

has-range : (f k s : ℕ) → has s (range_with_len f (suc k)) ≡ is_in (f, f + k) s
has-range f zero s = has_one f s
has-range f (suc k) s = ap (λ t. (f == s) || t) (has-range (f + 1) k s) ∙ has_more f k s

eqb_turned : (a b : ℕ) → (a == b) ≡ (b == a)
eqb_turned a b = grind (arith, nat_tests)

-- one row more, of a sequence that the others don't have
module _ (row : SentSequence) (rows : List SentSequence) (new : youngest rows row.sequence ≡ None) where
  first : (s : ℕ) (t : Bool) → (row.sequence == s) ≡ t → youngest_settlement (row ∷ rows) s ≡ option_map (λ e. e.settled) (if t then Some row else youngest rows s)
  first s t e = ap (λ (u : Bool). option_map (λ (e : SentSequence). e.settled) (if u then Some row else youngest rows s)) e

  without : (ss : List ℕ) → has row.sequence ss ≡ false → latest (row ∷ rows) ss ≡ latest rows ss
  without [] e = refl
  without (s ∷ ss) e =
      let parts = or_parts (s == row.sequence) (has row.sequence ss) e in
      latest-cons (row ∷ rows) s ss
      ∙ (λ i. later (first s false (eqb_turned row.sequence s ∙ parts.0) i) (without ss parts.1 i))
      ∙ sym (latest-cons rows s ss)

  with_row : (f n : ℕ) → has row.sequence (range_with_len f n) ≡ true → latest (row ∷ rows) (range_with_len f n) ≡ later (Some row.settled) (latest rows (range_with_len f n))
  with_row f zero e = cc
  with_row f (suc n) e =
      let behind = range_with_len (f + 1) n in
      latest-cons (row ∷ rows) f behind
      ∙ elim (cases_Bool (f == row.sequence)) [
        | inl is ↦
            let same : f ≡ row.sequence = eqb-true f row.sequence is in
            let none : youngest rows f ≡ None = ap (youngest rows) same ∙ new in
            (λ i. later (first f true (eqb_turned row.sequence f ∙ is) i) (without behind (beyond row.sequence (f + 1) n (omega (arith, same))) i))
            ∙ ap (λ (o : Option SentSequence). later (Some row.settled) (later (option_map (λ e. e.settled) o) (latest rows behind))) (sym none)
        | inr other ↦
            let rest : has row.sequence behind ≡ true = ap (λ t. t || has row.sequence behind) (sym other) ∙ e in
            (λ i. later (first f false (eqb_turned row.sequence f ∙ other) i) (with_row (f + 1) n rest i))
            ∙ later_turned (youngest_settlement rows f) (latest rows behind) row.settled
      ]
      ∙ ap (later (Some row.settled)) (sym (latest-cons rows f behind))

abbrev IsApart : SentSequence → SentSequence → Type 0
IsApart a b = a.sequence ≢ b.sequence

rest_apart : (row : SentSequence) (rows : List SentSequence) → AllPairs IsApart (row ∷ rows) → AllPairs IsApart rows
rest_apart row rows h i j d lt le = h (suc i) (suc j) d (omega arith) (omega arith)

not_found : (s : ℕ) (rows : List SentSequence) → ((k : ℕ) (d : SentSequence) → k < length rows → s ≢ (get_or rows k d).sequence) → youngest rows s ≡ None
not_found s [] h = refl
not_found s (row ∷ rows) h =
    ap (λ (t : Bool). if t then Some row else youngest rows s) (ne_eqb row.sequence s (λ e. h 0 row (omega arith) (sym e)))
    ∙ not_found s rows (λ k d lt. h (suc k) d (omega arith))

none_latest : (ss : List ℕ) → latest [] ss ≡ None
none_latest [] = refl
none_latest (s ∷ ss) = none_latest ss

rows_latest : (rows : List SentSequence) → AllPairs IsApart rows → (f k : ℕ) → latest rows (range_with_len f (suc k)) ≡ latest_in rows (f, f + k)
rows_latest [] h f k = none_latest (range_with_len f (suc k))
rows_latest (row ∷ rows) h f k =
    let new = not_found row.sequence rows (λ j d lt. h 0 (suc j) d (omega arith) (omega arith)) in
    let kept = filter (λ row. is_in (f, f + k) row.sequence) rows in
    let goal : Bool → Option ℕ = λ t. reduce max (map (λ row. row.settled) (if t then row ∷ kept else kept)) in
    let rest = rows_latest rows (rest_apart row rows h) f k in
    elim (cases_Bool (is_in (f, f + k) row.sequence)) [
      | inl is ↦
          with_row row rows new f (suc k) (has-range f k row.sequence ∙ is)
          ∙ ap (later (Some row.settled)) rest
          ∙ sym (reduce-cons row.settled (map (λ row. row.settled) kept))
          ∙ ap goal (sym is)
      | inr other ↦ without row rows new (range_with_len f (suc k)) (has-range f k row.sequence ∙ other) ∙ rest ∙ ap goal (sym other)
    ]

out_of : (f l s : ℕ) → l < f → is_in (f, l) s ≡ false
out_of f l s lt = grind (arith, nat_tests)

none_kept : (f l : ℕ) (rows : List SentSequence) → l < f → latest_in rows (f, l) ≡ None
none_kept f l [] lt = refl
none_kept f l (row ∷ rows) lt =
    let kept = filter (λ row. is_in (f, l) row.sequence) rows in
    ap (λ (t : Bool). reduce max (map (λ row. row.settled) (if t then row ∷ kept else kept))) (out_of f l row.sequence lt)
    ∙ none_kept f l rows lt

pub latest_in_rows : LatestInRows
latest_in_rows rows sent r h =
    ap (reduce max) (same_latest rows sent h.same (range_with_len r.0 (r.1 + 1 - r.0)))
    ∙ elim (cases_lt r.1 r.0) [
      | inl empty ↦ let none : r.1 + 1 - r.0 ≡ 0 = omega arith in ap (λ n. latest rows (range_with_len r.0 n)) none ∙ sym (none_kept r.0 r.1 rows empty)
      | inr some ↦
          let k = r.1 - r.0 in
          let size : r.1 + 1 - r.0 ≡ suc k = omega arith in
          let end : r.0 + k ≡ r.1 = omega arith in
          ap (λ n. latest rows (range_with_len r.0 n)) size ∙ rows_latest rows h.apart r.0 k ∙ ap (λ m. latest_in rows (r.0, m)) end
    ]
