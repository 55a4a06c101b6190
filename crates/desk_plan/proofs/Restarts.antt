-- The ranges of a cut stay apart until they begin again at 1, and then while they stay below the first of them.
use Rattle.std.proofs.Common.{◌≡◌, ℕ, suc, ◌+◌, ◌-◌, ◌<◌, ◌≤◌, ◌⊎◌, List, [], ◌∷◌, length, drop, drop-cons, get_or, Bool, true, false, not, ◌&&◌, ◌||◌, refl, sym, ap, subst, ◌∙◌, arith, inl, inr, All, nat_le, if◌then◌else◌}
use Rattle.std.specs.List.{list_any, AllByRecursion}
use Rattle.std.proofs.lemmas.Bool.{leb-true, leb-false, le-leb, lt-leb, and_from, and_left, and_right, or_from, or_left, or_right, cases_Bool}
use Rattle.std.proofs.lemmas.List.Elements.{recursion_from_All}
use Rattle.desk_plan.specs.Batch.{IsEntryCount}
use Rattle.desk_plan.specs.Sequences.{range_after, ranges, meets, are_apart}
use Rattle.desk_plan.proofs.Ranges.{cases_range, IsRange-range_after, are_clear, clear_is_apart}

-- Whether the ranges after a last sequence are apart, and apart from those of the cut before them:
-- `start` is the first sequence of the cut, and `restarted` says whether its ranges began again.
abbrev pub stays_apart : ℕ → Bool → ℕ → List ℕ → Bool
stays_apart start restarted last [] = true
stays_apart start restarted last (n ∷ counts) =
    if restarted && nat_le (range_after last n).0 last then false
    else (if (restarted || nat_le (range_after last n).0 last) && nat_le start (range_after last n).1 then false
    else stays_apart start (restarted || nat_le (range_after last n).0 last) (range_after last n).1 counts)

-- Before the numbers begin again, the ranges so far go from the start to the last sequence.
record Onward (start last : ℕ) (taken : List (ℕ × ℕ)) : Type 0 where
  some : 1 ≤ start
  up : start ≤ last
  free : (r : ℕ × ℕ) → (last < r.0) ⊎ (r.1 < start) → list_any (meets r) taken ≡ false
  hits : (r : ℕ × ℕ) → r.0 ≤ start → start ≤ r.1 → list_any (meets r) taken ≡ true

-- and after that: they also go from 1 to the last sequence
record Again (start last : ℕ) (taken : List (ℕ × ℕ)) : Type 0 where
  below : last < start
  free : (r : ℕ × ℕ) → last < r.0 → r.1 < start → list_any (meets r) taken ≡ false
  hits : (r : ℕ × ℕ) → r.0 ≤ start → start ≤ r.1 → list_any (meets r) taken ≡ true
  one : (r : ℕ × ℕ) → r.0 ≤ 1 → 1 ≤ r.1 → list_any (meets r) taken ≡ true

above : (r : ℕ × ℕ) (f l : ℕ) → l < r.0 → meets r (f, l) ≡ false
above r f l lt = and_left _ _ (lt-leb r.0 l lt)

under : (r : ℕ × ℕ) (f l : ℕ) → r.1 < f → meets r (f, l) ≡ false
under r f l lt = and_right _ _ (lt-leb f r.1 lt)

onward_more : (start last : ℕ) (taken : List (ℕ × ℕ)) → Onward start last taken → (f l : ℕ) → last < f → f ≤ l → Onward start l ((f, l) ∷ taken)
onward_more start last taken o f l lt le = record {
  some = o.some;
  up = let u = o.up in omega arith;
  free = λ r h. elim h [
    | inl high ↦ or_from _ _ (above r f l high) (o.free r (inl (omega arith)))
    | inr low ↦ let u = o.up in or_from _ _ (under r f l (omega arith)) (o.free r (inr low))
  ];
  hits = λ r a b. or_right _ _ (o.hits r a b);
}

again_first : (start last : ℕ) (taken : List (ℕ × ℕ)) → Onward start last taken → (l : ℕ) → 1 ≤ l → l < start → Again start l ((1, l) ∷ taken)
again_first start last taken o l some lt = record {
  below = lt;
  free = λ r a b. or_from _ _ (above r 1 l a) (o.free r (inr b));
  hits = λ r a b. or_right _ _ (o.hits r a b);
  one = λ r a b. or_left _ _ (and_from _ _ (le-leb r.0 l (omega arith)) (le-leb 1 r.1 b));
}

again_more : (start last : ℕ) (taken : List (ℕ × ℕ)) → Again start last taken → (f l : ℕ) → last < f → f ≤ l → l < start → Again start l ((f, l) ∷ taken)
again_more start last taken g f l lt le low = record {
  below = low;
  free = λ r a b. or_from _ _ (above r f l a) (g.free r (omega arith) b);
  hits = λ r a b. or_right _ _ (g.hits r a b);
  one = λ r a b. or_right _ _ (g.one r a b);
}

stays_again : (start last : ℕ) (taken : List (ℕ × ℕ)) → Again start last taken → (counts : List ℕ) → AllByRecursion IsEntryCount counts → stays_apart start true last counts ≡ are_clear (ranges last counts) taken
stays_again start last taken g [] all = refl
stays_again start last taken g (n ∷ counts) all =
    let f = (range_after last n).0 in
    let l = (range_after last n).1 in
    let some : 1 ≤ n = all.0.0 in
    let low : last < start = g.below in
    let rest = are_clear (ranges l counts) ((f, l) ∷ taken) in
    elim (cases_range last n) [
      | inl on ↦
          let fe : f ≡ last + 1 = ap (λ (r : ℕ × ℕ). r.0) on.0 in
          let le : l ≡ last + 1 + n - 1 = ap (λ (r : ℕ × ℕ). r.1) on.0 in
          ap (λ (t : Bool). if t then false else (if nat_le start l then false else stays_apart start true l counts)) (lt-leb f last (omega (arith, fe)))
          ∙ elim (cases_Bool (nat_le start l)) [
            | inl past ↦
                ap (λ (t : Bool). if t then false else stays_apart start true l counts) past
                ∙ ap (λ (t : Bool). not t && rest) (sym (g.hits (f, l) (omega (arith, fe)) (leb-true start l past)))
            | inr low ↦
                let under : l < start = leb-false start l low in
                ap (λ (t : Bool). if t then false else stays_apart start true l counts) low
                ∙ stays_again start l ((f, l) ∷ taken) (again_more start last taken g f l (omega (arith, fe)) (omega (arith, fe, le)) under) counts all.1
                ∙ ap (λ (t : Bool). not t && rest) (sym (g.free (f, l) (omega (arith, fe)) under))
          ]
      | inr over ↦
          let fe : f ≡ 1 = ap (λ (r : ℕ × ℕ). r.0) over.0 in
          let le : l ≡ 1 + n - 1 = ap (λ (r : ℕ × ℕ). r.1) over.0 in
          let few : n ≤ 1000 = all.0.1 in
          let far = over.1 in
          ap (λ (t : Bool). if t then false else (if nat_le start l then false else stays_apart start true l counts)) (le-leb f last (omega (arith, fe)))
          ∙ ap (λ (t : Bool). not t && rest) (sym (g.one (f, l) (omega (arith, fe)) (omega (arith, le))))
    ]

stays_onward : (start last : ℕ) (taken : List (ℕ × ℕ)) → Onward start last taken → (counts : List ℕ) → AllByRecursion IsEntryCount counts → stays_apart start false last counts ≡ are_clear (ranges last counts) taken
stays_onward start last taken o [] all = refl
stays_onward start last taken o (n ∷ counts) all =
    let f = (range_after last n).0 in
    let l = (range_after last n).1 in
    let some : 1 ≤ n = all.0.0 in
    let first : 1 ≤ start = o.some in
    let rest = are_clear (ranges l counts) ((f, l) ∷ taken) in
    elim (cases_range last n) [
      | inl on ↦
          let fe : f ≡ last + 1 = ap (λ (r : ℕ × ℕ). r.0) on.0 in
          let le : l ≡ last + 1 + n - 1 = ap (λ (r : ℕ × ℕ). r.1) on.0 in
          ap (λ (t : Bool). if t && nat_le start l then false else stays_apart start t l counts) (lt-leb f last (omega (arith, fe)))
          ∙ stays_onward start l ((f, l) ∷ taken) (onward_more start last taken o f l (omega (arith, fe)) (omega (arith, fe, le))) counts all.1
          ∙ ap (λ (t : Bool). not t && rest) (sym (o.free (f, l) (inl (omega (arith, fe)))))
      | inr over ↦
          let fe : f ≡ 1 = ap (λ (r : ℕ × ℕ). r.0) over.0 in
          let le : l ≡ 1 + n - 1 = ap (λ (r : ℕ × ℕ). r.1) over.0 in
          let few : n ≤ 1000 = all.0.1 in
          let far = over.1 in
          ap (λ (t : Bool). if t && nat_le start l then false else stays_apart start t l counts) (le-leb f last (omega (arith, fe)))
          ∙ elim (cases_Bool (nat_le start l)) [
            | inl past ↦
                ap (λ (t : Bool). if t then false else stays_apart start true l counts) past
                ∙ ap (λ (t : Bool). not t && rest) (sym (o.hits (f, l) (omega (arith, fe)) (leb-true start l past)))
            | inr low ↦
                let under : l < start = leb-false start l low in
                ap (λ (t : Bool). if t then false else stays_apart start true l counts) low
                ∙ stays_again start l ((f, l) ∷ taken) (subst (λ (m : ℕ). Again start l ((m, l) ∷ taken)) (sym fe) (again_first start last taken o l (omega (arith, le)) under)) counts all.1
                ∙ ap (λ (t : Bool). not t && rest) (sym (o.free (f, l) (inr under)))
          ]
    ]

-- the first range of a cut
begun : (start last : ℕ) → 1 ≤ start → start ≤ last → Onward start last ((start, last) ∷ [])
begun start last some up = record {
  some = some;
  up = up;
  free = λ r h. elim h [
    | inl high ↦ or_from _ _ (above r start last high) refl
    | inr low ↦ or_from _ _ (under r start last low) refl
  ];
  hits = λ r a b. or_left _ _ (and_from _ _ (le-leb r.0 last (omega arith)) (le-leb start r.1 b));
}

first_stays : (last n : ℕ) (counts : List ℕ) → AllByRecursion IsEntryCount (n ∷ counts) → are_apart (ranges last (n ∷ counts)) ≡ stays_apart (range_after last n).0 false (range_after last n).1 counts
first_stays last n counts all =
    let r = range_after last n in
    let within = IsRange-range_after last n all.0 in
    sym (clear_is_apart (ranges last (n ∷ counts))) ∙ sym (stays_onward r.0 r.1 (r ∷ []) (begun r.0 r.1 within.some within.up) counts all.1)

-- The loop that plans the ranges: the facts at its ends.
module _ (last : ℕ) (entries : List ℕ) (n : ℕ) (rest : List ℕ) (first : ℕ × ℕ) (split : entries ≡ n ∷ rest) (is : first ≡ range_after last n) where
  pub apart_as : All IsEntryCount entries → are_apart (ranges last entries) ≡ stays_apart first.0 false first.1 rest
  apart_as all =
      ap (λ (l : List ℕ). are_apart (ranges last l)) split
      ∙ first_stays last n rest (recursion_from_All IsEntryCount (n ∷ rest) (subst (All IsEntryCount) split all))
      ∙ ap (λ (r : ℕ × ℕ). stays_apart r.0 false r.1 rest) (sym is)

  pub ranges_as : (first.0, first.1) ∷ ranges first.1 rest ≡ ranges last entries
  ranges_as = ap (λ (r : ℕ × ℕ). (r.0, r.1) ∷ ranges r.1 rest) is ∙ ap (ranges last) (sym split)

-- A range that begins again, or reaches the start after that, ends it.
module _ (start last i : ℕ) (restarted : Bool) (rest : List ℕ) (lt : i < length rest) (next : ℕ × ℕ) (is : next ≡ range_after last (get_or rest i 0)) where
  abbrev step : ℕ × ℕ → Bool
  step r =
      if restarted && nat_le r.0 last then false
      else (if (restarted || nat_le r.0 last) && nat_le start r.1 then false
      else stays_apart start (restarted || nat_le r.0 last) r.1 (drop (suc i) rest))

  stepped : stays_apart start restarted last (drop i rest) ≡ step next
  stepped = ap (stays_apart start restarted last) (drop-cons rest i 0 lt) ∙ ap step (sym is)

  pub ends_restarted : restarted ≡ true → next.0 ≤ last → stays_apart start restarted last (drop i rest) ≡ false
  ends_restarted h le = stepped ∙ ap (λ (t : Bool). if t then false else (if (restarted || nat_le next.0 last) && nat_le start next.1 then false else stays_apart start (restarted || nat_le next.0 last) next.1 (drop (suc i) rest))) (and_from _ _ h (le-leb _ _ le))

  pub ends_past : (restarted || nat_le next.0 last) ≡ true → start ≤ next.1 → stays_apart start restarted last (drop i rest) ≡ false
  ends_past h le =
      let behind = stays_apart start (restarted || nat_le next.0 last) next.1 (drop (suc i) rest) in
      stepped
      ∙ elim (restarted && nat_le next.0 last) as (λ t. (if t then false else (if (restarted || nat_le next.0 last) && nat_le start next.1 then false else behind)) ≡ false) [
        | true ↦ refl
        | false ↦ ap (λ (t : Bool). if t then false else behind) (and_from _ _ h (le-leb _ _ le))
      ]
