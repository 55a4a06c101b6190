-- The records of a text, by those that were read first.
use Rattle.std.proofs.Common.{◌≡◌, ℕ, zero, suc, ◌+◌, ◌-◌, ◌<◌, ◌≤◌, arith, refl, sym, ap, ◌∙◌, inl, inr, ◌⊎◌, List, [], ◌∷◌, ◌++◌, length, Some, None, append-nil}
use Rattle.std.proofs.lemmas.Bool.{cases_Bool}
use Rattle.csv.specs.Machine.{Read, next_record, step, is_end, fields_after, field_after, ends_at_end}
use Rattle.csv.specs.Reading.{Reached, records_from, records, default_config}
use Rattle.csv.specs.declared.parser.Config.{Config}
use Rattle.csv.specs.declared.parser.State.{State}
use Rattle.csv.specs.declared.parser.State.TheVariants as st

-- a record takes bytes away, or is the last one
shorter : (cfg : Config) (s : State) (f : List (List ℕ)) (p xs : List ℕ) (q : Read) → next_record cfg s f p xs ≡ Some q
    → (length q.2 < length xs) ⊎ ((xs ≡ []) × (q.1 ≡ st.StartRecord) × (q.2 ≡ []))
unfolding next_record
shorter cfg s f p [] q e =
    elim (cases_Bool (ends_at_end s)) [
      | inl ends ↦
          let is : Some (f ++ (p ∷ []), st.StartRecord, []) ≡ Some q = rw ends at e in
          let r : (f ++ (p ∷ []), st.StartRecord, []) ≡ q = cc in
          inr (refl, sym (ap (λ (x : Read). x.1) r), sym (ap (λ (x : Read). x.2) r))
      | inr none ↦ let is : None ≡ Some q = rw none at e in cc
    ]
shorter cfg s f p (c ∷ rest) q e =
    elim (cases_Bool (is_end (step cfg s c).1)) [
      | inl ends ↦
          let is : Some (fields_after (step cfg s c).1 f p, (step cfg s c).0, rest) ≡ Some q = rw ends at e in
          let r : (fields_after (step cfg s c).1 f p, (step cfg s c).0, rest) ≡ q = cc in
          inl (rw (sym (ap (λ (x : Read). x.2) r)) (omega arith))
      | inr on ↦
          elim (shorter cfg (step cfg s c).0 (fields_after (step cfg s c).1 f p) (field_after (step cfg s c).1 c p) rest q (rw on at e)) [
            | inl lt ↦ inl (omega arith)
            | inr last ↦ inl (rw last.2 (omega arith))
          ]
    ]

-- none is left after the end
none_left : (cfg : Config) (rows : List (List (List ℕ))) (s2 : State) (ys : List ℕ) → Reached cfg st.StartRecord [] rows s2 ys → rows ≡ []
unfolding Reached next_record
none_left cfg [] s2 ys h = refl
none_left cfg (r ∷ rs) s2 ys h = cc

-- a text has no more records than bytes, and one
few : (cfg : Config) (s : State) (xs : List ℕ) (rows : List (List (List ℕ))) (s2 : State) (ys : List ℕ) → Reached cfg s xs rows s2 ys → length rows ≤ length xs + 1
unfolding Reached
few cfg s xs [] s2 ys h = omega arith
few cfg s xs (r ∷ rs) s2 ys h =
    elim (shorter cfg s [] [] xs h.0 h.1) [
      | inl lt ↦ omega (arith, few cfg h.0.1 h.0.2 rs s2 ys h.3)
      | inr last ↦
          let none : rs ≡ [] = none_left cfg rs s2 ys (rw (last.1, last.2) at h.3) in
          rw none (omega arith)
    ]

-- those that were read are a prefix
front : (cfg : Config) (n : ℕ) (s : State) (xs : List ℕ) (rows : List (List (List ℕ))) (s2 : State) (ys : List ℕ) → Reached cfg s xs rows s2 ys → length rows ≤ n
    → records_from cfg n s xs ≡ rows ++ records_from cfg (n - length rows) s2 ys
unfolding Reached records_from
front cfg n s xs [] s2 ys h le = let e : n - 0 ≡ n = omega arith in rw (h.0, h.1, e) refl
front cfg zero s xs (r ∷ rs) s2 ys h le = absurd (omega arith)
front cfg (suc n) s xs (r ∷ rs) s2 ys h le =
    let more = front cfg n h.0.1 h.0.2 rs s2 ys h.3 (omega arith) in
    let e : suc n - suc (length rs) ≡ n - length rs = omega arith in
    rw (h.1, ← h.2, e, more) refl

none_from : (cfg : Config) (n : ℕ) (s : State) (ys : List ℕ) → next_record cfg s [] [] ys ≡ None → records_from cfg n s ys ≡ []
unfolding records_from
none_from cfg zero s ys h = refl
none_from cfg (suc n) s ys h = rw h refl

-- what was read, and more
pub records_go : (xs : List ℕ) (rows : List (List (List ℕ))) (s2 : State) (ys : List ℕ) → Reached default_config st.StartRecord xs rows s2 ys → (more : List (List (List ℕ))) × (records default_config xs ≡ rows ++ more)
records_go xs rows s2 ys h = (_, front default_config (length xs + 1) st.StartRecord xs rows s2 ys h (few default_config st.StartRecord xs rows s2 ys h))

-- what was read, to the end
pub records_end : (xs : List ℕ) (rows : List (List (List ℕ))) (s2 : State) (ys : List ℕ) → Reached default_config st.StartRecord xs rows s2 ys → next_record default_config s2 [] [] ys ≡ None → records default_config xs ≡ rows
records_end xs rows s2 ys h e = front default_config (length xs + 1) st.StartRecord xs rows s2 ys h (few default_config st.StartRecord xs rows s2 ys h) ∙ ap (λ (m : List (List (List ℕ))). rows ++ m) (none_from default_config _ s2 ys e) ∙ append-nil rows
