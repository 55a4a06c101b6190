-- Places of sent entries and of their sequences.
use Rattle.std.proofs.Common.{◌≡◌, ℕ, zero, suc, ◌+◌, ◌-◌, ◌<◌, ◌≤◌, Bool, true, false, ◌&&◌, ◌==◌, cond, List, [], ◌∷◌, ◌++◌, find, length, reverse, slice_get, Option, Some, None, option_map, refl, sym, subst, ap, ◌∙◌, arith, inl, inr, bytes_eq}
use Rattle.std.specs.Prelude.{⊤}
use Rattle.std.specs.List.{enumerate_from}
use Rattle.std.proofs.lemmas.Bool.{cases_Bool, and_parts, eq-eqb, ne_eqb, eqb-true}
use Rattle.std.proofs.lemmas.List.{reverse-append, length-reverse}
use Rattle.std.proofs.lemmas.Slice.Eq.{bytes_eq-Decides}
use Rattle.sqlite_trees.specs.Tree.{IsAscending}
use Rattle.sqlite_keyed.proofs.ListLemmas.{all-slice_get, all_of}
use Rattle.desk_history.specs.declared.sent_entry.SentEntry.{SentEntry}
use Rattle.sql_tables.specs.Beside.{AreApart}
use Rattle.sql_tables.specs.Encodes.{is_entry, youngest_place}
use Rattle.sql_tables.specs.TableReads.{is_place}
use Rattle.sql_tables.proofs.Lists.{found_passes}
use Rattle.sql_tables.proofs.YoungestNumbers.{youngest_more}

-- ---- the place of an entry

abbrev pub place_from : ℕ → List SentEntry → List ℕ → ℕ → ℕ → Option ℕ
place_from n sent c o i = option_map (λ p. p.0) (find (λ p. is_entry c o i p.1) (enumerate_from n sent))

-- the entry at a place is the one that has that place
module _ (c : List ℕ) (o i : ℕ) where
  place_step : (n : ℕ) (x : SentEntry) (sent : List SentEntry) → place_from n (x ∷ sent) c o i ≡ cond (is_entry c o i x) (Some n) (place_from (n + 1) sent c o i)
  place_step n x sent = elim (is_entry c o i x) as (λ t. option_map (λ (p : ℕ × SentEntry). p.0) (cond t (Some (n, x)) (find (λ p. is_entry c o i p.1) (enumerate_from (n + 1) sent))) ≡ cond t (Some n) (place_from (n + 1) sent c o i)) [ true ↦ refl | false ↦ refl ]

  place_above : (m n : ℕ) (sent : List SentEntry) → m < n → is_place m (place_from n sent c o i) ≡ false
  place_above m n [] above = refl
  place_above m n (x ∷ sent) above =
      ap (is_place m) (place_step n x sent)
      ∙ elim (is_entry c o i x) as (λ t. is_place m (cond t (Some n) (place_from (n + 1) sent c o i)) ≡ false) [
        | true ↦ ne_eqb n m (λ same. absurd (omega arith))
        | false ↦ place_above m (n + 1) sent (omega arith)
      ]

  other_entry : (x e : SentEntry) → is_entry c o i x ≡ true → AreApart x e → is_entry c o i e ≡ false
  other_entry x e is apart =
      let outer = and_parts _ _ is in
      let inner = and_parts _ _ outer.0 in
      (λ k. bytes_eq e.company (sym ((bytes_eq-Decides x.company c).0 inner.0) k) && e.order == sym (eqb-true x.order o inner.1) k && e.index == sym (eqb-true x.index i outer.1) k) ∙ apart

  pub place_is : (n j : ℕ) (sent : List SentEntry) (e : SentEntry) → IsAscending AreApart sent → slice_get sent j ≡ Some e → is_place (n + j) (place_from n sent c o i) ≡ is_entry c o i e
  place_is n j [] e apart at = absurd (let e = at in cc)
  place_is n zero (x ∷ sent) e apart at =
      let same : x ≡ e = (let e = at in cc) in
      ap (is_place (n + 0)) (place_step n x sent)
      ∙ elim (is_entry c o i x) as (λ t. is_place (n + 0) (cond t (Some n) (place_from (n + 1) sent c o i)) ≡ t) [
        | true ↦ eq-eqb n (n + 0) (omega arith)
        | false ↦ place_above (n + 0) (n + 1) sent (omega arith)
      ]
      ∙ ap (is_entry c o i) same
  place_is n (suc j) (x ∷ sent) e apart at =
      ap (is_place (n + suc j)) (place_step n x sent)
      ∙ elim (cases_Bool (is_entry c o i x)) [
        | inl is ↦
            ap (λ t. is_place (n + suc j) (cond t (Some n) (place_from (n + 1) sent c o i))) is
            ∙ ne_eqb n (n + suc j) (λ same. absurd (omega arith))
            ∙ sym (other_entry x e is (all-slice_get (AreApart x) sent j e at apart.0))
        | inr out ↦
            ap (λ t. is_place (n + suc j) (cond t (Some n) (place_from (n + 1) sent c o i))) out
            ∙ ap (λ (k : ℕ). is_place k (place_from (n + 1) sent c o i)) (let at : n + suc j ≡ n + 1 + j = omega arith in at)
            ∙ place_is (n + 1) j sent e apart.1 at
      ]

-- ---- the place of a sequence's youngest entry

-- the youngest entry that has a sequence, the newest first
abbrev pub youngest : List SentEntry → ℕ → Option SentEntry
youngest newest s = find (λ e. e.sequence == s) newest

-- it stands at the place of the sequence
pub record StandsAt (newest : List SentEntry) (s place : ℕ) : Type 0 where
  pub entry : SentEntry
  pub at : slice_get (reverse newest) (place - 1) ≡ Some entry
  pub found : youngest newest s ≡ Some entry
  pub within : (1 ≤ place) × (place ≤ length newest)

-- the sequence has a place exactly where an entry has the sequence
abbrev pub StandsOrNone : List SentEntry → ℕ → Option ℕ → Type 0
StandsOrNone newest s None = youngest newest s ≡ None
StandsOrNone newest s (Some place) = StandsAt newest s place

slice_get-front : {X : Type 0} (xs ys : List X) (k : ℕ) (x : X) → slice_get xs k ≡ Some x → slice_get (xs ++ ys) k ≡ Some x
slice_get-front [] ys k x at = absurd (let e = at in cc)
slice_get-front (z ∷ xs) ys zero x at = at
slice_get-front (z ∷ xs) ys (suc k) x at = slice_get-front xs ys k x at

pub slice_get-end : {X : Type 0} (xs : List X) (x : X) → slice_get (xs ++ x ∷ []) (length xs) ≡ Some x
slice_get-end [] x = refl
slice_get-end (z ∷ xs) x = slice_get-end xs x

-- the place of a sequence with one more entry
pub place_more : (e : SentEntry) (newest : List SentEntry) (s : ℕ) → youngest_place (reverse (e ∷ newest)) s ≡ cond (e.sequence == s) (Some (length newest + 1)) (youngest_place (reverse newest) s)
place_more e newest s =
    ap (λ l. youngest_place l s) (reverse-append (e ∷ []) newest)
    ∙ youngest_more (reverse newest) e s
    ∙ ap (λ n. cond (e.sequence == s) (Some (n + 1)) (youngest_place (reverse newest) s)) (length-reverse newest)

pub stands : (newest : List SentEntry) (s : ℕ) → StandsOrNone newest s (youngest_place (reverse newest) s)
stands [] s = refl
stands (e ∷ newest) s =
    let turned : reverse (e ∷ newest) ≡ reverse newest ++ e ∷ [] = reverse-append (e ∷ []) newest in
    let long : length (reverse newest) ≡ length newest = length-reverse newest in
    subst (StandsOrNone (e ∷ newest) s) (sym (place_more e newest s)) (go (e.sequence == s) refl (youngest_place (reverse newest) s) (stands newest s) turned long)
  where
    go : (t : Bool) → (e.sequence == s) ≡ t → (o : Option ℕ) → StandsOrNone newest s o → reverse (e ∷ newest) ≡ reverse newest ++ e ∷ [] → length (reverse newest) ≡ length newest
        → StandsOrNone (e ∷ newest) s (cond t (Some (length newest + 1)) o)
    go true is o before turned long = record {
      entry = e;
      at = ap (λ l. slice_get l (length newest + 1 - 1)) turned ∙ ap (λ k. slice_get (reverse newest ++ e ∷ []) k) (let same : length newest + 1 - 1 ≡ length (reverse newest) = omega arith in same) ∙ slice_get-end (reverse newest) e;
      found = ap (λ t. cond t (Some e) (youngest newest s)) is;
      within = (omega arith, omega arith);
    }
    go false is None before turned long = ap (λ t. cond t (Some e) (youngest newest s)) is ∙ before
    go false is (Some place) before turned long = record {
      entry = before.entry;
      at = ap (λ l. slice_get l (place - 1)) turned ∙ slice_get-front (reverse newest) (e ∷ []) (place - 1) before.entry before.at;
      found = ap (λ t. cond t (Some e) (youngest newest s)) is ∙ before.found;
      within = (omega (arith, before.within.0), omega (arith, before.within.1));
    }

-- the entry there has the sequence
pub stands_as : (newest : List SentEntry) (s place : ℕ) (it : StandsAt newest s place) → it.entry.sequence ≡ s
stands_as newest s place it = eqb-true it.entry.sequence s (found_passes (λ _. ⊤) (λ e. e.sequence == s) newest it.entry (all_of (λ _. ⊤) (λ _. tt) newest) it.found).1
