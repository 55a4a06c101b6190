-- Texts with zeros after them.
use Rattle.std.proofs.Common.{◌≡◌, ◌-◌, ℕ, zero, suc, Bool, true, false, not, ◌==◌, List, [], ◌∷◌, ◌++◌, length, replicate, refl, sym, ap, ◌∙◌, inl, inr, true≢false}
use Rattle.std.specs.List.{list_all, take_while}
use Rattle.std.proofs.lemmas.Bool.{and_parts, cases_Bool, eqb-true}
use Rattle.std.proofs.lemmas.List.Sums.{take_while-cons}
use Rattle.ach_fields.specs.Characters.{is_printable, is_id_character, is_reference_character}
use Rattle.ach_fields.specs.Padding.{is_used, used, with_zeros}

no_more : (k : ℕ) → used (replicate k 0) ≡ []
no_more zero = refl
no_more (suc k) = refl

before_zeros : (s : List ℕ) (k : ℕ) → list_all is_used s ≡ true → used (s ++ replicate k 0) ≡ s
before_zeros [] k h = no_more k
before_zeros (c ∷ s) k h =
    let p = and_parts (is_used c) (list_all is_used s) h in
    take_while-cons is_used c (s ++ replicate k 0) ∙ rw (p.0) (ap (λ (t : List ℕ). c ∷ t) (before_zeros s k p.1))

-- the bytes before the zeros are the text again
pub used_with_zeros : (n : ℕ) (s : List ℕ) → list_all is_used s ≡ true → used (with_zeros n s) ≡ s
used_with_zeros n s h = before_zeros s (n - length s) h

module _ (p : ℕ → Bool) (no : p 0 ≡ false) where
  each_used : (c : ℕ) → p c ≡ true → is_used c ≡ true
  each_used c h =
      elim (cases_Bool (c == 0)) [
        | inl is ↦ absurd (true≢false (sym h ∙ ap p (eqb-true c 0 is) ∙ no))
        | inr other ↦ ap not other
      ]

  all_used : (s : List ℕ) → list_all p s ≡ true → list_all is_used s ≡ true
  all_used [] h = refl
  all_used (c ∷ s) h =
      let parts = and_parts (p c) (list_all p s) h in
      rw (each_used c parts.0) (all_used s parts.1)

-- none of these characters is a zero
pub printable_used : (s : List ℕ) → list_all is_printable s ≡ true → list_all is_used s ≡ true
printable_used = all_used is_printable refl

pub id_used : (s : List ℕ) → list_all is_id_character s ≡ true → list_all is_used s ≡ true
id_used = all_used is_id_character refl

pub reference_used : (s : List ℕ) → list_all is_reference_character s ≡ true → list_all is_used s ≡ true
reference_used = all_used is_reference_character refl
