-- Texts with blanks after them.
use Rattle.std.proofs.Common.{◌≡◌, ℕ, zero, suc, ◌-◌, ◌≤◌, Bool, true, false, cond, ◌&&◌, List, [], ◌∷◌, ◌++◌, length, replicate, take, drop, take_at, refl, sym, ap, ◌∙◌, arith, inl, inr, length-append}
use Rattle.std.specs.List.{list_all}
use Rattle.std.proofs.lemmas.List.{length-replicate, append-nil, drop_at, drop_all}
use borrow.Rule.Slice.PartMut.{put_mid}
use Rattle.std.proofs.lemmas.List.Folds.{list_all-append}
use Rattle.std.proofs.lemmas.Bool.{cases_Bool, and_parts, eqb-true}
use Rattle.ach_fields.specs.Text.{is_blank, without_blanks_after, with_blanks_after}

blanks : (k : ℕ) → list_all is_blank (replicate k 32) ≡ true
blanks zero = refl
blanks (suc k) = blanks k

and_true : (b : Bool) → (b && true) ≡ b
and_true true = refl
and_true false = refl

all_blank : (s : List ℕ) (k : ℕ) → list_all is_blank (s ++ replicate k 32) ≡ list_all is_blank s
all_blank s k = list_all-append is_blank s (replicate k 32) ∙ rw (blanks k) (and_true (list_all is_blank s))

only_blanks : (s : List ℕ) → list_all is_blank s ≡ true → without_blanks_after s ≡ []
unfolding without_blanks_after
only_blanks [] h = refl
only_blanks (c ∷ s) h = rw h refl

-- blanks at the end do not count
pub without_blanks_after-blanks : (s : List ℕ) (k : ℕ) → without_blanks_after (s ++ replicate k 32) ≡ without_blanks_after s
unfolding without_blanks_after
without_blanks_after-blanks [] k = only_blanks (replicate k 32) (blanks k)
without_blanks_after-blanks (c ∷ s) k =
    (λ i. cond (all_blank (c ∷ s) k i) [] (c ∷ without_blanks_after-blanks s k i))

and_false : (b : Bool) → (b && false) ≡ false
and_false true = refl
and_false false = refl

not_all : (s : List ℕ) (c : ℕ) → is_blank c ≡ false → list_all is_blank (s ++ c ∷ []) ≡ false
not_all [] c h = rw h refl
not_all (b ∷ s) c h = rw (not_all s c h) (and_false (is_blank b))

-- a text that ends in another character than a blank has none at its end
pub without_blanks_after-push : (s : List ℕ) (c : ℕ) → is_blank c ≡ false → without_blanks_after (s ++ c ∷ []) ≡ s ++ c ∷ []
unfolding without_blanks_after
without_blanks_after-push [] c h = rw h refl
without_blanks_after-push (b ∷ s) c h =
    (λ i. cond (not_all (b ∷ s) c h i) [] (b ∷ without_blanks_after-push s c h i))

blanks_are : (s : List ℕ) → list_all is_blank s ≡ true → replicate (length s) 32 ≡ s
blanks_are [] h = refl
blanks_are (c ∷ s) h =
    let p = and_parts (is_blank c) (list_all is_blank s) h in
    (λ i. sym (eqb-true c 32 p.0) i ∷ blanks_are s p.1 i)

with_blanks_after-nil : (width : ℕ) → with_blanks_after width [] ≡ replicate width 32
unfolding with_blanks_after
with_blanks_after-nil width = let e : width - 0 ≡ width = omega arith in ap (λ n. replicate n 32) e

with_blanks_after-cons : (width c : ℕ) (s : List ℕ) → with_blanks_after (suc width) (c ∷ s) ≡ c ∷ with_blanks_after width s
unfolding with_blanks_after
with_blanks_after-cons width c s = let e : suc width - suc (length s) ≡ width - length s = omega arith in ap (λ n. c ∷ (s ++ replicate n 32)) e

-- padding a text again restores the blanks that were removed
pub with_blanks_after-without_blanks_after : (s : List ℕ) → with_blanks_after (length s) (without_blanks_after s) ≡ s
unfolding without_blanks_after
with_blanks_after-without_blanks_after [] = with_blanks_after-nil 0
with_blanks_after-without_blanks_after (c ∷ s) =
    elim (cases_Bool (list_all is_blank (c ∷ s))) [
      | inl all ↦ ap (λ (b : Bool). with_blanks_after (suc (length s)) (cond b [] (c ∷ without_blanks_after s))) all ∙ with_blanks_after-nil (suc (length s)) ∙ blanks_are (c ∷ s) all
      | inr some ↦ ap (λ (b : Bool). with_blanks_after (suc (length s)) (cond b [] (c ∷ without_blanks_after s))) some ∙ with_blanks_after-cons (length s) c (without_blanks_after s) ∙ ap (λ (t : List ℕ). c ∷ t) (with_blanks_after-without_blanks_after s)
    ]

pub length-with_blanks_after : (width : ℕ) (s : List ℕ) → length s ≤ width → length (with_blanks_after width s) ≡ width
unfolding with_blanks_after
length-with_blanks_after width s le = omega (arith, length-append s (replicate (width - length s) 32), length-replicate {A = ℕ} (width - length s) 32)

-- a text that was written is read again, without the blanks at its end
pub without_blanks_after-with_blanks_after : (width : ℕ) (s : List ℕ) → without_blanks_after (with_blanks_after width s) ≡ without_blanks_after s
unfolding with_blanks_after
without_blanks_after-with_blanks_after width s = without_blanks_after-blanks s (width - length s)

-- a text written at the left of a field, and blanks after it
pub text_with_blanks_after : (s field rest blanks' : List ℕ) (k : ℕ) → length s ≤ length field → length rest ≡ length field - length s → k ≡ length field - length s
    → blanks' ≡ replicate k 32 → put_mid (length s) k (s ++ rest) blanks' ≡ with_blanks_after (length field) s
unfolding with_blanks_after
text_with_blanks_after s field rest blanks' k le len e b =
    let prefix : take (length s) (s ++ rest) ≡ s = take_at s rest (length s) refl in
    let after : drop (length s) (s ++ rest) ≡ rest = drop_at s rest (length s) refl in
    let none : drop k (drop (length s) (s ++ rest)) ≡ [] = ap (drop k) after ∙ drop_all k rest (omega arith) in
    (λ i. prefix i ++ (b i ++ none i)) ∙ ap (λ (t : List ℕ). s ++ t) (append-nil (replicate k 32)) ∙ ap (λ n. s ++ replicate n 32) e
