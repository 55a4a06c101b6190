-- The place of a company in the byte order of identifications.
use Rattle.std.proofs.Common.{◌≡◌, ◌∙◌, ap, sym, ℕ, ◌+◌, ◌<◌, Bool, true, false, List, [], ◌∷◌, ◌++◌, take, drop, length, get_or, append_assoc, Ordering}
use Rattle.std.specs.Prelude.{if◌then◌else◌, Option}
use Rattle.std.specs.Cmp.{Agrees}
use Rattle.std.specs.Cmp.Lexicographic.{slice_partial_cmp, lists_agrees}
use Rattle.std.specs.Ordering.{is_some_and, is_lt, nat_cmp}
use Rattle.std.proofs.lemmas.List.{take_more, drop_more}
use Rattle.desk_rules.specs.declared.bodies.company.Company.{Company}
use Rattle.desk_history.specs.History.{with_company}
use Rattle.desk_history.specs.Words.{is_before}

-- what `<` says of the bytes of two texts
pub same_before : {C : ℕ → ℕ → Option Ordering} {s t a b : List ℕ} → Agrees C nat_cmp → s ≡ a → t ≡ b → is_before s t ≡ is_some_and is_lt (slice_partial_cmp C a b)
same_before {C} {s} {t} {a} {b} agrees first second = (λ i. is_before (first i) (second i)) ∙ sym (ap (is_some_and is_lt) (lists_agrees agrees a b))

-- the new company comes before the first one that is greater
pub here_placed : (k x : Company) (ks : List Company) (i : ℕ) → i < length ks → x ≡ get_or ks i x → is_before k.id x.id ≡ true →
    take i ks ++ k ∷ drop i ks ≡ take i ks ++ with_company k (drop i ks)
here_placed k x ks i within is behind =
    let rest = drop (i + 1) ks in
    let here : drop i ks ≡ x ∷ rest = drop_more ks i x within ∙ ap (λ (y : Company). y ∷ rest) (sym is) in
    ap (λ (l : List Company). take i ks ++ k ∷ l) here
    ∙ ap (λ (t : Bool). take i ks ++ (if t then k ∷ x ∷ rest else x ∷ with_company k rest)) (sym behind)
    ∙ ap (λ (l : List Company). take i ks ++ with_company k l) (sym here)

-- a company that is not greater than the new one, which comes somewhere after it
pub later_placed : (k x : Company) (ks : List Company) (i : ℕ) → i < length ks → x ≡ get_or ks i x → is_before k.id x.id ≡ false →
    take (i + 1) ks ++ with_company k (drop (i + 1) ks) ≡ take i ks ++ with_company k (drop i ks)
later_placed k x ks i within is ahead =
    let rest = drop (i + 1) ks in
    let here : drop i ks ≡ x ∷ rest = drop_more ks i x within ∙ ap (λ (y : Company). y ∷ rest) (sym is) in
    let more : take (i + 1) ks ≡ take i ks ++ x ∷ [] = take_more ks i x within ∙ ap (λ (y : Company). take i ks ++ y ∷ []) (sym is) in
    ap (λ (l : List Company). l ++ with_company k rest) more
    ∙ append_assoc (take i ks) (x ∷ []) (with_company k rest)
    ∙ ap (λ (t : Bool). take i ks ++ (if t then k ∷ x ∷ rest else x ∷ with_company k rest)) (sym ahead)
    ∙ ap (λ (l : List Company). take i ks ++ with_company k l) (sym here)
