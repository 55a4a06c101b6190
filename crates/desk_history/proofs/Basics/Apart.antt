-- Lists whose elements differ, each from those after it.
use Rattle.std.proofs.Common.{◌≡◌, Bool, true, false, cond, List, [], ◌∷◌, ◌++◌, reverse, Option, Some, None, refl, sym, ap, subst, ◌∙◌, append_assoc, find}
use Rattle.std.specs.List.{AllByRecursion}
use Rattle.std.specs.Option.{option_or}
use Rattle.std.proofs.lemmas.List.{reverse-append}
use Rattle.std.proofs.lemmas.List.Folds.{find-append}
use Rattle.desk_history.proofs.Basics.Each.{each-append, each-reverse}

abbrev pub AreApart : {X : Type 0} → (X → X → Type 0) → List X → Type 0
AreApart R [] = Unit {0}
AreApart R (x ∷ xs) = AllByRecursion (R x) xs × AreApart R xs

pub apart-append : {X : Type 0} (R : X → X → Type 0) (xs ys : List X) → AreApart R xs → AreApart R ys → AllByRecursion (λ x. AllByRecursion (R x) ys) xs → AreApart R (xs ++ ys)
apart-append R [] ys h k cross = k
apart-append R (x ∷ xs) ys h k cross = (each-append (R x) xs ys h.0 cross.0, apart-append R xs ys h.1 k cross.1)

both_weaker : {X : Type 0} (P : X → Type 0) (R Q : X → Type 0) → ((y : X) → P y → R y → Q y) → (ys : List X) → AllByRecursion P ys → AllByRecursion R ys → AllByRecursion Q ys
both_weaker P R Q f [] p r = tt
both_weaker P R Q f (y ∷ ys) p r = (f y p.0 r.0, both_weaker P R Q f ys p.1 r.1)

-- a weaker difference, given a fact about each element
pub apart-weaker : {X : Type 0} (P : X → Type 0) (R Q : X → X → Type 0) → ((x y : X) → P x → P y → R x y → Q x y)
    → (xs : List X) → AllByRecursion P xs → AreApart R xs → AreApart Q xs
apart-weaker P R Q f [] p h = tt
apart-weaker P R Q f (x ∷ xs) p h = (both_weaker P (R x) (Q x) (λ y py r. f x y p.0 py r) xs p.1 h.0, apart-weaker P R Q f xs p.1 h.1)

none_found : {X : Type 0} (p : X → Bool) (xs : List X) → AllByRecursion (λ x. p x ≡ false) xs → find p xs ≡ None
none_found p [] h = refl
none_found {X} p (x ∷ xs) h = ap (λ (b : Bool). cond b (Some x) (find p xs)) h.0 ∙ none_found p xs h.1

one_more : {X : Type 0} (x : X) (xs S : List X) → reverse (x ∷ xs) ++ S ≡ reverse xs ++ x ∷ S
one_more {X} x xs S = ap (λ (l : List X). l ++ S) (reverse-append (x ∷ []) xs) ∙ append_assoc (reverse xs) (x ∷ []) S

-- If each element of a list passes its own test and no later element passes it, then in the reversed list each
-- element's test finds that element.
pub each_found : {X : Type 0} (p : X → X → Bool) → ((x : X) → p x x ≡ true) → (xs S : List X)
    → AreApart (λ x y. p x y ≡ false) xs → AllByRecursion (λ x. find (p x) (reverse xs ++ S) ≡ Some x) xs
each_found p itself [] S h = tt
each_found {X} p itself (x ∷ xs) S h =
    let more = sym (one_more x xs S) in
    let here : find (p x) (reverse xs ++ x ∷ S) ≡ Some x =
    find-append (p x) (reverse xs) (x ∷ S)
    ∙ ap (λ (o : Option X). option_or o (find (p x) (x ∷ S))) (none_found (p x) (reverse xs) (each-reverse (λ y. p x y ≡ false) xs h.0))
    ∙ ap (λ (b : Bool). cond b (Some x) (find (p x) S)) (itself x) in
    subst (λ (l : List X). (find (p x) l ≡ Some x) × AllByRecursion (λ y. find (p y) l ≡ Some y) xs) more (here, each_found p itself xs (x ∷ S) h.1)
