-- Sums of signed amounts.
use Rattle.std.proofs.Common.{slice_index_or, ◌≡◌, ℕ, ◌+◌, Bool, true, false, cond, List, [], ◌∷◌, ℤ, pos, ◌+ℤ◌, refl, ap, ◌∙◌, arith, sym}
use Rattle.std.specs.List.{filter, fold, All, count_by}
use Rattle.std.proofs.lemmas.Int.{ints}
use Rattle.std.proofs.lemmas.List.Elements.{All-head, All-tail}
use Rattle.std.proofs.lemmas.List.Sums.{sum_by-cons}
use Rattle.desk_accounts.specs.Sums.{sum_of}

-- a sum that begins elsewhere
pub sum_from : {X : Type 0} (amount : X → ℤ) (start : ℤ) (xs : List X) → fold (λ sum x. sum +ℤ amount x) start xs ≡ start +ℤ sum_of amount xs
sum_from amount start [] = omega (arith, ints)
sum_from amount start (x ∷ xs) =
    let a = sum_from amount (start +ℤ amount x) xs in
    let b = sum_from amount (pos 0 +ℤ amount x) xs in
    omega (arith, ints)

-- the sum with one more before the others
pub sum_front : {X : Type 0} (amount : X → ℤ) (x : X) (xs : List X) → sum_of amount (x ∷ xs) ≡ amount x +ℤ sum_of amount xs
sum_front amount x xs = let a = sum_from amount (pos 0 +ℤ amount x) xs in omega (arith, ints)

passing_front : {X : Type 0} (amount : X → ℤ) (b : Bool) (x : X) (xs : List X) → sum_of amount (cond b (x ∷ xs) xs) ≡ cond b (amount x) (pos 0) +ℤ sum_of amount xs
passing_front amount true x xs = sum_front amount x xs
passing_front amount false x xs = omega (arith, ints)

-- the sum of what passes a test is that of all, with zero for what does not pass
pub sum_passing : {X : Type 0} (amount : X → ℤ) (p : X → Bool) (xs : List X) → sum_of amount (filter p xs) ≡ sum_of (λ x. cond (p x) (amount x) (pos 0)) xs
sum_passing amount p [] = refl
sum_passing amount p (x ∷ xs) =
    passing_front amount (p x) x (filter p xs)
    ∙ (ap (λ s. cond (p x) (amount x) (pos 0) +ℤ s) (sum_passing amount p xs) ∙ sym (sum_front (λ y. cond (p y) (amount y) (pos 0)) x xs))

-- two amounts that agree at each element have the same sum
pub sum_agree : {X : Type 0} (f g : X → ℤ) (xs : List X) → All (λ x. f x ≡ g x) xs → sum_of f xs ≡ sum_of g xs
sum_agree f g [] h = refl
sum_agree f g (x ∷ xs) h =
    let here = All-head (λ y. f y ≡ g y) x xs h in
    let more = sum_agree f g xs (All-tail (λ y. f y ≡ g y) x xs h) in
    let a = sum_front f x xs in
    let b = sum_front g x xs in
    omega (arith, ints)

-- the sum of two amounts
pub sum_both : {X : Type 0} (f g : X → ℤ) (xs : List X) → sum_of (λ x. f x +ℤ g x) xs ≡ sum_of f xs +ℤ sum_of g xs
sum_both f g [] = refl
sum_both f g (x ∷ xs) =
    let more = sum_both f g xs in
    let a = sum_front f x xs in
    let b = sum_front g x xs in
    let c = sum_front (λ y. f y +ℤ g y) x xs in
    omega (arith, ints)

pub sum_zero : {X : Type 0} (xs : List X) → sum_of (λ x. pos 0) xs ≡ pos 0
sum_zero [] = refl
sum_zero {X} (x ∷ xs) = sum_zero xs

-- one more of two counts
front_none : (b : Bool) (amount sum : ℤ) (n : ℕ) → cond b 1 0 + n ≡ 0 → (n ≡ 0 → sum ≡ pos 0) → cond b amount (pos 0) +ℤ sum ≡ pos 0
front_none true amount sum n h more = absurd (omega arith)
front_none false amount sum n h more = let e = more (omega arith) in omega (arith, ints)

-- an amount for each that passes, if none passes
counted_none : {K : Type 0} (p : K → Bool) (amount : ℤ) (ks : List K) → count_by p ks ≡ 0 → sum_of (λ k. cond (p k) amount (pos 0)) ks ≡ pos 0
counted_none p amount [] h = refl
counted_none p amount (k ∷ ks) h =
    sum_front (λ j. cond (p j) amount (pos 0)) k ks
    ∙ front_none (p k) amount (sum_of (λ j. cond (p j) amount (pos 0)) ks) (count_by p ks) (sym (sum_by-cons (λ j. cond (p j) 1 0) k ks) ∙ h) (counted_none p amount ks)

front_once : (b : Bool) (amount sum : ℤ) (n : ℕ) → cond b 1 0 + n ≡ 1 → (n ≡ 0 → sum ≡ pos 0) → (n ≡ 1 → sum ≡ amount) → cond b amount (pos 0) +ℤ sum ≡ amount
front_once true amount sum n h none once = let e = none (omega arith) in omega (arith, ints)
front_once false amount sum n h none once = let e = once (omega arith) in omega (arith, ints)

-- an amount for each that passes, if one passes
pub counted_once : {K : Type 0} (p : K → Bool) (amount : ℤ) (ks : List K) → count_by p ks ≡ 1 → sum_of (λ k. cond (p k) amount (pos 0)) ks ≡ amount
counted_once p amount [] h = absurd (omega arith)
counted_once p amount (k ∷ ks) h =
    sum_front (λ j. cond (p j) amount (pos 0)) k ks
    ∙ front_once (p k) amount (sum_of (λ j. cond (p j) amount (pos 0)) ks) (count_by p ks) (sym (sum_by-cons (λ j. cond (p j) 1 0) k ks) ∙ h) (counted_none p amount ks) (counted_once p amount ks)

-- where each element belongs to one of the keys, the sums by key make up the whole sum
pub sum_by_keys : {K X : Type 0} (belongs : K → X → Bool) (amount : X → ℤ) (ks : List K) (xs : List X) → All (λ x. count_by (λ k. belongs k x) ks ≡ 1) xs
    → sum_of (λ k. sum_of (λ x. cond (belongs k x) (amount x) (pos 0)) xs) ks ≡ sum_of amount xs
sum_by_keys belongs amount ks [] h = sum_zero ks
sum_by_keys belongs amount ks (x ∷ xs) h =
    let once = All-head (λ y. count_by (λ k. belongs k y) ks ≡ 1) x xs h in
    let rest = All-tail (λ y. count_by (λ k. belongs k y) ks ≡ 1) x xs h in
    let more = sum_by_keys belongs amount ks xs rest in
    let here = counted_once (λ k. belongs k x) (amount x) ks once in
    let each = sum_agree (λ k. sum_of (λ y. cond (belongs k y) (amount y) (pos 0)) (x ∷ xs)) (λ k. cond (belongs k x) (amount x) (pos 0) +ℤ sum_of (λ y. cond (belongs k y) (amount y) (pos 0)) xs) ks
    (λ i d b. sum_front (λ y. cond (belongs (slice_index_or ks i d) y) (amount y) (pos 0)) x xs) in
    let both = sum_both (λ k. cond (belongs k x) (amount x) (pos 0)) (λ k. sum_of (λ y. cond (belongs k y) (amount y) (pos 0)) xs) ks in
    let a = sum_front amount x xs in
    each ∙ (both ∙ omega (arith, ints))
