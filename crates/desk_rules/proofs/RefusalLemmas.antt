-- The first refusal of a list, and the rows before it.
use Rattle.std.proofs.Common.{◌≡◌, ◌++◌, ◌∷◌, [], Bool, true, false, List, Ok, Err, refl, ap, ◌∙◌}
use Rattle.std.proofs.lemmas.List.Elements.{All-nil, All-cons, All-head, All-tail}
use Rattle.desk_rules.specs.declared.refusals.refusal.Refusal.{Refusal}
use Rattle.desk_rules.specs.Chain.{first_refusal}
use Rattle.desk_rules.specs.Laws.{IsFirst, NoneHolds}

abbrev Fails : Bool × Refusal → Type 0
Fails row = row.0 ≡ false

-- one more row before the others whose condition does not hold
more : (refusal : Refusal) (rows : List (Bool × Refusal)) → NoneHolds rows → NoneHolds ((false, refusal) ∷ rows)
more refusal rows none = All-cons Fails (false, refusal) rows refl none

-- the first row's condition holds, so it is not true that none does
apart : (refusal : Refusal) (rows : List (Bool × Refusal)) → NoneHolds ((true, refusal) ∷ rows) → true ≡ false
apart refusal rows none = All-head Fails (true, refusal) rows none

pub accepted : (rows : List (Bool × Refusal)) → first_refusal rows ≡ Ok tt → NoneHolds rows
accepted [] e = All-nil Fails
accepted ((true, r) ∷ rows) e = absurd (cc)
accepted ((false, r) ∷ rows) e = more r rows (accepted rows e)

pub accepts : (rows : List (Bool × Refusal)) → NoneHolds rows → first_refusal rows ≡ Ok tt
accepts [] none = refl
accepts ((true, r) ∷ rows) none = let e : true ≡ false = apart r rows none in cc
accepts ((false, r) ∷ rows) none = accepts rows (All-tail Fails (false, r) rows none)

pub refused : (rows : List (Bool × Refusal)) (refusal : Refusal) → first_refusal rows ≡ Err refusal → IsFirst rows refusal
refused [] refusal e = absurd (cc)
refused ((true, r) ∷ rows) refusal e =
    let same : r ≡ refusal = cc in
    record { front = []; rest = rows; rows_are = ap (λ (x : Refusal). (true, x) ∷ rows) same; before = All-nil Fails }
refused ((false, r) ∷ rows) refusal e =
    let found = refused rows refusal e in
    record { front = (false, r) ∷ found.front; rest = found.rest; rows_are = ap (λ (xs : List (Bool × Refusal)). (false, r) ∷ xs) found.rows_are; before = more r found.front found.before }

behind : (front rest : List (Bool × Refusal)) (refusal : Refusal) → NoneHolds front → first_refusal (front ++ (true, refusal) ∷ rest) ≡ Err refusal
behind [] rest refusal none = refl
behind ((true, r) ∷ front) rest refusal none = let e : true ≡ false = apart r front none in cc
behind ((false, r) ∷ front) rest refusal none = behind front rest refusal (All-tail Fails (false, r) front none)

pub refuses : (rows : List (Bool × Refusal)) (refusal : Refusal) → IsFirst rows refusal → first_refusal rows ≡ Err refusal
refuses rows refusal first = ap first_refusal first.rows_are ∙ behind first.front first.rest refusal first.before
