-- A company is registered once, and stays registered.
use Rattle.std.proofs.Common.{◌≡◌, ℕ, ◌+◌, ◌≤◌, Bool, true, false, cond, List, [], ◌∷◌, map, Option, Some, None, refl, sym, ap, ◌∙◌, inl, inr, arith, bytes_eq, count_by, find, if◌then◌else◌}
use Rattle.std.specs.List.{AllByRecursion}
use Rattle.std.proofs.lemmas.Bool.{cases_Bool}
use Rattle.std.proofs.lemmas.List.Sums.{sum_by-cons}
use Rattle.std.proofs.lemmas.Slice.Eq.{bytes_eq-Decides}
use Rattle.desk_rules.specs.declared.bodies.company.Company.{Company}
use Rattle.desk_rules.specs.declared.bodies.company.Limits.{Limits}
use Rattle.desk_history.specs.declared.identity.Identity.{Identity}
use Rattle.desk_history.specs.Words.{is_before}
use Rattle.desk_history.specs.Message.{Pair}
use Rattle.desk_history.specs.History.{message_company, message_limits, if_accepted, with_company, with_limits, with_registration, with_new_limits, companies}
use Rattle.desk_history.specs.Operator.{has_id, IsHistory}
use Rattle.desk_history.proofs.Accounts.Companies.{Apart, companies_apart, same_id}
use Rattle.desk_history.proofs.Basics.Each.{each-weaker}

-- how many companies have an identification
abbrev pub count_of : List ℕ → List Company → ℕ
count_of c ks = count_by (has_id c) ks

abbrev one : List ℕ → Company → ℕ
one c k = cond (has_id c k) 1 0

pub count_of-cons : (c : List ℕ) (k : Company) (ks : List Company) → count_of c (k ∷ ks) ≡ one c k + count_of c ks
count_of-cons c k ks = sum_by-cons (one c) k ks

count_of-with_company : (c : List ℕ) (k : Company) (ks : List Company) → count_of c (with_company k ks) ≡ one c k + count_of c ks
count_of-with_company c k [] = count_of-cons c k []
count_of-with_company c k (other ∷ ks) =
    let rest = count_of-with_company c k ks in
    let here = count_of-cons c other ks in
    let swapped = count_of-cons c other (with_company k ks) in
    elim (is_before k.id other.id) as (λ b. count_of c (if b then k ∷ other ∷ ks else other ∷ with_company k ks) ≡ one c k + count_of c (other ∷ ks)) [
      | true ↦ count_of-cons c k (other ∷ ks)
      | false ↦ omega arith
    ]

count_of-with_limits : (c id : List ℕ) (limits : Limits) (ks : List Company) → count_of c (map (with_limits id limits) ks) ≡ count_of c ks
count_of-with_limits c id limits [] = refl
count_of-with_limits c id limits (k ∷ ks) =
    let rest = count_of-with_limits c id limits ks in
    let here = count_of-cons c k ks in
    let changed = count_of-cons c (with_limits id limits k) (map (with_limits id limits) ks) in
    let same : one c (with_limits id limits k) ≡ one c k = ap (λ (i : List ℕ). cond (bytes_eq i c) 1 0) (same_id id limits k) in
    omega arith

pub count_of-with_changed : (c : List ℕ) (change : Option (List ℕ × Limits)) (ks : List Company) → count_of c (with_new_limits change ks) ≡ count_of c ks
count_of-with_changed c None ks = refl
count_of-with_changed c (Some x) ks = count_of-with_limits c x.0 x.1 ks

pub count_of-with_put : (c : List ℕ) (put : Option Company) (ks : List Company) → count_of c ks ≤ count_of c (with_registration put ks)
count_of-with_put c None ks = omega arith
count_of-with_put c (Some k) ks = let more = count_of-with_company c k ks in omega arith

-- a company stays registered
pub stays_registered : (x : Pair) (H : List Pair) (c : List ℕ) → 1 ≤ count_of c (companies H) → 1 ≤ count_of c (companies (x ∷ H))
stays_registered x H c some =
    let put = if_accepted x (message_company x.message) in
    let more = count_of-with_put c put (companies H) in
    let same = count_of-with_changed c (if_accepted x (message_limits x.message)) (with_registration put (companies H)) in
    omega arith

-- each of the companies is among them
pub among_themselves : (ks : List Company) → AllByRecursion (λ k. 1 ≤ count_of k.id ks) ks
among_themselves [] = tt
among_themselves (k ∷ ks) =
    let here = count_of-cons k.id k ks in
    let same : one k.id k ≡ 1 = ap (λ (b : Bool). cond b 1 0) ((bytes_eq-Decides k.id k.id).1 refl) in
    (omega arith, each-weaker (λ j. 1 ≤ count_of j.id ks) (λ j. 1 ≤ count_of j.id (k ∷ ks)) (λ j some. let more = count_of-cons j.id k ks in omega arith) ks (among_themselves ks))

none_counted : (c : List ℕ) (ks : List Company) → find (has_id c) ks ≡ None → count_of c ks ≡ 0
none_counted c [] h = refl
none_counted c (k ∷ ks) h = elim (cases_Bool (has_id c k)) [
  | inl is ↦
      let found : Some k ≡ None = ap (λ (b : Bool). cond b (Some k) (find (has_id c) ks)) (sym is) ∙ h in
      cc
  | inr other ↦
      let rest = none_counted c ks (ap (λ (b : Bool). cond b (Some k) (find (has_id c) ks)) (sym other) ∙ h) in
      let here = count_of-cons c k ks in
      let zero : one c k ≡ 0 = ap (λ (b : Bool). cond b 1 0) other in
      omega arith
]

once_apart : (ks : List Company) → Apart ks → (c : List ℕ) → count_of c ks ≤ 1
once_apart [] apart c = omega arith
once_apart (k ∷ ks) apart c =
    let here = count_of-cons c k ks in
    let rest = once_apart ks apart.1 c in
    elim (cases_Bool (has_id c k)) [
      | inl is ↦
          let one_is : one c k ≡ 1 = ap (λ (b : Bool). cond b 1 0) is in
          let none : count_of c ks ≡ 0 = none_counted c ks (ap (λ (i : List ℕ). find (has_id i) ks) (sym ((bytes_eq-Decides k.id c).0 is)) ∙ apart.0) in
          omega arith
      | inr other ↦ let zero : one c k ≡ 0 = ap (λ (b : Bool). cond b 1 0) other in omega arith
    ]

-- a company is registered once
pub registered_once : (identity : Identity) (H : List Pair) → IsHistory identity H → (c : List ℕ) → count_of c (companies H) ≤ 1
registered_once identity H h = once_apart (companies H) (companies_apart identity H h)
