-- A desk that serves one company alone: its company, and what a cut there sends.
use Rattle.std.proofs.Common.{◌≡◌, ℕ, List, [], ◌∷◌, ◌++◌, map, Bool, true, false, cond, refl, sym, ap, ◌∙◌, inl, inr, if◌then◌else◌, Option, Some, None, find, filter, bytes_eq}
use Rattle.std.proofs.lemmas.Bool.{cases_Bool, false_from_ne_true}
use Rattle.std.proofs.lemmas.List.Elements.{filter-append}
use Rattle.std.proofs.lemmas.Slice.Eq.{bytes_eq-Decides}
use Rattle.desk_rules.specs.declared.bodies.company.Company.{Company}
use Rattle.desk_rules.specs.declared.bodies.company.Limits.{Limits}
use Rattle.desk_history.specs.Words.{is_before}
use Rattle.desk_history.specs.Part.{Event}
use Rattle.desk_history.specs.Accepted.{is_sent_next}
use Rattle.desk_history.specs.Acceptance.{submissions}
use Rattle.desk_history.specs.Sendings.{Sending}
use Rattle.desk_history.specs.History.{with_company, with_limits, sendings_of, sendings}
use Rattle.desk_history.specs.Operator.{has_id}
use Rattle.desk_history.proofs.Accounts.Companies.{same_id}
use Rattle.desk_history.proofs.Traces.SentWith.{sent_of}

-- ---- what is found and what is filtered

pub none_first : {X : Type 0} (p : X → Bool) (x : X) (xs : List X) → find p (x ∷ xs) ≡ None → (p x ≡ false) × (find p xs ≡ None)
none_first {X} p x xs h = at (p x) (find p xs) h where
  at : (t : Bool) (o : Option X) → (if t then Some x else o) ≡ None → (t ≡ false) × (o ≡ None)
  at true o h = cc
  at false o h = (refl, h)

pub none_filtered : {X : Type 0} (p : X → Bool) (xs : List X) → find p xs ≡ None → filter p xs ≡ []
none_filtered p [] h = refl
none_filtered {X} p (x ∷ xs) h =
    let parts = none_first p x xs h in
    ap (λ (b : Bool). cond b (x ∷ filter p xs) (filter p xs)) parts.0 ∙ none_filtered p xs parts.1

pub find_filtered : {X : Type 0} (p : X → Bool) (xs : List X) → find p (filter p xs) ≡ find p xs
find_filtered p [] = refl
find_filtered {X} p (x ∷ xs) = elim (cases_Bool (p x)) [
  | inl yes' ↦
      ap (λ (b : Bool). find p (cond b (x ∷ filter p xs) (filter p xs))) yes'
      ∙ ap (λ (b : Bool). cond b (Some x) (find p (filter p xs))) yes'
      ∙ sym (ap (λ (b : Bool). cond b (Some x) (find p xs)) yes')
  | inr no' ↦
      ap (λ (b : Bool). find p (cond b (x ∷ filter p xs) (filter p xs))) no'
      ∙ find_filtered p xs
      ∙ sym (ap (λ (b : Bool). cond b (Some x) (find p xs)) no')
]

pub filter_all : {X Y : Type 0} (p : X → Bool) (f : Y → X) → ((y : Y) → p (f y) ≡ true) → (ys : List Y) → filter p (map f ys) ≡ map f ys
filter_all p f all [] = refl
filter_all {X} p f all (y ∷ ys) =
    ap (λ (b : Bool). cond b (f y ∷ filter p (map f ys)) (filter p (map f ys))) (all y)
    ∙ ap (λ (l : List X). f y ∷ l) (filter_all p f all ys)

pub filter_none : {X Y : Type 0} (p : X → Bool) (f : Y → X) → ((y : Y) → p (f y) ≡ false) → (ys : List Y) → filter p (map f ys) ≡ []
filter_none p f none [] = refl
filter_none {X} p f none (y ∷ ys) =
    ap (λ (b : Bool). cond b (f y ∷ filter p (map f ys)) (filter p (map f ys))) (none y)
    ∙ filter_none p f none ys

pub filter-map : {X Y : Type 0} (p : X → Bool) (q : Y → Bool) (f : Y → X) → ((y : Y) → p (f y) ≡ q y) → (ys : List Y) → filter p (map f ys) ≡ map f (filter q ys)
filter-map p q f same [] = refl
filter-map {X} p q f same (y ∷ ys) =
    ap (λ (b : Bool). cond b (f y ∷ filter p (map f ys)) (filter p (map f ys))) (same y)
    ∙ ap (λ (l : List X). cond (q y) (f y ∷ l) l) (filter-map p q f same ys)
    ∙ elim (q y) as (λ b. cond b (f y ∷ map f (filter q ys)) (map f (filter q ys)) ≡ map f (cond b (y ∷ filter q ys) (filter q ys))) [ true ↦ refl | false ↦ refl ]

-- ---- the one company

pub own_registered : (c : List ℕ) (k : Company) (ks : List Company) → has_id c k ≡ true → find (has_id c) ks ≡ None → filter (has_id c) (with_company k ks) ≡ k ∷ []
own_registered c k [] own none = ap (λ (b : Bool). cond b (k ∷ []) []) own
own_registered c k (other ∷ ks) own none =
    let parts = none_first (has_id c) other ks none in
    elim (is_before k.id other.id) as (λ b. filter (has_id c) (if b then k ∷ other ∷ ks else other ∷ with_company k ks) ≡ k ∷ []) [
      | true ↦
          ap (λ (b : Bool). cond b (k ∷ filter (has_id c) (other ∷ ks)) (filter (has_id c) (other ∷ ks))) own
          ∙ ap (λ (l : List Company). k ∷ l) (none_filtered (has_id c) (other ∷ ks) none)
      | false ↦
          ap (λ (b : Bool). cond b (other ∷ filter (has_id c) (with_company k ks)) (filter (has_id c) (with_company k ks))) parts.0
          ∙ own_registered c k ks own parts.1
    ]

pub other_registered : (c : List ℕ) (k : Company) (ks : List Company) → has_id c k ≡ false → filter (has_id c) (with_company k ks) ≡ filter (has_id c) ks
other_registered c k [] other = ap (λ (b : Bool). cond b (k ∷ []) []) other
other_registered c k (first ∷ ks) other =
    elim (is_before k.id first.id) as (λ b. filter (has_id c) (if b then k ∷ first ∷ ks else first ∷ with_company k ks) ≡ filter (has_id c) (first ∷ ks)) [
      | true ↦ ap (λ (b : Bool). cond b (k ∷ filter (has_id c) (first ∷ ks)) (filter (has_id c) (first ∷ ks))) other
      | false ↦ ap (λ (l : List Company). cond (has_id c first) (first ∷ l) l) (other_registered c k ks other)
    ]

still_has_id : (c id : List ℕ) (limits : Limits) (k : Company) → has_id c (with_limits id limits k) ≡ has_id c k
still_has_id c id limits k = ap (λ (i : List ℕ). bytes_eq i c) (same_id id limits k)

pub own_limited : (c id : List ℕ) (limits : Limits) (ks : List Company) → filter (has_id c) (map (with_limits id limits) ks) ≡ map (with_limits id limits) (filter (has_id c) ks)
own_limited c id limits ks = filter-map (has_id c) (has_id c) (with_limits id limits) (still_has_id c id limits) ks

-- limits of another company change nothing of its own
pub other_limited : (c id : List ℕ) (limits : Limits) (ks : List Company) → bytes_eq id c ≡ false → filter (has_id c) (map (with_limits id limits) ks) ≡ filter (has_id c) ks
other_limited c id limits [] other = refl
other_limited c id limits (k ∷ ks) other =
    ap (λ (b : Bool). cond b (with_limits id limits k ∷ filter (has_id c) (map (with_limits id limits) ks)) (filter (has_id c) (map (with_limits id limits) ks))) (still_has_id c id limits k)
    ∙ ap (λ (l : List Company). cond (has_id c k) (with_limits id limits k ∷ l) l) (other_limited c id limits ks other)
    ∙ elim (cases_Bool (has_id c k)) [
      | inl own ↦
          let is : k.id ≡ c = (bytes_eq-Decides k.id c).0 own in
          let differ : bytes_eq k.id id ≡ false = false_from_ne_true (bytes_eq k.id id) (λ there.
          let same : bytes_eq id c ≡ true = (bytes_eq-Decides id c).1 (sym ((bytes_eq-Decides k.id id).0 there) ∙ is) in
          cc) in
          ap (λ (b : Bool). cond (has_id c k) ((if b then record k { limits = limits } else k) ∷ filter (has_id c) ks) (filter (has_id c) ks)) differ
      | inr away ↦
          ap (λ (b : Bool). cond b (with_limits id limits k ∷ filter (has_id c) ks) (filter (has_id c) ks)) away
          ∙ sym (ap (λ (b : Bool). cond b (k ∷ filter (has_id c) ks) (filter (has_id c) ks)) away)
    ]

-- ---- what a cut sends

abbrev pub is_sending_of : List ℕ → Sending → Bool
is_sending_of c s = has_id c s.company

-- The lone desk sends exactly the company's entries that the whole desk sends.
pub own_sends : (c : List ℕ) (parts lone : List ℕ → List Event) → parts c ≡ lone c → (ks : List Company)
    → filter (is_sending_of c) (sendings parts ks) ≡ sendings lone (filter (has_id c) ks)
own_sends c parts lone same [] = refl
own_sends c parts lone same (k ∷ ks) =
    filter-append (is_sending_of c) (sendings_of parts k) (sendings parts ks)
    ∙ elim (cases_Bool (has_id c k)) [
      | inl own ↦
          let is : k.id ≡ c = (bytes_eq-Decides k.id c).0 own in
          (λ i. (filter_all (is_sending_of c) (sent_of parts k) (λ a. own) (filter (is_sent_next (parts k.id)) (submissions (parts k.id))) ∙ with_part k (ap parts is ∙ same ∙ ap lone (sym is))) i
          ++ own_sends c parts lone same ks i)
          ∙ sym (ap (λ (b : Bool). sendings lone (cond b (k ∷ filter (has_id c) ks) (filter (has_id c) ks))) own)
      | inr other ↦
          (λ i. filter_none (is_sending_of c) (sent_of parts k) (λ a. other) (filter (is_sent_next (parts k.id)) (submissions (parts k.id))) i
          ++ own_sends c parts lone same ks i)
          ∙ sym (ap (λ (b : Bool). sendings lone (cond b (k ∷ filter (has_id c) ks) (filter (has_id c) ks))) other)
    ]
  where
    with_part : (k : Company) → parts k.id ≡ lone k.id → sendings_of parts k ≡ sendings_of lone k
    with_part k e = ap (λ (P : List Event). sendings_of (λ _. P) k) e
