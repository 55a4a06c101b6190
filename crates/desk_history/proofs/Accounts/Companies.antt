-- The companies of a history: no two have one identification, and each is found under its own.
use Rattle.std.proofs.Common.{◌≡◌, ◌⊎◌, ℕ, List, [], ◌∷◌, map, Bool, true, false, cond, refl, sym, ap, ◌∙◌, subst, inl, inr, if◌then◌else◌, Option, Some, None, option_map, is_none, Result, Ok, Err, find, bytes_eq}
use Rattle.std.specs.Result.{result_ok}
use Rattle.std.proofs.lemmas.Bool.{cases_Bool, false_from_ne_true}
use Rattle.std.proofs.lemmas.Slice.Eq.{bytes_eq-Decides}
use Rattle.desk_rules.specs.declared.bodies.company.Company.{Company}
use Rattle.desk_rules.specs.declared.bodies.company.Limits.{Limits}
use Rattle.desk_rules.specs.declared.refusals.refusal.Refusal as rules
use Rattle.desk_rules.specs.declared.refusals.refusal.Refusal.TheVariants.{CompanyExists}
use Rattle.desk_rules.specs.Chain.{◌>>=◌}
use Rattle.desk_rules.specs.Operator.{company_of, new_limits_of}
use Rattle.desk_history.specs.declared.answer.Outcome.{Outcome}
use Rattle.desk_history.specs.declared.answer.Outcome.TheVariants as done
use Rattle.desk_history.specs.declared.identity.Identity.{Identity}
use Rattle.desk_history.specs.Words.{holds_or, is_before}
use Rattle.desk_history.specs.Message.{Message, PutCompany, PutLimits, Pair, is_accepted}
use Rattle.desk_history.specs.Reply.{answer_of}
use Rattle.desk_history.specs.History.{message_company, message_limits, with_company, with_limits, with_registration, with_new_limits, companies}
use Rattle.desk_history.specs.Operator.{has_id, answer_to, IsHistory}
use Rattle.desk_history.proofs.Basics.Elements.{same_text}

-- no two companies have one identification
abbrev pub Apart : List Company → Type 0
Apart [] = Unit {0}
Apart (k ∷ ks) = (find (has_id k.id) ks ≡ None) × Apart ks

-- two texts that are one with a third are one
one_text : (a b c : List ℕ) → bytes_eq a c ≡ true → bytes_eq b c ≡ true → bytes_eq a b ≡ true
one_text a b c p q = (bytes_eq-Decides a b).1 ((bytes_eq-Decides a c).0 p ∙ sym ((bytes_eq-Decides b c).0 q))

-- ---- a company more

not_first : (k other : Company) (others : List Company) → find (has_id k.id) (other ∷ others) ≡ None
    → (bytes_eq other.id k.id ≡ false) × (find (has_id k.id) others ≡ None)
not_first k other others none = elim (cases_Bool (bytes_eq other.id k.id)) [
  | inl same ↦ (let e : Some other ≡ None = ap (λ (b : Bool). cond b (Some other) (find (has_id k.id) others)) (sym same) ∙ none in cc)
  | inr differ ↦ (differ, ap (λ (b : Bool). cond b (Some other) (find (has_id k.id) others)) (sym differ) ∙ none)
]

pub find_with_company : (k : Company) (ks : List Company) (c : List ℕ) → find (has_id k.id) ks ≡ None
    → find (has_id c) (with_company k ks) ≡ cond (bytes_eq k.id c) (Some k) (find (has_id c) ks)
find_with_company k [] c none = refl
find_with_company k (other ∷ others) c none =
    elim (cases_Bool (is_before k.id other.id)) [
      | inl first ↦ ap (λ (b : Bool). find (has_id c) (if b then k ∷ other ∷ others else other ∷ with_company k others)) first
      | inr behind ↦ ap (λ (b : Bool). find (has_id c) (if b then k ∷ other ∷ others else other ∷ with_company k others)) behind
          ∙ ap (λ (o : Option Company). cond (bytes_eq other.id c) (Some other) o) (find_with_company k others c (not_first k other others none).1)
          ∙ swapped (cases_Bool (bytes_eq k.id c))
    ]
  where
    swapped : (bytes_eq k.id c ≡ true) ⊎ (bytes_eq k.id c ≡ false) →
        cond (bytes_eq other.id c) (Some other) (cond (bytes_eq k.id c) (Some k) (find (has_id c) others))
        ≡ cond (bytes_eq k.id c) (Some k) (cond (bytes_eq other.id c) (Some other) (find (has_id c) others))
    swapped (inl here) =
        let differ : bytes_eq other.id c ≡ false = false_from_ne_true (bytes_eq other.id c) (λ there.
        let same : bytes_eq other.id k.id ≡ true = one_text other.id k.id c there here in
        let apart = (not_first k other others none).0 in
        cc) in
        rw (here, differ) refl
    swapped (inr away) = rw away refl

apart_with_company : (k : Company) (ks : List Company) → find (has_id k.id) ks ≡ None → Apart ks → Apart (with_company k ks)
apart_with_company k [] none apart = (refl, tt)
apart_with_company k (other ∷ others) none apart =
    elim (cases_Bool (is_before k.id other.id)) [
      | inl first ↦ subst (λ (b : Bool). Apart (if b then k ∷ other ∷ others else other ∷ with_company k others)) (sym first) (none, apart)
      | inr behind ↦
          let rest = not_first k other others none in
          let differ : bytes_eq k.id other.id ≡ false = false_from_ne_true (bytes_eq k.id other.id) (λ there.
          let same : bytes_eq other.id k.id ≡ true = one_text other.id k.id other.id (same_text other.id) there in
          let no' = rest.0 in
          cc) in
          subst (λ (b : Bool). Apart (if b then k ∷ other ∷ others else other ∷ with_company k others)) (sym behind)
          (find_with_company k others other.id rest.1 ∙ ap (λ (b : Bool). cond b (Some k) (find (has_id other.id) others)) differ ∙ apart.0, apart_with_company k others rest.1 apart.1)
    ]

-- ---- new limits

pub same_id : (id : List ℕ) (limits : Limits) (k : Company) → (with_limits id limits k).id ≡ k.id
same_id id limits k = elim (bytes_eq k.id id) as (λ b. (if b then record k { limits = limits } else k).id ≡ k.id) [ true ↦ refl | false ↦ refl ]

pub find_with_limits : (id : List ℕ) (limits : Limits) (ks : List Company) (c : List ℕ)
    → find (has_id c) (map (with_limits id limits) ks) ≡ option_map (with_limits id limits) (find (has_id c) ks)
find_with_limits id limits [] c = refl
find_with_limits id limits (k ∷ ks) c =
    ap (λ (i : List ℕ). cond (bytes_eq i c) (Some (with_limits id limits k)) (find (has_id c) (map (with_limits id limits) ks))) (same_id id limits k)
    ∙ elim (bytes_eq k.id c) as (λ b. cond b (Some (with_limits id limits k)) (find (has_id c) (map (with_limits id limits) ks)) ≡ option_map (with_limits id limits) (cond b (Some k) (find (has_id c) ks))) [
      | true ↦ refl
      | false ↦ find_with_limits id limits ks c
    ]

apart_with_limits : (id : List ℕ) (limits : Limits) (ks : List Company) → Apart ks → Apart (map (with_limits id limits) ks)
apart_with_limits id limits [] apart = tt
apart_with_limits id limits (k ∷ ks) apart = (
  ap (λ (i : List ℕ). find (has_id i) (map (with_limits id limits) ks)) (same_id id limits k)
      ∙ find_with_limits id limits ks k.id ∙ ap (option_map (with_limits id limits)) apart.0,
  apart_with_limits id limits ks apart.1,
)

-- ---- a message

-- the answer to a new company, given the registered ones
abbrev pub registering : List Company → Company → Result Outcome rules.Refusal
registering ks k = holds_or CompanyExists (is_none (find (has_id k.id) ks)) >>= (λ _. Ok (done.Company k.id))

-- a company is registered where none has its identification
pub none_before : (ks : List Company) (k : Company) → is_accepted (answer_of (registering ks k)) ≡ true → find (has_id k.id) ks ≡ None
none_before ks k h = by (find (has_id k.id) ks) h where
  by : (o : Option Company) → is_accepted (answer_of (holds_or CompanyExists (is_none o) >>= (λ _. Ok (done.Company k.id)))) ≡ true → o ≡ None
  by None e = refl
  by (Some other) e = cc

apart_with_put : (ks : List Company) (r : Result Company rules.Refusal) → is_accepted (answer_of (r >>= registering ks)) ≡ true → Apart ks → Apart (with_registration (result_ok r) ks)
apart_with_put ks (Err why) h apart = apart
apart_with_put ks (Ok k) h apart = apart_with_company k ks (none_before ks k h) apart

apart_with_changed : (ks : List Company) (o : Option (List ℕ × Limits)) → Apart ks → Apart (with_new_limits o ks)
apart_with_changed ks None apart = apart
apart_with_changed ks (Some x) apart = apart_with_limits x.0 x.1 ks apart

-- the companies after a message
abbrev pub companies_after : Bool → Message → List Company → List Company
companies_after ok m ks = with_new_limits (if ok then message_limits m else None) (with_registration (if ok then message_company m else None) ks)

apart_after : (identity : Identity) (H : List Pair) (m : Message) (ok : Bool) → (ok ≡ true → is_accepted (answer_to identity H m) ≡ true) → Apart (companies H) → Apart (companies_after ok m (companies H))
apart_after identity H (PutCompany d) true by apart = apart_with_put (companies H) (company_of d) (by refl) apart
apart_after identity H (PutLimits d) true by apart = apart_with_changed (companies H) (result_ok (new_limits_of d)) apart
apart_after identity H m true by apart = apart
apart_after identity H m false by apart = apart

-- an accepted answer is the one after the pairs before it
pub accepted_is : (identity : Identity) (x : Pair) (H : List Pair) → IsHistory identity (x ∷ H) → is_accepted x.answer ≡ true → is_accepted (answer_to identity H x.message) ≡ true
accepted_is identity x H is ok = sym (ap is_accepted (is.0 ok)) ∙ ok

pub companies_apart : (identity : Identity) (H : List Pair) → IsHistory identity H → Apart (companies H)
companies_apart identity [] is = tt
companies_apart identity (x ∷ H) is = apart_after identity H x.message (is_accepted x.answer) (accepted_is identity x H is) (companies_apart identity H is.1)
