-- A registry and counts agree with the companies after each change.
use Rattle.std.proofs.Common.{◌≡◌, ◌∙◌, refl, ap, sym, subst, ℕ, Bool, true, false, List, [], ◌∷◌, map, Option, Some, None, cond}
use Rattle.std.specs.Prelude.{if◌then◌else◌, IfSome, find, option_map, bytes_eq, Result, Ok, Err, OnOk, is_ok, is_err}
use Rattle.std.specs.HashMap.{HashMap, get, Updates}
use Rattle.std.proofs.lemmas.Bool.{false_from_ne_true}
use Rattle.std.proofs.lemmas.Slice.Eq.{bytes_eq-Decides}
use Rattle.std.specs.Cmp.Lexicographic.{same_text}
use Rattle.desk_rules.specs.declared.bodies.company.Company.{Company}
use Rattle.desk_rules.specs.declared.bodies.company.Limits.{Limits}
use Rattle.desk_history.specs.History.{with_company, with_limits}
use Rattle.desk_history.specs.Operator.{has_id}
use Rattle.desk_history.proofs.Accounts.Companies.{find_with_company, find_with_limits}
use Rattle.remembering_store.specs.CompanyKeys.{is_same_company}
use Rattle.remembering_store.specs.declared.company_key.CompanyKey.{CompanyKey}

abbrev pub key : List ℕ → CompanyKey
key c = record { company = c }

-- one map is the other with a value at a company
abbrev pub Puts : {X S : Type 0} → List ℕ → X → (m n : HashMap CompanyKey X S) → Type 0
Puts c x m n = (q : CompanyKey) → get is_same_company n q ≡ cond (is_same_company (key c) q) (Some x) (get is_same_company m q)

-- a map has the companies of a list
abbrev pub HasAll : {S : Type 0} → HashMap CompanyKey Company S → List Company → Type 0
HasAll m ks = (q : CompanyKey) → get is_same_company m q ≡ find (has_id q.company) ks

-- ---- a company more

at_text : {S : Type 0} (k : Company) (m n : HashMap CompanyKey Company S) (ks : List Company) → Puts k.id k m n → HasAll m ks
    → (q : CompanyKey) → get is_same_company n q ≡ cond (bytes_eq k.id q.company) (Some k) (find (has_id q.company) ks)
at_text k m n ks puts all q =
    puts q ∙ ap (cond (bytes_eq k.id q.company) (Some k)) (all q)

pub first_put : {S : Type 0} (k : Company) (m n : HashMap CompanyKey Company S) (ks : List Company) → Puts k.id k m n → HasAll m ks → HasAll n (k ∷ ks)
first_put k m n ks puts all q = at_text k m n ks puts all q

pub company_put : {S : Type 0} (k : Company) (m n : HashMap CompanyKey Company S) (ks : List Company) → Puts k.id k m n → find (has_id k.id) ks ≡ None → HasAll m ks → HasAll n (with_company k ks)
company_put k m n ks puts none all q = at_text k m n ks puts all q ∙ sym (find_with_company k ks q.company none)

-- ---- new limits

found_has : (c : List ℕ) (ks : List Company) → IfSome (find (has_id c) ks) (λ k. bytes_eq k.id c ≡ true)
found_has c [] = tt
found_has c (k ∷ ks) = by (bytes_eq k.id c) refl (found_has c ks) where
  by : (t : Bool) → bytes_eq k.id c ≡ t → IfSome (find (has_id c) ks) (λ x. bytes_eq x.id c ≡ true) → IfSome (cond t (Some k) (find (has_id c) ks)) (λ x. bytes_eq x.id c ≡ true)
  by true e rest = e
  by false e rest = rest

-- the limits of one company change nothing of another
others_limited : (id : List ℕ) (limits : Limits) (c : List ℕ) (o : Option Company) → bytes_eq id c ≡ false → IfSome o (λ k. bytes_eq k.id c ≡ true) → option_map (with_limits id limits) o ≡ o
others_limited id limits c None other is = refl
others_limited id limits c (Some k) other is =
    let apart : bytes_eq k.id id ≡ false = false_from_ne_true (bytes_eq k.id id) (λ same.
    let here : bytes_eq id c ≡ true = (bytes_eq-Decides id c).1 (sym (same_text k.id id (sym same)) ∙ same_text k.id c (sym is)) in
    cc) in
    ap (λ (t : Bool). Some (if t then record k { limits = limits } else k)) apart

pub company_limited : {S : Type 0} (id : List ℕ) (limits : Limits) (m n : HashMap CompanyKey Company S) (v : Company) (ks : List Company) → get is_same_company m (key id) ≡ Some v
    → Puts id (record v { limits = limits }) m n → HasAll m ks → HasAll n (map (with_limits id limits) ks)
company_limited id limits m n v ks found puts all q = puts q ∙ by (is_same_company (key id) q) refl ∙ sym (find_with_limits id limits ks q.company) where
  by : (t : Bool) → bytes_eq id q.company ≡ t → cond t (Some (record v { limits = limits })) (get is_same_company m q) ≡ option_map (with_limits id limits) (find (has_id q.company) ks)
  by true e =
      let same = same_text id q.company (sym e) in
      let here : find (has_id q.company) ks ≡ Some v = sym (all q) ∙ ap (λ (c : List ℕ). get is_same_company m (key c)) (sym same) ∙ found in
      let own : bytes_eq v.id q.company ≡ true = subst (λ (o : Option Company). IfSome o (λ x. bytes_eq x.id q.company ≡ true)) here (found_has q.company ks) in
      let named : bytes_eq v.id id ≡ true = (bytes_eq-Decides v.id id).1 (same_text v.id q.company (sym own) ∙ sym same) in
      sym (ap (option_map (with_limits id limits)) here ∙ ap (λ (t : Bool). Some (if t then record v { limits = limits } else v)) named)
  by false e = all q ∙ sym (others_limited id limits q.company (find (has_id q.company) ks) e (found_has q.company ks))

-- the limits of a company that there is not
pub none_limited : {S : Type 0} (id : List ℕ) (limits : Limits) (m : HashMap CompanyKey Company S) (ks : List Company) → get is_same_company m (key id) ≡ None → HasAll m ks → HasAll m (map (with_limits id limits) ks)
none_limited id limits m ks none all q = all q ∙ by (bytes_eq id q.company) refl ∙ sym (find_with_limits id limits ks q.company) where
  by : (t : Bool) → bytes_eq id q.company ≡ t → find (has_id q.company) ks ≡ option_map (with_limits id limits) (find (has_id q.company) ks)
  by true e =
      let absent : find (has_id q.company) ks ≡ None = sym (all q) ∙ ap (λ (c : List ℕ). get is_same_company m (key c)) (sym (same_text id q.company (sym e))) ∙ none in
      absent ∙ sym (ap (option_map (with_limits id limits)) absent)
  by false e = sym (others_limited id limits q.company (find (has_id q.company) ks) e (found_has q.company ks))

-- ---- counts

pub count_set : {S : Type 0} (c : List ℕ) (count : ℕ) (m n : HashMap CompanyKey ℕ S) (before after : List ℕ → ℕ) → Puts c count m n → count ≡ after c
    → ((other : List ℕ) → bytes_eq c other ≡ false → after other ≡ before other)
    → ((q : CompanyKey) → IfSome (get is_same_company m q) (λ x. x ≡ before q.company)) → (q : CompanyKey) → IfSome (get is_same_company n q) (λ x. x ≡ after q.company)
count_set c count m n before after puts is others all q = subst (λ (o : Option ℕ). IfSome o (λ x. x ≡ after q.company)) (sym (puts q)) (by (is_same_company (key c) q) refl) where
  by : (t : Bool) → bytes_eq c q.company ≡ t → IfSome (cond t (Some count) (get is_same_company m q)) (λ x. x ≡ after q.company)
  by true e = is ∙ ap after (same_text c q.company (sym e))
  by false e = subst (λ (z : ℕ). IfSome (get is_same_company m q) (λ x. x ≡ z)) (sym (others q.company e)) (all q)

-- ---- an insertion

-- it put the value in, if there was memory
pub updated : {X T E S : Type 0} (c : List ℕ) (x : X) (m n : HashMap CompanyKey X S) (result : Result T E) → is_err result ≡ false
    → OnOk result (Updates is_same_company m n (key c) (Some x)) → Updates is_same_company m n (key c) (Some x)
updated c x m n (Ok old) ok updates = updates
updated c x m n (Err back) ok updates = absurd cc

pub inserted : {X T E S : Type 0} (c : List ℕ) (x : X) (m n : HashMap CompanyKey X S) (result : Result T E) → is_ok result ≡ true
    → OnOk result (Updates is_same_company m n (key c) (Some x)) → Updates is_same_company m n (key c) (Some x)
inserted c x m n (Ok old) ok updates = updates
inserted c x m n (Err back) ok updates = absurd cc
