-- A trace names the youngest entry that has it.
use Rattle.std.proofs.Common.{◌≡◌, Bool, true, cond, List, [], ◌∷◌, ◌++◌, Option, Some, None, refl, sym, ap, ◌∙◌, inl, inr, find}
use Rattle.std.specs.Option.{option_or}
use Rattle.std.proofs.lemmas.Bool.{cases_Bool}
use Rattle.std.proofs.lemmas.List.Folds.{find-append}
use Rattle.desk_history.specs.Resolve.{has_trace}
use Rattle.desk_history.specs.SentLaws.{TracesName}

-- the first of a list that passes
pub record IsFirst {X : Type 0} (p : X → Bool) (xs : List X) (x : X) : Type 0 where
  pub before : List X
  pub behind : List X
  pub among : xs ≡ before ++ x ∷ behind
  pub passes : p x ≡ true
  pub alone : find p before ≡ None

pub first_found : {X : Type 0} (p : X → Bool) (xs : List X) (x : X) → find p xs ≡ Some x → IsFirst p xs x
first_found p [] x h = cc
first_found {X} p (y ∷ ys) x h = elim (cases_Bool (p y)) [
  | inl here ↦
      let is : Some y ≡ Some x = ap (λ (b : Bool). cond b (Some y) (find p ys)) (sym here) ∙ h in
      let same : y ≡ x = cc in
      record { before = []; behind = ys; among = ap (λ (z : X). z ∷ ys) same; passes = ap p (sym same) ∙ here; alone = refl }
  | inr other ↦
      let rest = first_found p ys x (ap (λ (b : Bool). cond b (Some y) (find p ys)) (sym other) ∙ h) in
      record {
        before = y ∷ rest.before;
        behind = rest.behind;
        among = ap (λ (zs : List X). y ∷ zs) rest.among;
        passes = rest.passes;
        alone = ap (λ (b : Bool). cond b (Some y) (find p rest.before)) other ∙ rest.alone;
      }
]

pub found_first : {X : Type 0} (p : X → Bool) (xs : List X) (x : X) → IsFirst p xs x → find p xs ≡ Some x
found_first {X} p xs x h =
    ap (find p) h.among
    ∙ find-append p h.before (x ∷ h.behind)
    ∙ ap (λ (o : Option X). option_or o (find p (x ∷ h.behind))) h.alone
    ∙ ap (λ (b : Bool). cond b (Some x) (find p h.behind)) h.passes

pub traces_name : TracesName
traces_name = record {
  youngest = λ odfi sent item e h.
      let f = first_found (has_trace odfi item.original_trace) sent e h in
      record { younger = f.before; older = f.behind; among = f.among; has = f.passes; alone = f.alone };
  only = λ odfi sent item e y.
      found_first (has_trace odfi item.original_trace) sent e (record { before = y.younger; behind = y.older; among = y.among; passes = y.has; alone = y.alone });
}
