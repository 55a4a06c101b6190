-- Searches in a list with one more element at its end.
use Rattle.std.proofs.Common.{◌≡◌, List, [], ◌∷◌, ◌++◌, Bool, true, false, cond, refl, ap, ◌∙◌}
use Rattle.std.specs.Prelude.{◌&&◌, if◌then◌else◌, find, Some, None, is_none, option_map}
use Rattle.std.specs.Option.{option_or}
use Rattle.std.proofs.lemmas.List.Folds.{find-append}

-- it is found first where nothing before it passes
pub first_more : {X Y : Type 0} (value : X → Y) (p : X → Bool) (xs : List X) (x : X)
    → option_map value (find p (xs ++ x ∷ [])) ≡ (if p x && is_none (option_map value (find p xs)) then Some (value x) else option_map value (find p xs))
first_more value p xs x =
    ap (option_map value) (find-append p xs (x ∷ []))
    ∙ elim (find p xs) as (λ o. option_map value (option_or o (cond (p x) (Some x) None)) ≡ (if p x && is_none (option_map value o) then Some (value x) else option_map value o)) [
      | None ↦ elim (p x) as (λ t. option_map value (option_or None (cond t (Some x) None)) ≡ (if t && true then Some (value x) else None)) [ true ↦ refl | false ↦ refl ]
      | Some y ↦ elim (p x) as (λ t. Some (value y) ≡ (if t && false then Some (value x) else Some (value y))) [ true ↦ refl | false ↦ refl ]
    ]
