-- Running sums over the batches of a file.
use Rattle.std.proofs.Common.{◌≡◌, ℕ, List, [], ◌∷◌, ◌++◌, length, map, true, false, refl, sym, ap, ◌∙◌, if◌then◌else◌}
use Rattle.std.proofs.lemmas.List.{length_push}
use Rattle.std.proofs.lemmas.List.Sums.{sum_by_push}
use Rattle.desk_plan.specs.declared.batch.Batch.{Batch}
use Rattle.desk_plan.specs.declared.load.Load.{Load}
use Rattle.desk_plan.specs.Files.{fits, runs_from}
use Rattle.desk_plan.specs.Load.{load, plus, is_within}

load_push : (run : List Batch) (b : Batch) → load (run ++ b ∷ []) ≡ plus (load run) b
load_push run b = λ i. record {
  debits = sum_by_push (λ b. b.debits) run b i;
  credits = sum_by_push (λ b. b.credits) run b i;
  batches = length_push run b i;
  records = sum_by_push (λ b. b.records) run b i;
}

-- the sizes of the files of further batches, by the load of the present file
abbrev pub sizes_from : Load → List Batch → List ℕ
sizes_from l [] = l.batches ∷ []
sizes_from l (b ∷ batches) = if is_within (plus l b) then sizes_from (plus l b) batches else l.batches ∷ sizes_from (load (b ∷ [])) batches

pub sizes_from-load : (run batches : List Batch) → sizes_from (load run) batches ≡ map length (runs_from run batches)
sizes_from-load run [] = refl
sizes_from-load run (b ∷ batches) =
    let next = sizes_from (load (b ∷ [])) batches in
    ap (λ (l : Load). if is_within l then sizes_from l batches else length run ∷ next) (sym (load_push run b))
    ∙ elim (fits (run ++ b ∷ [])) as (λ t. (if t then sizes_from (load (run ++ b ∷ [])) batches else length run ∷ next) ≡ map length (if t then runs_from (run ++ b ∷ []) batches else run ∷ runs_from (b ∷ []) batches)) [
      | true ↦ sizes_from-load (run ++ b ∷ []) batches
      | false ↦ ap (λ (l : List ℕ). length run ∷ l) (sizes_from-load (b ∷ []) batches)
    ]
