-- Some of the batches make no more files than all.
use Rattle.std.proofs.Common.{◌≡◌, ℕ, ◌+◌, ◌≤◌, List, [], ◌∷◌, ◌++◌, length, map, Bool, true, false, sym, ap, subst, ◌∙◌, arith, append_assoc, append-nil, All, filter, if◌then◌else◌}
use Rattle.std.specs.List.{AllByRecursion}
use Rattle.std.proofs.lemmas.List.Elements.{recursion_from_All}
use Rattle.std.proofs.lemmas.List.Sums.{sum_by-cons}
use Rattle.desk_plan.specs.declared.batch.Batch.{Batch}
use Rattle.desk_plan.specs.Cut.{files_of}
use Rattle.desk_plan.specs.Batch.{IsBatch}
use Rattle.desk_plan.specs.Files.{fits, runs_from, division}
use Rattle.desk_plan.specs.Runs.{flat}
use Rattle.desk_plan.proofs.Subsequences.{IsSubsequence, tail_of, kept, split, fits_less, fits_front}
use Rattle.desk_plan.proofs.Divisions.{all_fit, EachFits, division-whole, division-runs}
use Rattle.desk_plan.proofs.Submissions.{submissions_fit}

-- a run takes all that fits
joined : (run more batches : List Batch) → fits (run ++ more) ≡ true → runs_from run (more ++ batches) ≡ runs_from (run ++ more) batches
joined run [] batches fit = ap (λ (r : List Batch). runs_from r batches) (sym (append-nil run))
joined run (b ∷ more) batches fit =
    let same = append_assoc run (b ∷ []) more in
    let whole : fits ((run ++ b ∷ []) ++ more) ≡ true = ap fits same ∙ fit in
    ap (λ (t : Bool). if t then runs_from (run ++ b ∷ []) (more ++ batches) else run ∷ runs_from (b ∷ []) (more ++ batches)) (fits_front (run ++ b ∷ []) more whole)
    ∙ joined (run ++ b ∷ []) more batches whole
    ∙ ap (λ (r : List Batch). runs_from r batches) same

few_behind : (n : ℕ) (all : List Batch) (few : (xs : List Batch) → IsSubsequence xs all → length (division xs) ≤ n) (run batches : List Batch) → IsSubsequence batches all → length (runs_from run batches) ≤ n + 1
few_behind n all few run [] part = omega arith
few_behind n all few run (b ∷ batches) part =
    elim (fits (run ++ b ∷ [])) as (λ t. length (if t then runs_from (run ++ b ∷ []) batches else run ∷ runs_from (b ∷ []) batches) ≤ n + 1) [
      | true ↦ few_behind n all few (run ++ b ∷ []) batches (tail_of b batches all part)
      | false ↦ let rest : length (runs_from (b ∷ []) batches) ≤ n = few (b ∷ batches) part in omega arith
    ]

-- The division of some of the batches has no more runs than any runs of all that fit.
no_more : (runs : List (List Batch)) → AllByRecursion (λ run. fits run ≡ true) runs → (xs : List Batch) → IsSubsequence xs (flat runs) → length (division xs) ≤ length runs
no_more [] fit [] part = omega arith
no_more [] fit (x ∷ xs) part = absurd part
no_more (run ∷ runs) fit xs part =
    let s = split xs run (flat runs) part in
    subst (λ (l : List Batch). length (division l) ≤ length (run ∷ runs)) (sym s.whole) (by_front (no_more runs fit.1) s.front s.back s.first s.second)
  where
    by_front : ((xs : List Batch) → IsSubsequence xs (flat runs) → length (division xs) ≤ length runs) → (front back : List Batch) → IsSubsequence front run → IsSubsequence back (flat runs) → length (division (front ++ back)) ≤ length (run ∷ runs)
    by_front few [] back first second = let rest = few back second in omega arith
    by_front few (x ∷ front) back first second =
        let one = joined (x ∷ []) front back (fits_less (x ∷ front) run first fit.0) in
        let rest = few_behind (length runs) (flat runs) few (x ∷ front) back second in
        subst (λ (l : List (List Batch)). length l ≤ length (run ∷ runs)) (sym one) (omega arith)

pub fewer_files : (test : Batch → Bool) (batches : List Batch) → EachFits batches → length (division (filter test batches)) ≤ length (division batches)
fewer_files test batches each =
    no_more (division batches) (all_fit (division batches) (division-runs batches each)) (filter test batches)
    (subst (λ (l : List Batch). IsSubsequence (filter test batches) l) (sym (division-whole batches)) (kept test batches))

fewer_in_cuts : (test : Batch → Bool) (cuts : List (List Batch)) → AllByRecursion (All IsBatch) cuts → files_of (map (filter test) cuts) ≤ files_of cuts
fewer_in_cuts test [] h = omega arith
fewer_in_cuts test (c ∷ cuts) h =
    let first = fewer_files test c (submissions_fit c h.0) in
    let rest = fewer_in_cuts test cuts h.1 in
    let files : List Batch → ℕ = λ batches. length (division batches) in
    omega (arith, sum_by-cons files c cuts, sum_by-cons files (filter test c) (map (filter test) cuts))

pub fewer_in_day : (test : Batch → Bool) (cuts : List (List Batch)) → All (All IsBatch) cuts → files_of (map (filter test) cuts) ≤ files_of cuts
fewer_in_day test cuts h = fewer_in_cuts test cuts (recursion_from_All (All IsBatch) cuts h)
