-- Batches have one division into files.
use Rattle.std.proofs.Common.{◌≡◌, ◌≢◌, ℕ, zero, suc, ◌+◌, ◌⊎◌, List, [], ◌∷◌, ◌++◌, length, get_or, take, Bool, true, false, refl, sym, ap, subst, ◌∙◌, arith, append_assoc, inl, inr, if◌then◌else◌}
use Rattle.std.specs.List.{AllByRecursion, AllAdjacentBelow}
use Rattle.std.proofs.lemmas.Bool.{false≢true, cases_Bool}
use Rattle.std.proofs.lemmas.List.Elements.{All-from_recursion, recursion_from_All}
use Rattle.desk_plan.specs.declared.batch.Batch.{Batch}
use Rattle.desk_plan.specs.Files.{fits, Divides, runs_from, division}
use Rattle.desk_plan.specs.Runs.{flat}
use Rattle.desk_plan.proofs.Subsequences.{fits_front, fits_tail}

-- The runs, one after another.
abbrev pub takes_next : List Batch → List (List Batch) → Bool
takes_next run [] = false
takes_next run (next ∷ runs) = fits (run ++ take 1 next)

abbrev pub AreRuns : List (List Batch) → Type 0
AreRuns [] = Unit {0}
AreRuns (run ∷ runs) = (run ≢ []) × (fits run ≡ true) × (takes_next run runs ≡ false) × AreRuns runs

abbrev IsFull : List Batch → List Batch → Type 0
IsFull run next = fits (run ++ take 1 next) ≡ false

all_some : (runs : List (List Batch)) → AreRuns runs → AllByRecursion (λ run. run ≢ []) runs
all_some [] h = tt
all_some (run ∷ runs) h = (h.0, all_some runs h.3)

pub all_fit : (runs : List (List Batch)) → AreRuns runs → AllByRecursion (λ run. fits run ≡ true) runs
all_fit [] h = tt
all_fit (run ∷ runs) h = (h.1, all_fit runs h.3)

all_full : (runs : List (List Batch)) → AreRuns runs → AllAdjacentBelow IsFull runs (length runs)
all_full [] h k d lt = absurd (omega arith)
all_full (run ∷ []) h k d lt = absurd (omega arith)
all_full (run ∷ next ∷ runs) h zero d lt = h.2
all_full (run ∷ next ∷ runs) h (suc k) d lt =
    let behind : suc (k + 1) ≡ suc k + 1 = omega arith in
    subst (λ (j : ℕ). IsFull (get_or (next ∷ runs) k d) (get_or (run ∷ next ∷ runs) j d)) behind (all_full (next ∷ runs) h.3 k d (omega arith))

divides : (runs : List (List Batch)) (batches : List Batch) → flat runs ≡ batches → AreRuns runs → Divides runs batches
divides runs batches whole h = record {
  whole = whole;
  some = All-from_recursion (λ run. run ≢ []) runs (all_some runs h);
  fit = All-from_recursion (λ run. fits run ≡ true) runs (all_fit runs h);
  full = all_full runs h;
}

rest_full : (run : List Batch) (runs : List (List Batch)) → AllAdjacentBelow IsFull (run ∷ runs) (length (run ∷ runs)) → AllAdjacentBelow IsFull runs (length runs)
rest_full run runs h k d lt =
    let behind : suc k + 1 ≡ suc (k + 1) = omega arith in
    subst (λ (j : ℕ). IsFull (get_or runs k d) (get_or (run ∷ runs) j d)) behind (h (suc k) d (omega arith))

runs_are : (runs : List (List Batch)) → AllByRecursion (λ run. run ≢ []) runs → AllByRecursion (λ run. fits run ≡ true) runs → AllAdjacentBelow IsFull runs (length runs) → AreRuns runs
runs_are [] some fit full = tt
runs_are (run ∷ []) some fit full = (some.0, fit.0, refl, tt)
runs_are (run ∷ next ∷ runs) some fit full = (some.0, fit.0, full 0 [] (omega arith), runs_are (next ∷ runs) some.1 fit.1 (rest_full run (next ∷ runs) full))

pub are_runs : (runs : List (List Batch)) (batches : List Batch) → Divides runs batches → AreRuns runs
are_runs runs batches d = runs_are runs (recursion_from_All (λ run. run ≢ []) runs d.some) (recursion_from_All (λ run. fits run ≡ true) runs d.fit) d.full

-- The runs of `division` are a division.
takes_first : (run : List Batch) (b : Batch) (more batches : List Batch) → takes_next run (runs_from (b ∷ more) batches) ≡ fits (run ++ b ∷ [])
takes_first run b more [] = refl
takes_first run b more (x ∷ batches) =
    elim (fits ((b ∷ more) ++ x ∷ [])) as (λ t. takes_next run (if t then runs_from ((b ∷ more) ++ x ∷ []) batches else (b ∷ more) ∷ runs_from (x ∷ []) batches) ≡ fits (run ++ b ∷ [])) [
      | true ↦ takes_first run b (more ++ x ∷ []) batches
      | false ↦ refl
    ]

not_empty : (b : Batch) (batches : List Batch) → b ∷ batches ≢ []
not_empty b batches e = cc

abbrev pub EachFits : List Batch → Type 0
EachFits batches = AllByRecursion (λ b. fits (b ∷ []) ≡ true) batches

greedy : (first : Batch) (run batches : List Batch) → fits (first ∷ run) ≡ true → EachFits batches → AreRuns (runs_from (first ∷ run) batches)
greedy first run [] fit each = (not_empty first run, fit, refl, tt)
greedy first run (b ∷ batches) fit each =
    let goal : Bool → Type 0 = λ t. AreRuns (if t then runs_from (first ∷ (run ++ b ∷ [])) batches else (first ∷ run) ∷ runs_from (b ∷ []) batches) in
    elim (cases_Bool (fits ((first ∷ run) ++ b ∷ []))) [
      | inl more ↦ subst goal (sym more) (greedy first (run ++ b ∷ []) batches more each.1)
      | inr full ↦ subst goal (sym full) (not_empty first run, fit, takes_first (first ∷ run) b [] batches ∙ full, greedy b [] batches each.0 each.1)
    ]

runs_from-whole : (run batches : List Batch) → flat (runs_from run batches) ≡ run ++ batches
runs_from-whole run [] = refl
runs_from-whole run (b ∷ batches) =
    elim (fits (run ++ b ∷ [])) as (λ t. flat (if t then runs_from (run ++ b ∷ []) batches else run ∷ runs_from (b ∷ []) batches) ≡ run ++ b ∷ batches) [
      | true ↦ runs_from-whole (run ++ b ∷ []) batches ∙ append_assoc run (b ∷ []) batches
      | false ↦ ap (λ (l : List Batch). run ++ l) (runs_from-whole (b ∷ []) batches)
    ]

pub division-whole : (batches : List Batch) → flat (division batches) ≡ batches
division-whole [] = refl
division-whole (b ∷ batches) = runs_from-whole (b ∷ []) batches

pub division-runs : (batches : List Batch) → EachFits batches → AreRuns (division batches)
division-runs [] each = tt
division-runs (b ∷ batches) each = greedy b [] batches each.0 each.1

pub division-divides : (batches : List Batch) → EachFits batches → Divides (division batches) batches
division-divides batches each = divides (division batches) batches (division-whole batches) (division-runs batches each)

-- There is no other division: of two runs from one place on, the shorter could have taken more.
record Longer (run other rest behind : List Batch) : Type 0 where
  next : Batch
  more : List Batch
  front : other ≡ run ++ next ∷ more
  back : rest ≡ (next ∷ more) ++ behind

compared : (run other rest behind : List Batch) → run ++ rest ≡ other ++ behind → ((run ≡ other) × (rest ≡ behind)) ⊎ (Longer run other rest behind ⊎ Longer other run behind rest)
compared [] [] rest behind e = inl (refl, e)
compared [] (b ∷ other) rest behind e = inr (inl (record { next = b; more = other; front = refl; back = e }))
compared (b ∷ run) [] rest behind e = inr (inr (record { next = b; more = run; front = refl; back = sym e }))
compared (a ∷ run) (b ∷ other) rest behind e =
    let same : a ≡ b = cc in
    let tails : run ++ rest ≡ other ++ behind = cc in
    elim (compared run other rest behind tails) [
      | inl is ↦ inl (λ i. same i ∷ is.0 i, is.1)
      | inr longer ↦ elim longer [
        | inl l ↦ inr (inl (record { next = l.next; more = l.more; front = λ i. sym same i ∷ l.front i; back = l.back }))
        | inr l ↦ inr (inr (record { next = l.next; more = l.more; front = λ i. same i ∷ l.front i; back = l.back }))
      ]
    ]

no_longer : (run other behind : List Batch) (runs : List (List Batch)) → AreRuns (run ∷ runs) → fits other ≡ true → Longer run other (flat runs) behind → ⊥
no_longer run other behind [] h fit l = let none : [] ≡ l.next ∷ (l.more ++ behind) = l.back in cc
no_longer run other behind ([] ∷ runs) h fit l = h.3.0 refl
no_longer run other behind ((b ∷ next) ∷ runs) h fit l =
    let same : b ≡ l.next = cc l.back in
    let whole : other ≡ (run ++ b ∷ []) ++ l.more = l.front ∙ ap (λ (x : Batch). run ++ x ∷ l.more) (sym same) ∙ sym (append_assoc run (b ∷ []) l.more) in
    false≢true (sym h.2 ∙ fits_front (run ++ b ∷ []) l.more (ap fits (sym whole) ∙ fit))

none_left : (runs : List (List Batch)) → AreRuns runs → flat runs ≡ [] → runs ≡ []
none_left [] h e = refl
none_left ([] ∷ runs) h e = absurd (h.0 refl)
none_left ((b ∷ run) ∷ runs) h e = cc

same_runs : (xs ys : List (List Batch)) → AreRuns xs → AreRuns ys → flat xs ≡ flat ys → xs ≡ ys
same_runs [] ys hx hy e = sym (none_left ys hy (sym e))
same_runs (run ∷ xs) [] hx hy e = none_left (run ∷ xs) hx e
same_runs (run ∷ xs) (other ∷ ys) hx hy e =
    elim (compared run other (flat xs) (flat ys) e) [
      | inl same ↦ λ i. same.0 i ∷ same_runs xs ys hx.3 hy.3 same.1 i
      | inr longer ↦ elim longer [
        | inl l ↦ absurd (no_longer run other (flat ys) xs hx hy.1 l)
        | inr l ↦ absurd (no_longer other run (flat xs) ys hy hx.1 l)
      ]
    ]

-- the batches of runs that fit, fit alone
run_fits : (run batches : List Batch) → fits run ≡ true → EachFits batches → EachFits (run ++ batches)
run_fits [] batches fit each = each
run_fits (b ∷ run) batches fit each = (fits_front (b ∷ []) run fit, run_fits run batches (fits_tail b run fit) each)

each_fits : (runs : List (List Batch)) → AreRuns runs → EachFits (flat runs)
each_fits [] h = tt
each_fits (run ∷ runs) h = run_fits run (flat runs) h.1 (each_fits runs h.3)

pub only_division : (batches : List Batch) (runs : List (List Batch)) → Divides runs batches → runs ≡ division batches
only_division batches runs d =
    let h = are_runs runs batches d in
    same_runs runs (division batches) h (division-runs batches (subst EachFits d.whole (each_fits runs h))) (d.whole ∙ sym (division-whole batches))
