-- A cut may send its submissions: the batches have sequences of seven digits, and the files hold them.
use Rattle.std.proofs.Common.{◌≡◌, ◌≤◌, ◌+◌, ◌∙◌, ℕ, Bool, true, false, All, List, [], ◌∷◌, map, zip, length, take, drop, refl, ap, sym, subst, arith}
use Rattle.std.specs.Prelude.{nat_le, if◌then◌else◌}
use Rattle.std.proofs.lemmas.Bool.{leb-true}
use Rattle.std.proofs.lemmas.List.{take-map, drop-map}
use Rattle.std.proofs.lemmas.List.Elements.{All-nil, All-cons, All-map, All-take, All-drop, All-weaker, recursion_from_All, All-from_recursion}
use Rattle.ach_fields.specs.Trace.{most_sequence}
use Rattle.desk_plan.specs.declared.batch.Batch as plan
use Rattle.desk_plan.specs.Batch.{IsBatch, IsEntryCount}
use Rattle.desk_plan.specs.Files.{division, fits}
use Rattle.desk_plan.specs.Laws.{OneDivision, DayModifiers}
use Rattle.desk_plan.specs.Modifiers.{modifier_at, most_files}
use Rattle.desk_plan.specs.Runs.{in_runs}
use Rattle.desk_plan.specs.Sequences.{range_after}
use Rattle.desk_history.specs.Files.{files_from}
use Rattle.desk_history.specs.Sendings.{Sending, NumberedBatch, batch_of, entries_in, plan_of}
use Rattle.desk_book.specs.OnCut.{ranges_after}
use Rattle.desk_cut.specs.Sendable.{IsSendable, AreSendable, IsPrintable}
use Rattle.desk_cut.proofs.Prints.{id_printable}

-- what holds of each image holds of each element
pub each_before : {X Y : Type 0} (P : X → Type 0) (f : Y → X) (ys : List Y) → All P (map f ys) → All (λ y. P (f y)) ys
each_before P f [] h = All-nil (λ y. P (f y))
each_before P f (y ∷ ys) h = let t = recursion_from_All P (f y ∷ map f ys) h in All-cons (λ y. P (f y)) y ys t.0 (each_before P f ys (All-from_recursion P (map f ys) t.1))

-- ---- sequences

within : (last n : ℕ) → IsEntryCount n → (goes_on : Bool) → nat_le (last + n) most_sequence ≡ goes_on → (if goes_on then last + 1 else 1) + n ≤ most_sequence + 1
within last n count true is = let room = leb-true (last + n) most_sequence is in omega (arith, room)
within last n count false is = let most = count.1 in omega (arith, most)

pub all_sendable : (last : ℕ) (ss : List Sending) → All IsBatch (map plan_of ss) → All IsSendable (map batch_of (zip (ranges_after last ss) ss))
all_sendable last [] h = All-nil IsSendable
all_sendable last (s ∷ ss) h =
    let t = recursion_from_All IsBatch (plan_of s ∷ map plan_of ss) h in
    let n = length (entries_in s) in
    All-cons IsSendable (batch_of (range_after last n, s)) (map batch_of (zip (ranges_after (range_after last n).1 ss) ss))
    (record { taken = t.0; numbered = within last n t.0.entries (nat_le (last + n) most_sequence) refl })
    (all_sendable (range_after last n).1 ss (All-from_recursion IsBatch (map plan_of ss) t.1))

-- ---- files

abbrev load_of : NumberedBatch → plan.Batch
load_of b = plan_of b.sending

runs_of_loads : (sizes : List ℕ) (bs : List NumberedBatch) → in_runs sizes (map load_of bs) ≡ map (map load_of) (in_runs sizes bs)
runs_of_loads [] bs = refl
runs_of_loads (n ∷ sizes) bs = λ i. take-map load_of n bs i ∷ (ap (in_runs sizes) (drop-map load_of n bs) ∙ runs_of_loads sizes (drop n bs)) i

in_each_run : (sizes : List ℕ) (bs : List NumberedBatch) → All IsSendable bs → All (All IsSendable) (in_runs sizes bs)
in_each_run [] bs h = All-nil (All IsSendable)
in_each_run (n ∷ sizes) bs h =
    All-cons (All IsSendable) (take n bs) (in_runs sizes (drop n bs)) (All-take IsSendable n bs h) (in_each_run sizes (drop n bs) (All-drop IsSendable n bs h))

-- one file may hold each run of the division
pub runs_sendable : OneDivision → (bs : List NumberedBatch) → All IsSendable bs → All AreSendable (in_runs (map length (division (map load_of bs))) bs)
runs_sendable law bs h =
    let sizes = map length (division (map load_of bs)) in
    let divides = law.found (map load_of bs) (All-map IsBatch load_of bs (All-weaker IsSendable (λ b. IsBatch (load_of b)) (λ b s. s.taken) bs h)) in
    let same : division (map load_of bs) ≡ map (map load_of) (in_runs sizes bs) = sym (law.by_sizes (map load_of bs)) ∙ runs_of_loads sizes bs in
    let fit = each_before (λ (run : List plan.Batch). fits run ≡ true) (map load_of) (in_runs sizes bs) (subst (All (λ (run : List plan.Batch). fits run ≡ true)) same divides.fit) in
    let each = in_each_run sizes bs h in
    λ i d lt. record { each = each i d lt; fit = fit i d lt }

pub files_print : DayModifiers → (day made : ℕ) (runs : List (List NumberedBatch)) → made + length runs ≤ most_files → All AreSendable runs → All IsPrintable (files_from day made runs)
files_print law day made [] few h = All-nil IsPrintable
files_print law day made (run ∷ runs) few h =
    let t = recursion_from_All AreSendable (run ∷ runs) h in
    All-cons IsPrintable (record { day = day; modifier = modifier_at made; batches = run }) (files_from day (made + 1) runs)
    (record { modifier = id_printable (modifier_at made) (law.character made (modifier_at made) (law.some made (omega (arith, few)))); batches = t.0 })
    (files_print law day (made + 1) runs (omega (arith, few)) (All-from_recursion AreSendable runs t.1))
